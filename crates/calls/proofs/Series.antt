-- SERIES (demand 3): for every list of calls, refused ones included, what the calls give back is what the model does,
-- and the table is that of the model's set.
use mathlib.Core.Bool.{Bool, cond, false, true}
use mathlib.Core.List.{List, [], ◌++◌, ◌∷◌, append_assoc}
use mathlib.Core.Path.{◌∙◌, ◌≡◌, ap, ap₂, refl, subst, sym}
use Prim.Native.Nat.{suc, zero, ℕ}
use lib.Dec.{eqb, leb}
use lib.ListN.{length, replicate}
use borrow.Author.Tests.{eqb-true, leb-true}
use Rattle.automata.specs.Acyclic.{Bounded}
use Rattle.automata.specs.Automaton.{Automaton, accepting, accepts, empty_automaton, run, states}
use Rattle.automata.specs.Canonical.{Canonical}
use Rattle.automata.specs.Ranks.{unrank}
use Rattle.automata.specs.Totals.{total}
use Rattle.calls.specs.Calls.{Change, Response, accepted_with, add_result, ask_answer, ask_refusal, asked}
use Rattle.calls.specs.Calls.{change_refusal, change_result, changed, changed_tree, delete, done_with}
use Rattle.calls.specs.Calls.{early_conditions, insert, intake_answer, outcome, presence, refused_or, remove_result}
use Rattle.calls.specs.Calls.{buffer_condition, number_conditions, rank_answer, ranked, scratch_after}
use Rattle.calls.specs.Calls.{scratch_condition, size_conditions, total_answer, totalled, unrank_refusal}
use Rattle.calls.specs.Calls.{unrank_result, written}
use Rattle.calls.specs.Claim.{Agrees, InStep, Meaning}
use Rattle.calls.specs.Series.{AllBring, BringsBytes, Call, Model, add, canonical_of, changed_set}
use Rattle.calls.specs.Series.{empty_model, member, model_conditions, model_of, model_refusal, only_answer, perform}
use Rattle.calls.specs.Series.{query, query_result, remove, replied, respond, settled, with_change}
use Rattle.format.specs.Format.{AllBytes, max_states, max_transitions, table_bytes}
use Rattle.lists.specs.Conditions.{Condition, first_broken}
use Rattle.lists.specs.Tests.{Counts}
use Rattle.table.specs.Intake.{content_conditions, fits_table, length_condition, table_refusal}
use Rattle.table.specs.Layout.{decode, encode}
use Rattle.trees.specs.Legal.{Legal}
use Rattle.trees.specs.Listing.{listing_conditions, listing_refusal, read_tree}
use Rattle.trees.specs.Tree.{Tree}
use Rattle.automata.proofs.CanonicalChange.{canonical-fits}
use Rattle.automata.proofs.Legal.{accepted-legal, canonical-legal}
use Rattle.automata.proofs.ProductCounted.{product-counted}
use Rattle.automata.proofs.Totals.{canonical-total}
use Rattle.calls.proofs.Conditions.{model-from-one, table-from-one}
use Rattle.calls.proofs.Model.{change-canonical, changed-bounded, changed-legal, model-accepts}
use Rattle.calls.proofs.Numbers.{ranked-reports, unrank-numbers}
use Rattle.calls.proofs.Reports.{asked-reports}
use Rattle.lists.proofs.Conditions.{AllHold, append-same, hold-append, hold-first, hold-last, unbroken-hold}
use Rattle.lists.proofs.Tests.{and_left, and_right}
use Rattle.table.proofs.Intake.{canonical-passes, empty-bounded, empty-canonical, empty-limits, encode-empty}
use Rattle.table.proofs.Intake.{passes-canonical}
use Rattle.table.proofs.RoundTrip.{decode-encode}
use Rattle.trees.proofs.ListingRefusal.{passed-legal}

module _ (b : List ℕ) (m : Model) (X : InStep b m) where
  decoded : decode b ≡ canonical_of m
  decoded = ap decode X.table ∙ decode-encode (canonical_of m) X.limits

  -- the set is what the automaton accepts
  accepted : accepts (canonical_of m) ≡ member m
  accepted = model-accepts m X.canonical

  pub in-step-accepts : (u : Tree) → accepts (decode b) u ≡ member m u
  in-step-accepts u =
      ap (λ (A : Automaton). accepts A u) decoded ∙ ap (λ (S : Tree → Bool). S u) accepted

  -- no table condition is broken
  unrefused : table_refusal b ≡ 0
  unrefused =
      rw X.table (canonical-passes (canonical_of m) X.limits
      (subst (λ (S : Tree → Bool). Canonical S (canonical_of m)) (sym accepted) X.canonical)
      (subst Bounded (sym accepted) X.bounded))

  table-hold : AllHold (length_condition b ∷ content_conditions b)
  unfolding table_refusal
  table-hold = unbroken-hold (length_condition b ∷ content_conditions b) (table-from-one b) unrefused

  -- ---- calls that only read

  ask-refusal : (s : List ℕ) → ask_refusal s b ≡ listing_refusal s
  unfolding ask_refusal listing_refusal
  ask-refusal s = hold-last (listing_conditions s) (length_condition b ∷ content_conditions b) table-hold

  ask-same : (s : List ℕ) → ask_answer s b ≡ refused_or (listing_refusal s) (asked (canonical_of m) (read_tree s))
  unfolding ask_answer
  ask-same s =
      ap₂ (λ (r : ℕ) (A : Automaton). refused_or r (asked A (read_tree s))) (ask-refusal s) decoded

  intake-same : intake_answer b ≡ accepted_with (canonical_of m)
  unfolding intake_answer
  intake-same = rw (unrefused, decoded)

  total-same : total_answer b ≡ totalled (total (canonical_of m))
  unfolding total_answer
  total-same = rw (unrefused, decoded)

  rank_same : (s : List ℕ) → rank_answer s b ≡ refused_or (listing_refusal s) (ranked (canonical_of m) (read_tree s))
  unfolding rank_answer
  rank_same s =
      ap₂ (λ (r : ℕ) (A : Automaton). refused_or r (ranked A (read_tree s))) (ask-refusal s) decoded

  -- 6 and 18 to 20, from the set's automaton
  abbrev of_number : ℕ → List ℕ → Automaton → List Condition
  of_number k l A = buffer_condition l ∷ number_conditions (total A) k (unrank A k)

  unrank-refusal : (k : ℕ) (l : List ℕ) → unrank_refusal k b l ≡ first_broken (of_number k l (canonical_of m))
  unfolding unrank_refusal
  unrank-refusal k l =
      rw table-hold.0 (ap (λ (r : ℕ). cond (buffer_condition l).holds r 6)
      (hold-first (content_conditions b) (number_conditions (total (decode b)) k (unrank (decode b) k)) table-hold.1))
      ∙ ap (λ (A : Automaton). first_broken (of_number k l A)) decoded

  unrank-same : (k : ℕ) (l : List ℕ) → unrank_result k b l ≡
      written (first_broken (of_number k l (canonical_of m))) (unrank (canonical_of m) k) l
  unfolding unrank_result
  unrank-same k l =
      ap₂ (λ (r : ℕ) (A : Automaton). written r (unrank A k) l) (unrank-refusal k l) decoded

  counted : Counts (λ t. member m t ≡ true) (total (canonical_of m))
  counted = canonical-total (member m) (canonical_of m) X.canonical X.bounded

  pub in-step-meaning : Meaning m
  unfolding query_result
  in-step-meaning = record {
    canonical = X.canonical;
    changes = change-canonical m X.canonical;
    pairs = λ t. product-counted t (canonical_of m) (canonical-fits (member m) (canonical_of m) X.canonical);
    asked = λ s. record {
      answer = asked (canonical_of m) (read_tree s);
      reports = asked-reports (member m) (canonical_of m) X.canonical (read_tree s);
      response = ap only_answer (ap (ask_answer s) (sym X.table) ∙ ask-same s);
    };
    taken = ap only_answer (ap intake_answer (sym X.table) ∙ intake-same);
    counted = record {
      number = total (canonical_of m);
      counts = counted;
      response = ap only_answer (ap total_answer (sym X.table) ∙ total-same);
    };
    ranked = λ s. record {
      number = total (canonical_of m);
      counts = counted;
      answer = ranked (canonical_of m) (read_tree s);
      reports = ranked-reports (member m) (canonical_of m) X.canonical X.bounded (read_tree s);
      response = ap only_answer (ap (rank_answer s) (sym X.table) ∙ rank_same s);
    };
    unranked = λ k l. record {
      number = total (canonical_of m);
      counts = counted;
      tree = unrank (canonical_of m) k;
      numbers = unrank-numbers (member m) (canonical_of m) X.canonical X.bounded k;
      response = ap (λ (b : List ℕ). unrank_result k b l) (sym X.table) ∙ unrank-same k l;
    };
  }

  -- ---- changes

  module _ (c : Change) (s w : List ℕ) where
    -- what the call asks of the table beside the model's conditions holds
    pub change-refusal : change_refusal c s b w ≡ model_refusal m c s w
    unfolding change_refusal early_conditions model_refusal model_conditions canonical_of
    change-refusal =
        ap first_broken (append_assoc (listing_conditions s) _ sizes)
        ∙ append-same (listing_conditions s)
        (length_condition b ∷ scratch_condition w ∷ ((content_conditions b ++ (present ∷ [])) ++ sizes))
        (scratch_condition w ∷ ours) (rw table-hold.0 (ap (λ (r : ℕ). cond (scratch_condition w).holds r 6) rest))
      where
        present : Condition
        present = presence c (accepts (decode b) (changed_tree c))

        sizes : List Condition
        sizes = size_conditions c (decode b)

        ours : List Condition
        ours = presence c (member m (changed_tree c)) ∷ size_conditions c (canonical_of m)

        rest : first_broken ((content_conditions b ++ (present ∷ [])) ++ sizes) ≡ first_broken ours
        rest =
            ap first_broken (append_assoc (content_conditions b) (present ∷ []) sizes)
            ∙ hold-first (content_conditions b) (present ∷ sizes) table-hold.1
            ∙ ap (λ (A : Automaton). first_broken (presence c (accepts A (changed_tree c)) ∷ size_conditions c A)) decoded
            ∙ ap (λ (S : Tree → Bool). first_broken (presence c (S (changed_tree c)) ∷ size_conditions c (canonical_of
            m))) accepted

  -- a change that no condition refuses, by a legal tree
  changed-in-step : (c : Change) → Legal (changed_tree c) → fits_table (canonical_of (with_change c m)) ≡ true →
      InStep (encode (changed c (decode b))) (with_change c m)
  unfolding member canonical_of
  changed-in-step c l f = record {
    table = ap (λ (A : Automaton). encode (changed c A)) decoded;
    canonical = Y;
    bounded = changed-bounded c (member m) X.bounded;
    limits = record {
      states = leb-true (states B) max_states (and_left _ _ f);
      transitions = leb-true (length B.transitions) max_transitions (and_right (leb (states B) max_states) _ f);
      legal = canonical-legal (changed_set c (member m)) B Y (changed-legal c (member m) l members-legal);
    };
  }
    where
      B : Automaton
      B = canonical_of (with_change c m)

      Y : Canonical (changed_set c (member m)) B
      Y = change-canonical m X.canonical c

      members-legal : (u : Tree) → member m u ≡ true → Legal u
      members-legal u e =
          accepted-legal (canonical_of m) X.limits.legal u (ap (λ (S : Tree → Bool). S u) accepted ∙ e)

  module _ (c : Change) (s w : List ℕ) (bytes : AllBytes s) (tree : changed_tree c ≡ read_tree s) where
    abbrev r : ℕ
    r = model_refusal m c s w

    -- if nothing is refused, the listing was that of a legal tree and the new table has room
    fresh : model_refusal m c s w ≡ 0 → InStep (encode (changed c (decode b))) (with_change c m)
    unfolding model_refusal model_conditions
    fresh e =
        let (p, q) = hold-append (listing_conditions s) _ (unbroken-hold (model_conditions m c s w)
        (model-from-one m c s w) e) in
        changed-in-step c (subst Legal (sym tree) (passed-legal s bytes p)) q.1.1.1.0

    pub change-response : (replied (change_result c s b w)).response ≡ (settled (model_refusal m c s w) c w m).response
    unfolding change_result outcome canonical_of
    change-response =
        ap₂ (λ (n : ℕ) (A : Automaton). response n A) (change-refusal c s w) decoded
      where
        response : ℕ → Automaton → Response
        response n A = record { answer = refused_or n (done_with (changed c A)); lent = scratch_after n w }

    pub change-in-step : InStep (change_result c s b w).table (settled (model_refusal m c s w) c w m).next
    unfolding change_result outcome
    change-in-step = rw (change-refusal c s w) (go (eqb r 0) refl)
      where
        go : (t : Bool) → eqb r 0 ≡ t → InStep (cond t (encode (changed c (decode b))) b) (cond t (with_change c m) m)
        go true e = fresh (eqb-true r 0 e)
        go false e = X

  -- one call
  pub one-call : (c : Call) → BringsBytes c →
      ((perform b c).response ≡ (respond m c).response) × InStep (perform b c).next (respond m c).next
  unfolding perform respond add_result remove_result
  one-call (query x) h = (ap (query_result x) X.table, X)
  one-call (add s w) h =
      (change-response (insert (read_tree s)) s w h refl, change-in-step (insert (read_tree s)) s w h refl)
  one-call (remove s w) h =
      (change-response (delete (read_tree s)) s w h refl, change-in-step (delete (read_tree s)) s w h refl)

from_step : (b : List ℕ) (m : Model) → InStep b m → (cs : List Call) → AllBring cs → Agrees b m cs
from_step b m X [] h = record { responses = refl; table = X.table; meaning = in-step-meaning b m X }
from_step b m X (c ∷ cs) h =
    let (a, Y) = one-call b m X c h.0 in
    let R = from_step (perform b c).next (respond m c).next Y cs h.1 in
    record {
      responses = λ i. a i ∷ R.responses i;
      table = R.table;
      meaning = (in-step-meaning b m X, R.meaning);
    }

-- a table that passed intake is in step with its model
pub passed-in-step : (b : List ℕ) → AllBytes b → table_refusal b ≡ 0 → InStep b (model_of b)
unfolding model_of member canonical_of
passed-in-step b h e = let P = passes-canonical b h e in record {
  table = P.bytes;
  canonical = P.canonical;
  bounded = P.bounded;
  limits = P.limits;
}

-- SERIES: from every table that passed intake, for every list of calls that bring any bytes of any length
pub series : (b : List ℕ) → AllBytes b → table_refusal b ≡ 0 → (cs : List Call) → AllBring cs → Agrees b (model_of b) cs
series b h e cs bring = from_step b (model_of b) (passed-in-step b h e) cs bring

-- the all-zero table is in step with the model of the empty set
pub zero-in-step : InStep (replicate table_bytes 0) empty_model
unfolding empty_model member canonical_of
zero-in-step = record {
  table = sym encode-empty;
  canonical = empty-canonical;
  bounded = empty-bounded;
  limits = empty-limits;
}

-- SERIES from the all-zero table, the model starting from the empty set
pub series-empty : (cs : List Call) → AllBring cs → Agrees (replicate table_bytes 0) empty_model cs
series-empty cs bring = from_step (replicate table_bytes 0) empty_model zero-in-step cs bring

pub empty-model : (t : Tree) → member empty_model t ≡ false
unfolding empty_model member
empty-model t = rejects (run empty_automaton t)
  where
    rejects : (q : ℕ) → accepting empty_automaton q ≡ false
    rejects zero = refl
    rejects (suc q) = refl

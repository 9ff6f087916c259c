-- Each call gives an answer of its kind, and no two answers of a kind have one number.
use mathlib.Core.Bool.{Bool, cond, false, true}
use mathlib.Core.List.{List, [], ◌++◌, ◌∷◌}
use mathlib.Core.Logic.{◌⊎◌, inl, inr}
use mathlib.Core.Path.{◌∙◌, ◌≡◌, ap, ap₂, refl, subst, sym}
use Prim.Native.Nat.{◌*◌, ◌+◌, ◌<◌, ◌≤◌, ℕ}
use native.Mathlib.Omega.{arith}
use lib.Dec.{eqb, leb, ltb}
use lib.ListN.{length}
use borrow.Author.Tests.{eqb-false, eqb-true, leb-true, ltb-true}
use Rattle.automata.specs.Automaton.{Automaton, accepts, run, states}
use Rattle.automata.specs.Ranks.{rank, unrank}
use Rattle.automata.specs.Stops.{stop_place}
use Rattle.automata.specs.Totals.{total}
use Rattle.calls.specs.Answers.{CallKind, Counted, Gives, Numbered, Refusal, RefusalNumber, Stopped}
use Rattle.calls.specs.Answers.{answer_number, asking, changing, counts_number, number_after, ranking, taking, totalling, unranking}
use Rattle.calls.specs.Calls.{Change, accepted_with, add_result, ask_answer, ask_refusal, asked, buffer_condition}
use Rattle.calls.specs.Calls.{change_refusal, change_result, changed, delete, done_with, early_conditions, insert}
use Rattle.calls.specs.Calls.{intake_answer, number_conditions, outcome, rank_answer, ranked, refused_or}
use Rattle.calls.specs.Calls.{remove_result, size_conditions, total_answer, totalled, unrank_refusal, unrank_result}
use Rattle.calls.specs.Calls.{written}
use Rattle.calls.specs.declared.Answer.{Answer}
use Rattle.calls.specs.declared.Answer.TheVariants.{Accepted, Approved, Done, Finished, NotAt, NotPart, Over}
use Rattle.calls.specs.declared.Answer.TheVariants.{Refused, Serial, Total}
use Rattle.format.specs.Format.{max_nodes, max_states, max_transitions, number_limit}
use Rattle.lists.specs.Conditions.{Condition}
use Rattle.table.specs.Intake.{automaton_conditions, content_conditions, fits_table, length_condition, table_refusal}
use Rattle.table.specs.Layout.{decode}
use Rattle.trees.specs.Listing.{listing_conditions, read_tree}
use Rattle.trees.specs.Preorder.{preorder}
use Rattle.trees.specs.Tree.{Tree}
use Rattle.automata.proofs.Stops.{run-stopped, stop-within}
use Rattle.calls.proofs.Conditions.{ask-passed, change-passed, early-at-most}
use Rattle.calls.proofs.Numbers.{passed-rank-less, unapproved}
use Rattle.lists.proofs.Conditions.{AtMost, at-most-append, broken-at-most}
use Rattle.lists.proofs.Tests.{and_left, and_right}
use Rattle.table.proofs.Decoded.{decoded-count, decoded-states}
use Rattle.table.proofs.Intake.{unrefused-passes}
use Rattle.table.proofs.Laid.{layout-laid}
use Rattle.trees.proofs.Preorder.{passed-nodes}

-- ---- what a call gives

-- a refusal of 1 to 20, or what is given if nothing is refused
refused-gives : (x : CallKind) (r : ℕ) (a : Answer) → r ≤ 20 → ((b : Answer) → Refusal b → Gives x b) →
    (r ≡ 0 → Gives x a) → Gives x (refused_or r a)
refused-gives x r a h refuse give = go (eqb r 0) refl
  where
    go : (t : Bool) → eqb r 0 ≡ t → Gives x (cond t a (Refused r))
    go true e = give (eqb-true r 0 e)
    go false e = refuse (Refused r) (record { number = r; within = (omega (arith, eqb-false r 0 e), h); answer = refl })

table-at-most : (b : List ℕ) → AtMost 20 (length_condition b ∷ content_conditions b)
unfolding content_conditions automaton_conditions
table-at-most b = omega arith

asked-gives : (A : Automaton) (t : Tree) → length (preorder t) ≤ max_nodes → Gives asking (asked A t)
unfolding asked
asked-gives A t h = go (accepts A t) (eqb (run A t) 0) refl
  where
    go : (b c : Bool) → eqb (run A t) 0 ≡ c → Gives asking (cond b Approved (cond c (NotAt (stop_place A t)) NotPart))
    go true c e = inl refl
    go false true e = inr (inr (inl (record {
      place = stop_place A t;
      within = (run-stopped A t (eqb-true (run A t) 0 e), omega (arith, stop-within A t));
      answer = refl;
    })))
    go false false e = inr (inl refl)

ask-at-most : (s b : List ℕ) → ask_refusal s b ≤ 20
unfolding ask_refusal listing_conditions
ask-at-most s b =
    broken-at-most 20 (listing_conditions s ++ (length_condition b ∷ content_conditions b))
    (at-most-append 20 (listing_conditions s) (length_condition b ∷ content_conditions b) (omega arith) (table-at-most b))

pub ask-gives : (s b : List ℕ) → Gives asking (ask_answer s b)
unfolding ask_answer
ask-gives s b =
    refused-gives asking (ask_refusal s b) (asked (decode b) (read_tree s)) (ask-at-most s b) (λ a h. inr (inr (inr h)))
    (λ z. asked-gives (decode b) (read_tree s) (passed-nodes s (ask-passed s b z).0))

pub intake-gives : (b : List ℕ) → Gives taking (intake_answer b)
unfolding intake_answer table_refusal
intake-gives b =
    refused-gives taking (table_refusal b) (accepted_with (decode b))
    (broken-at-most 20 (length_condition b ∷ content_conditions b) (table-at-most b)) (λ a h. inr h)
    (λ z.
    let l = layout-laid b (unrefused-passes b z).layout in
    inl (record {
      states = states (decode b);
      transitions = length (decode b).transitions;
      within = (omega (arith, decoded-states b, l.states), omega (arith, decoded-count b, l.count));
      answer = refl;
    }))

totalled-gives : (n : ℕ) → Gives totalling (totalled n)
unfolding totalled
totalled-gives n = go (ltb n number_limit) refl
  where
    go : (t : Bool) → ltb n number_limit ≡ t → Gives totalling (cond t (Total n) Over)
    go true e = inl (record { number = n; within = ltb-true n number_limit e; answer = refl })
    go false e = inr (inl refl)

-- the numbers of trees are below the total
ranked-gives : (b : List ℕ) (t : Tree) → table_refusal b ≡ 0 → length (preorder t) ≤ max_nodes →
    Gives ranking (ranked (decode b) t)
unfolding ranked
ranked-gives b t z h = go (accepts A t) refl (ltb (total A) number_limit) refl
  where
    A : Automaton
    A = decode b

    other : (a : Answer) → Gives asking a → (a ≡ Approved → ⊥) → Gives ranking a
    other a (inl e) n = absurd (n e)
    other a (inr g) n = inr g

    go : (x : Bool) → accepts A t ≡ x → (y : Bool) → ltb (total A) number_limit ≡ y →
        Gives ranking (cond x (cond y (Serial (rank A t)) (Refused 18)) (asked A t))
    go true e true l =
        let less : rank A t < number_limit = omega (arith, ltb-true (total A) number_limit l, passed-rank-less b z t e) in
        inl (record { number = rank A t; within = less; answer = refl })
    go true e false l = inr (inr (inr (record { number = 18; within = (omega arith, omega arith); answer = refl })))
    go false e y l = other (asked A t) (asked-gives A t h) (unapproved A t e)

pub rank-gives : (s b : List ℕ) → Gives ranking (rank_answer s b)
unfolding rank_answer
rank-gives s b =
    refused-gives ranking (ask_refusal s b) (ranked (decode b) (read_tree s)) (ask-at-most s b) (λ a h. inr (inr (inr h)))
    (λ z. let (p, q) = ask-passed s b z in ranked-gives b (read_tree s) q (passed-nodes s p))

pub unrank-gives : (k : ℕ) (b l : List ℕ) → Gives unranking (unrank_result k b l).answer
unfolding unrank_result written unrank_refusal
unrank-gives k b l =
    refused-gives unranking (unrank_refusal k b l) Finished
    (broken-at-most 20 (length_condition b ∷ buffer_condition l ∷ (content_conditions b ++ last))
    (omega arith, (omega arith, at-most-append 20 (content_conditions b) last (table-at-most b).1 (omega arith))))
    (λ a h. inr h) (λ z. inl refl)
  where
    last : List Condition
    last = number_conditions (total (decode b)) k (unrank (decode b) k)

pub total-gives : (b : List ℕ) → Gives totalling (total_answer b)
unfolding total_answer table_refusal
total-gives b =
    refused-gives totalling (table_refusal b) (totalled (total (decode b)))
    (broken-at-most 20 (length_condition b ∷ content_conditions b) (table-at-most b)) (λ a h. inr (inr h))
    (λ z. totalled-gives (total (decode b)))

-- the numbers of an automaton that fits a table
fits-counts : (A : Automaton) → fits_table A ≡ true → Counted Done (done_with A)
fits-counts A f = record {
  states = states A;
  transitions = length A.transitions;
  within = (
    leb-true (states A) max_states (and_left _ _ f),
    leb-true (length A.transitions) max_transitions (and_right (leb (states A) max_states) _ f),
  );
  answer = refl;
}

at-most-more : (cs : List Condition) → AtMost 15 cs → AtMost 20 cs
at-most-more [] h = tt
at-most-more (c ∷ cs) h = (omega (arith, h.0), at-most-more cs h.1)

change-gives : (c : Change) (s b w : List ℕ) → Gives changing (change_result c s b w).answer
unfolding change_result outcome change_refusal
change-gives c s b w =
    refused-gives changing (change_refusal c s b w) (done_with (changed c (decode b)))
    (broken-at-most 20 (early_conditions c s b w ++ size_conditions c (decode b))
    (at-most-append 20 (early_conditions c s b w) (size_conditions c (decode b))
    (at-most-more (early_conditions c s b w) (early-at-most c s b w)) (omega arith)))
    (λ a h. inr h) (λ z. inl (fits-counts (changed c (decode b)) (change-passed c s b w z).1))

pub add-gives : (s b w : List ℕ) → Gives changing (add_result s b w).answer
unfolding add_result
add-gives s b w = change-gives (insert (read_tree s)) s b w

pub remove-gives : (s b w : List ℕ) → Gives changing (remove_result s b w).answer
unfolding remove_result
remove-gives s b w = change-gives (delete (read_tree s)) s b w

-- ---- numbers

-- answers of the form P are known by their numbers, which are all in R
record Known (P : Answer → Type 0) (R : ℕ → Type 0) : Type 0 where
  number : (a : Answer) → P a → R (answer_number a)
  same : (a b : Answer) → P a → P b → answer_number a ≡ answer_number b →
      ((k : ℕ) → number_after a k ≡ number_after b k) → a ≡ b

-- two forms whose numbers differ are one
either : {P Q : Answer → Type 0} {R T : ℕ → Type 0} → Known P R → Known Q T → ((n : ℕ) → R n → T n → ⊥) →
    Known (λ a. P a ⊎ Q a) (λ n. R n ⊎ T n)
either {P} {Q} {R} {T} p q apart = record { number = number; same = same }
  where
    number : (a : Answer) → P a ⊎ Q a → R (answer_number a) ⊎ T (answer_number a)
    number a (inl g) = inl (p.number a g)
    number a (inr g) = inr (q.number a g)

    same : (a b : Answer) → P a ⊎ Q a → P b ⊎ Q b → answer_number a ≡ answer_number b →
        ((k : ℕ) → number_after a k ≡ number_after b k) → a ≡ b
    same a b (inl g) (inl h) e w = p.same a b g h e w
    same a b (inl g) (inr h) e w = absurd (apart (answer_number a) (p.number a g) (subst T (sym e) (q.number b h)))
    same a b (inr g) (inl h) e w = absurd (apart (answer_number b) (p.number b h) (subst T e (q.number a g)))
    same a b (inr g) (inr h) e w = q.same a b g h e w

one : (c : Answer) → Known (λ a. a ≡ c) (λ n. n ≡ answer_number c)
one c = record { number = λ a g. ap answer_number g; same = λ a b g h e w. g ∙ sym h }

refusals : Known Refusal RefusalNumber
refusals = record {
  number = λ a g. subst RefusalNumber (sym (ap answer_number g.answer)) g.within;
  same = λ a b g h e w.
      g.answer ∙ ap Refused (sym (ap answer_number g.answer) ∙ e ∙ ap answer_number h.answer) ∙ sym h.answer;
}

stops : Known Stopped (λ n. 65536 ≤ n)
stops = record {
  number = λ a g. omega (arith, ap answer_number g.answer, g.within.0);
  same = λ a b g h e w.
      let places : g.place ≡ h.place = omega (arith, e, ap answer_number g.answer, ap answer_number h.answer) in
      g.answer ∙ ap NotAt places ∙ sym h.answer;
}

-- a number that has no refusal and no kind in it
record Counts (n : ℕ) : Type 0 where
  high : ℕ
  equal : n ≡ 65536 * high

counts : (f : ℕ → ℕ → Answer) → ((n m : ℕ) → answer_number (f n m) ≡ counts_number n m) → Known (Counted f) Counts
counts f counted = record {
  number = λ a g. record { high = g.states + 65536 * g.transitions; equal = omega (arith, counted-as a g) };
  same = λ a b g h e w.
      let numbers : counts_number g.states g.transitions ≡ counts_number h.states h.transitions =
      sym (counted-as a g) ∙ e ∙ counted-as b h in
      let transitions : g.transitions ≡ h.transitions = omega (arith, numbers, g.within.0, h.within.0) in
      let states : g.states ≡ h.states = omega (arith, numbers, transitions) in
      g.answer ∙ ap₂ f states transitions ∙ sym h.answer;
}
  where
    counted-as : (a : Answer) (g : Counted f a) → answer_number a ≡ counts_number g.states g.transitions
    counted-as a g = ap answer_number g.answer ∙ counted g.states g.transitions

-- the number beside the answer distinguishes these
numbers : (f : ℕ → Answer) (m : ℕ) → ((n : ℕ) → answer_number (f n) ≡ m) → ((n : ℕ) → number_after (f n) 0 ≡ n) →
    Known (Numbered f) (λ n. n ≡ m)
numbers f m known after = record {
  number = λ a g. ap answer_number g.answer ∙ known g.number;
  same = λ a b g h e w.
      g.answer ∙ ap f (sym (after-as a g) ∙ w 0 ∙ after-as b h) ∙ sym h.answer;
}
  where
    after-as : (a : Answer) (g : Numbered f a) → number_after a 0 ≡ g.number
    after-as a g = ap (λ (c : Answer). number_after c 0) g.answer ∙ after g.number

-- a stop or a refusal
abbrev Stopping : ℕ → Type 0
Stopping n = (65536 ≤ n) ⊎ RefusalNumber n

stopping : Known (λ a. Stopped a ⊎ Refusal a) Stopping
stopping = either stops refusals (λ n x y. omega (arith, x, y.1))

-- not approved, or a refusal
abbrev Unapproved : ℕ → Type 0
Unapproved n = (n ≡ 512) ⊎ Stopping n

refused-otherwise : Known (λ a. (a ≡ NotPart) ⊎ (Stopped a ⊎ Refusal a)) Unapproved
refused-otherwise = either (one NotPart) stopping apart
  where
    apart : (n : ℕ) → n ≡ 512 → Stopping n → ⊥
    apart n x (inl y) = omega (arith, x, y)
    apart n x (inr y) = omega (arith, x, y.1)

-- an approved tree has 256, with its number beside it or not
not-256 : (n : ℕ) → n ≡ 256 → Unapproved n → ⊥
not-256 n x (inl y) = omega (arith, x, y)
not-256 n x (inr (inl y)) = omega (arith, x, y)
not-256 n x (inr (inr y)) = omega (arith, x, y.1)

-- no two answers of a kind of call give a host the same numbers
pub answer-injective : (x : CallKind) (a b : Answer) → Gives x a → Gives x b → answer_number a ≡ answer_number b →
    ((k : ℕ) → number_after a k ≡ number_after b k) → a ≡ b
answer-injective asking = (either (one Approved) refused-otherwise not-256).same
answer-injective taking =
    (either (counts Accepted (λ n m. refl)) refusals (λ n x y. omega (arith, x.equal, y.0, y.1))).same
answer-injective changing =
    (either (counts Done (λ n m. refl)) refusals (λ n x y. omega (arith, x.equal, y.0, y.1))).same
answer-injective totalling =
    (either (numbers Total 0 (λ n. refl) (λ n. refl)) (either (one Over) refusals (λ n x y. omega (arith, x, y.1)))
    apart).same
  where
    apart : (n : ℕ) → n ≡ 0 → (n ≡ 256) ⊎ RefusalNumber n → ⊥
    apart n x (inl y) = omega (arith, x, y)
    apart n x (inr y) = omega (arith, x, y.0)
answer-injective ranking = (either (numbers Serial 256 (λ n. refl) (λ n. refl)) refused-otherwise not-256).same
answer-injective unranking = (either (one Finished) refusals (λ n x y. omega (arith, x, y.0))).same

-- Serial numbers: what ask says of a tree that passed, and the answers of tree to number and number to tree.
use mathlib.Core.Bool.{Bool, cond, false, true}
use mathlib.Core.List.{List, ◌∷◌}
use mathlib.Core.Logic.{◌≢◌}
use mathlib.Core.Path.{◌∙◌, ◌≡◌, ap, refl, subst, sym}
use Prim.Native.Nat.{◌<◌, ◌≤◌, ℕ}
use native.Mathlib.Omega.{arith}
use lib.Dec.{ltb}
use lib.ListN.{length}
use borrow.Author.Tests.{eq-eqb, eqb-true, le-ltb, lt-ltb, ltb-false, ltb-true, ne_eqb}
use Rattle.automata.specs.Automaton.{Automaton, accepts}
use Rattle.automata.specs.Ranks.{rank, unrank}
use Rattle.automata.specs.Totals.{total}
use Rattle.calls.specs.Calls.{Response, ask_refusal, asked, buffer_condition, fits_listing, number_conditions, padded_listing}
use Rattle.calls.specs.Calls.{rank_answer, ranked, unrank_refusal, unrank_result, written}
use Rattle.calls.specs.declared.Answer.{Answer}
use Rattle.calls.specs.declared.Answer.TheVariants.{Finished, Refused, Serial}
use Rattle.format.specs.Format.{max_listing, number_limit, table_bytes}
use Rattle.lists.specs.Conditions.{Condition, first_broken}
use Rattle.answering.specs.Serials.{buffer_refusal, numbered, response_of}
use Rattle.table.specs.Intake.{content_conditions, length_condition, table_refusal}
use Rattle.table.specs.Layout.{decode}
use Rattle.totals.specs.Limited.{total_of}
use Rattle.std.specs.declared.option.Option.{Option}
use Rattle.std.specs.declared.option.Option.TheVariants.{None, Some}
use Rattle.totals.proofs.Limits.{total-fits, total-none, total-some}
use Rattle.trees.specs.Listing.{read_tree}
use Rattle.trees.specs.Tree.{Tree}
use Rattle.calls.proofs.Conditions.{table-from-one}
use Rattle.lists.proofs.Conditions.{FromOne, append-broken, append-unbroken, hold-unbroken, unbroken-hold}
use Rattle.answering.proofs.Reading.{refused-or}

-- ---- the total as crate totals has it

-- the number is the total, and fits
pub total-number : (n : ℕ) {v : ℕ} {x : Option ℕ} → x ≡ total_of n → x ≡ Some v → (n < number_limit) × (v ≡ n)
total-number n e d = (total-fits n (sym d ∙ e), total-some n (sym d ∙ e))

pub total-over : (n : ℕ) {x : Option ℕ} → x ≡ total_of n → x ≡ None → number_limit ≤ n
total-over n e d = total-none n (sym d ∙ e)

-- ---- tree to number

module _ (A : Automaton) (t : Tree) (e : accepts A t ≡ true) where
  pub ranked-over : number_limit ≤ total A → Refused 18 ≡ ranked A t
  unfolding ranked
  ranked-over h = rw (e, le-ltb (total A) number_limit h)

  pub ranked-number : total A < number_limit → {k : ℕ} → k ≡ rank A t → Serial k ≡ ranked A t
  unfolding ranked
  ranked-number h d = rw (e, lt-ltb (total A) number_limit h, d)

pub ranked-other : (A : Automaton) (t : Tree) → accepts A t ≡ false → asked A t ≡ ranked A t
unfolding ranked
ranked-other A t e = rw e

pub rank-refused : (s b : List ℕ) {r : ℕ} → r ≡ ask_refusal s b → r ≢ 0 → Refused r ≡ rank_answer s b
unfolding rank_answer
rank-refused s b {r} e n = ap Refused e ∙ sym (refused-or (ask_refusal s b) _ (λ d. n (e ∙ d)))

pub rank-answered : (s b : List ℕ) {r : ℕ} → r ≡ ask_refusal s b → r ≡ 0 → {a : Answer} →
    a ≡ ranked (decode b) (read_tree s) → a ≡ rank_answer s b
unfolding rank_answer
rank-answered s b e z d = d ∙ sym (rw (eq-eqb (ask_refusal s b) 0 (sym e ∙ z)))

-- ---- number to tree

-- refused by r: the buffer is as it was
written-refused : (r : ℕ) (t : Tree) (l : List ℕ) → r ≢ 0 → response_of (Refused r) l ≡ written r t l
unfolding written
written-refused r t l n = rw (ne_eqb r 0 n)

module _ (k : ℕ) (A : Automaton) (l : List ℕ) where
  -- the first broken of 18 to 20 refuses
  number-refused : (r : ℕ) → first_broken (number_conditions (total A) k (unrank A k)) ≡ r → r ≢ 0 →
      response_of (Refused r) l ≡ numbered k A l
  unfolding numbered
  number-refused r e n =
      written-refused r (unrank A k) l n ∙ ap (λ (q : ℕ). written q (unrank A k) l) (sym e)

  pub numbered-over : number_limit ≤ total A → response_of (Refused 18) l ≡ numbered k A l
  numbered-over h = number-refused 18 (rw (le-ltb (total A) number_limit h)) (λ z. omega arith)

  module _ (fits : total A < number_limit) where
    pub numbered-beyond : total A ≤ k → response_of (Refused 19) l ≡ numbered k A l
    numbered-beyond h =
        number-refused 19 (rw (lt-ltb (total A) number_limit fits, le-ltb k (total A) h)) (λ z. omega arith)

    module _ (below : k < total A) where
      -- what a buffer has after the tree was listed, or not
      module _ {r : Bool} (e : r ≡ fits_listing (unrank A k)) (m : List ℕ) (d : m ≡ cond r (padded_listing (unrank A k)) l)
        where
          pub numbered-large : r ≡ false → response_of (Refused 20) m ≡ numbered k A l
          numbered-large z =
              ap (response_of (Refused 20)) (d ∙ ap (λ (x : Bool). cond x (padded_listing (unrank A k)) l) z)
              ∙ number-refused 20 (rw (lt-ltb (total A) number_limit fits, lt-ltb k (total A) below, sym e ∙ z))
              (λ z. omega arith)

          pub numbered-listed : r ≡ true → response_of Finished m ≡ numbered k A l
          unfolding numbered written
          numbered-listed z =
              ap (response_of Finished) (d ∙ ap (λ (x : Bool). cond x (padded_listing (unrank A k)) l) z)
              ∙ sym (rw (lt-ltb (total A) number_limit fits, lt-ltb k (total A) below, sym e ∙ z))

-- ---- 5 to 13

buffer-from-one : (b l : List ℕ) → FromOne (length_condition b ∷ buffer_condition l ∷ content_conditions b)
buffer-from-one b l = ((table-from-one b).0, (omega arith, (table-from-one b).1))

module _ (b l : List ℕ) where
  pub buffer-5 : length b ≢ table_bytes → 5 ≡ buffer_refusal b l
  unfolding buffer_refusal
  buffer-5 n = sym (rw (ne_eqb (length b) table_bytes n))

  pub buffer-6 : length b ≡ table_bytes → length l ≢ max_listing → 6 ≡ buffer_refusal b l
  unfolding buffer_refusal
  buffer-6 e n = sym (rw (eq-eqb (length b) table_bytes e, ne_eqb (length l) max_listing n))

  pub buffer-content : length b ≡ table_bytes → length l ≡ max_listing → {r : ℕ} →
      r ≡ first_broken (content_conditions b) → r ≡ buffer_refusal b l
  unfolding buffer_refusal
  buffer-content e d f = f ∙ sym (rw (eq-eqb (length b) table_bytes e, eq-eqb (length l) max_listing d))

-- 5 to 13 refuse, or what the number gives
module _ (k : ℕ) (b l : List ℕ) {r : ℕ} (e : r ≡ buffer_refusal b l) where
  abbrev of_number : List Condition
  of_number = number_conditions (total (decode b)) k (unrank (decode b) k)

  pub unrank-refused : r ≢ 0 → response_of (Refused r) l ≡ unrank_result k b l
  unfolding unrank_result unrank_refusal buffer_refusal
  unrank-refused n =
      written-refused r (unrank (decode b) k) l n
      ∙ ap (λ (q : ℕ). written q (unrank (decode b) k) l)
      (append-broken (length_condition b ∷ buffer_condition l ∷ content_conditions b) of_number (buffer-from-one b l) e n)

  pub unrank-answered : r ≡ 0 → {x : Response} → x ≡ numbered k (decode b) l → x ≡ unrank_result k b l
  unfolding unrank_result unrank_refusal buffer_refusal numbered
  unrank-answered z d =
      d ∙ ap (λ (q : ℕ). written q (unrank (decode b) k) l)
      (append-unbroken (length_condition b ∷ buffer_condition l ∷ content_conditions b) of_number (buffer-from-one b l) e z
      refl)

pub unrank-passed : (b l : List ℕ) {r : ℕ} → r ≡ buffer_refusal b l → r ≡ 0 →
    (table_refusal b ≡ 0) × (length l ≡ max_listing)
unfolding buffer_refusal table_refusal
unrank-passed b l e z =
    let h = unbroken-hold (length_condition b ∷ buffer_condition l ∷ content_conditions b) (buffer-from-one b l) (sym e ∙ z) in
    (hold-unbroken (length_condition b ∷ content_conditions b) (h.0, h.1.1), eqb-true (length l) max_listing h.1.0)

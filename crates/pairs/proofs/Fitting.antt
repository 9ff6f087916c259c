-- 01, refusal 16: the sum that the code compares is the number of transitions of the product.
use mathlib.Core.Bool.{Bool}
use mathlib.Core.List.{List}
use mathlib.Core.Path.{◌∙◌, ◌≡◌, ap}
use Prim.Native.Nat.{◌+◌, ◌<◌, ◌≤◌, ℕ}
use native.Mathlib.Omega.{arith}
use lib.Dec.{leb}
use Rattle.automata.specs.Automaton.{Automaton, IsState}
use Rattle.automata.specs.Change.{product_transitions}
use Rattle.automata.specs.OpenStates.{at_state, pairs_of, sum_over}
use Rattle.format.specs.Format.{byte_values, max_nodes, max_product}
use Rattle.lists.specs.Tests.{bit}
use Rattle.table.specs.Layout.{transitions_in}
use Rattle.trees.specs.Tree.{Tree}
use Rattle.automata.proofs.ProductSum.{sum_over-same, transitions-counted}
use Rattle.automata.proofs.Valid.{ranged-transition}
use Rattle.pairs.specs.Counts.{Counted, Numbers, Open, PairsCounted, Setting, Subtrees}
use Rattle.pairs.specs.Counts.{entries_with, entry, weight_of}
use Rattle.pairs.proofs.Counting.{few-with}

pub few-counted : {q c : List ℕ} {m : ℕ} → Counted q m c → m ≤ max_nodes → (p : ℕ) → p < byte_values →
    entry c p ≤ max_nodes
few-counted {q} {c} {m} N h p l = omega (arith, N.each p l, few-with q m p)

pub subtrees-counted : {A : Automaton} {t : Tree} {q c : List ℕ} {m : ℕ} → Counted q m c →
    m ≤ max_nodes → ((p : ℕ) → entries_with q m p ≡ at_state A t p) → Subtrees A t c
subtrees-counted N h e = record { few = few-counted N h; each = λ p l. N.each p l ∙ e p }

module _ {A : Automaton} {t : Tree} {s c m w : List ℕ} {n : ℕ} (S : Setting A s n) (C : Subtrees A t c)
    (O : Open A t m) (N : Numbers (weight_of c m) w) where
  weight-pairs : (q : ℕ) → IsState A q → entry w q ≡ pairs_of A t q
  unfolding pairs_of
  weight-pairs q h =
      let l : q < byte_values = omega (arith, S.few, h.1) in
      omega (arith, N.each q l, C.each q l, ap bit (O.each q h))

  pub pairs-counted : {r : Bool} {more : ℕ} → more ≡ entry c 0 →
      r ≡ leb (sum_over (entry w) (transitions_in s n) + more) max_product → PairsCounted A t r m w
  pairs-counted {r} {more} e f =
      let d : sum_over (entry w) (transitions_in s n) + more ≡ product_transitions A t =
      omega (
        arith,
        ap (sum_over (entry w)) S.transitions,
        sum_over-same (entry w) (pairs_of A t) A.transitions
            (λ τ i q j. weight-pairs q ((ranged-transition A S.ranged τ i).args q j)),
        transitions-counted A S.ranged S.rises t,
        C.each 0 (omega arith),
      ) in
      record { fits = f ∙ ap (λ (k : ℕ). leb k max_product) d; opens = O; weights = weight-pairs }

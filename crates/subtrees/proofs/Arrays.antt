-- Loops that fill eight bytes and compare nodes.
use mathlib.Core.Bool.{Bool, false}
use mathlib.Core.List.{List}
use mathlib.Core.Path.{◌∙◌, ◌≡◌, ap, refl, subst}
use Prim.Native.Nat.{◌+◌, ◌<◌, ◌≤◌, ℕ}
use native.Mathlib.Omega.{arith}
use lib.ListN.{get_or, length-set, replicate, set}
use lib.Seq.{get_or-set_other}
use borrow.Author.Tests.{eq-eqb, ne_eqb}
use Rattle.format.specs.Format.{max_arity}
use Rattle.lists.specs.Positions.{up_from}
use Rattle.lists.specs.Tests.{every}
use Rattle.subtrees.specs.Steps.{Filled, same_child, same_node}
use Rattle.lists.proofs.Intervals.{get_d-zeros}
use Rattle.lists.proofs.Filling.{set_next}

-- ---- eight bytes, filled from the first

module _ {f : ℕ → ℕ} where
  pub filled-start : Filled f 0 (replicate max_arity 0)
  filled-start = record {
    size = refl;
    filled = λ k h. absurd (omega arith);
    beyond = λ k h. get_d-zeros max_arity k;
  }

  pub filled_next : {k : ℕ} {r : List ℕ} → Filled f k r → k < max_arity → Filled f (k + 1) (set r k (f k))
  filled_next {k} {r} inv h = record {
    size = length-set r k (f k) ∙ inv.size;
    filled = set_next f r k (f k) (omega (arith, inv.size)) refl inv.filled;
    beyond = λ j l. get_or-set_other r k j (f k) 0 (λ e. omega arith) ∙ inv.beyond j (omega arith);
  }

  pub filled_at : {k n : ℕ} {r : List ℕ} → Filled f k r → k ≡ n → Filled f n r
  filled_at {k} {n} {r} inv e = subst (λ (m : ℕ). Filled f m r) e inv

  pub filled-end : {k n : ℕ} {r : List ℕ} → Filled f k r → k ≤ n → n ≤ k → Filled f n r
  filled-end inv h l = filled_at inv (omega arith)

-- ---- a node is compared by its label, its number of children and its children

module _ (l r c : List ℕ) (a n : ℕ) (ns : List ℕ) (j : ℕ) where
  pub other-label : (get_or l j 0 ≡ a → ⊥) → false ≡ same_node l r c a n ns j
  other-label h = rw (ne_eqb (get_or l j 0) a h)

  pub other-arity : get_or l j 0 ≡ a → (get_or r j 0 ≡ n → ⊥) → false ≡ same_node l r c a n ns j
  other-arity e h = rw (eq-eqb (get_or l j 0) a e, ne_eqb (get_or r j 0) n h)

  pub by-children : (b : Bool) (m : ℕ) → get_or l j 0 ≡ a → get_or r j 0 ≡ n → m ≡ n →
      b ≡ every (same_child c j ns) (up_from 0 m) → b ≡ same_node l r c a n ns j
  by-children b m e d z q =
      q ∙ rw (eq-eqb (get_or l j 0) a e, eq-eqb (get_or r j 0) n d) (ap (λ i. every (same_child c j ns) (up_from 0 i)) z)

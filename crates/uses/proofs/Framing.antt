-- Only parents have frames, so counting from the first parent to the last counts all frames.
use mathlib.Core.List.{List}
use mathlib.Core.Path.{◌≡◌, subst}
use Prim.Native.Nat.{◌-◌, ◌<◌, ◌≤◌, ℕ}
use native.Mathlib.Nat.{zero-add}
use native.Mathlib.Omega.{arith}
use Rattle.subtrees.specs.Parents.{ParentsWithin}
use Rattle.table.specs.Layout.{arity_of}
use Rattle.uses.specs.Frames.{frame_count, framed}
use Rattle.uses.proofs.Counting.{CountFrom, count-end, count_past, count-start}
use Rattle.uses.proofs.Nodes.{framed-outside}

module _ (s : List ℕ) (at k : ℕ) (l r c q : List ℕ) (m j v : ℕ) {start end : ℕ} (h : k < arity_of s at)
    (first : ParentsWithin m r c j start end) (second : ParentsWithin m r c v start end) where
  abbrev Counted : ℕ → ℕ → Type 0
  Counted = CountFrom (frame_count s at k l r c q m j v) (framed s at k l r c q m j v) m

  pub frames-start : Counted 0 start
  frames-start =
      subst (Counted 0) (zero-add start) (count_past start count-start (λ x a b d.
      framed-outside s at k l r c q m j v h x (λ n e. omega (arith, first.above x k d n e))
      (λ n e. omega (arith, second.above x k d n e))))

  pub frames-end : {n i : ℕ} → Counted n i → end ≤ i → n ≡ frame_count s at k l r c q m j v
  frames-end {n} {i} inv past =
      count-end (count_past (m - i) inv (λ x a b d.
      framed-outside s at k l r c q m j v h x (λ n e. omega (arith, first.below x k d n e))
      (λ n e. omega (arith, second.below x k d n e)))) (omega arith)

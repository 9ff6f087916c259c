-- A set that is bounded stays so when one tree is put in or taken out.
use mathlib.Core.Bool.{Bool, ◌&&◌, ◌||◌, not, true}
use mathlib.Core.Logic.{◌⊎◌, inl, inr}
use mathlib.Core.Path.{◌≡◌, ap}
use Prim.Native.Nat.{◌+◌, ◌≤◌}
use native.Mathlib.Omega.{arith}
use Rattle.automata.specs.Acyclic.{Bounded}
use Rattle.trees.specs.Tree.{Tree, depth, eq_tree}
use Rattle.lists.proofs.Tests.{and_left, or_cases}
use Rattle.trees.proofs.Trees.{eq_tree-true}

pub insert-bounded : (S : Tree → Bool) (t : Tree) → Bounded S → Bounded (λ u. S u || eq_tree u t)
unfolding Bounded
insert-bounded S t (n, b) = (n + depth t, λ u e. go u (or_cases (S u) (eq_tree u t) e))
  where
    go : (u : Tree) → (S u ≡ true) ⊎ (eq_tree u t ≡ true) → depth u ≤ n + depth t
    go u (inl h) = omega (arith, b u h)
    go u (inr h) = omega (arith, ap depth (eq_tree-true u t h))

pub delete-bounded : (S : Tree → Bool) (t : Tree) → Bounded S → Bounded (λ u. S u && not (eq_tree u t))
unfolding Bounded
delete-bounded S t (n, b) = (n, λ u e. b u (and_left (S u) _ e))

-- A walk through the nodes of a tree without a state, in the order of its listing, that ends at its stop. The last node
-- without a state is kept. The walk goes on below that node alone, and ends if nothing is left there.
use mathlib.Core.Bool.{Bool, cond, false, true}
use mathlib.Core.List.{[]}
use mathlib.Core.Path.{◌∙◌, ◌≡◌, ap, refl, sym}
use Prim.Native.Nat.{◌+◌, ◌≤◌, ℕ}
use native.Mathlib.Omega.{arith}
use lib.Dec.{eqb}
use lib.ListN.{length-append}
use borrow.Author.Tests.{eq-eqb, ne_eqb}
use Rattle.automata.specs.Automaton.{Automaton, run, runs}
use Rattle.automata.specs.Stops.{stop_place, stop_places}
use Rattle.lists.specs.Tests.{any}
use Rattle.trees.specs.Preorder.{preorders}
use Rattle.trees.specs.Tree.{Forest, Tree, ◌⧺◌, cons, nil, node}
use Rattle.automata.proofs.Steps.{runs_append}
use Rattle.automata.proofs.Stops.{children-run, stop-after, stop-below, stop-child, stop-here}
use Rattle.lists.proofs.Tests.{any-after}

module _ (A : Automaton) where
  -- Node i is the next, and the trees f are still to come below node k, which has no state; nodes are counted from 0.
  -- If one of these trees has no state, the stop is among them, else it is node k.
  pub record Walk (t : Tree) (k i : ℕ) (f : Forest) : Type 0 where
    pub left : stop_place A t ≡ cond (any (eqb 0) (runs A f)) (i + stop_places A f) (k + 1)

  -- the stop of a tree is among its children or at its top
  below : (a : ℕ) (f : Forest) → run A (node a f) ≡ 0 →
      stop_place A (node a f) ≡ cond (any (eqb 0) (runs A f)) (1 + stop_places A f) 1
  below a f e = go (any (eqb 0) (runs A f)) refl
    where
      go : (b : Bool) → any (eqb 0) (runs A f) ≡ b → stop_place A (node a f) ≡ cond b (1 + stop_places A f) 1
      go true n = omega (arith, stop-below A a f n)
      go false n = stop-here A a f n e

  -- the walk starts below the top
  pub walk_start : (a : ℕ) (f : Forest) → run A (node a f) ≡ 0 → Walk (node a f) 0 1 f
  walk_start a f e = record { left = below a f e }

  -- a node without a state: it is kept, and the walk goes on below it
  pub walk-stopped : (t : Tree) (k i a : ℕ) (g f : Forest) → run A (node a g) ≡ 0 → Walk t k i (cons (node a g) f) →
      Walk t i (i + 1) g
  walk-stopped t k i a g f e W = record { left = here ∙ go (any (eqb 0) (runs A g)) (below a g e) }
    where
      here : stop_place A t ≡ i + stop_place A (node a g)
      here = W.left ∙ rw (eq-eqb 0 (run A (node a g)) (sym e)) (ap (λ (n : ℕ). i + n) (stop-child A (node a g) f e))

      go : (b : Bool) → stop_place A (node a g) ≡ cond b (1 + stop_places A g) 1 →
          i + stop_place A (node a g) ≡ cond b (i + 1 + stop_places A g) (i + 1)
      go true d = omega arith
      go false d = omega arith

  -- a node with a state
  pub walk-on : (t : Tree) (k i a : ℕ) (g f : Forest) → 1 ≤ run A (node a g) → Walk t k i (cons (node a g) f) →
      Walk t k (i + 1) (g ⧺ f)
  walk-on t k i a g f h W =
      record {
        left = W.left ∙ rw (runs_append, any-after (eqb 0) (runs A g) (runs A f) below-run, here)
            (go (any (eqb 0) (runs A f)) refl);
      }
    where
      below-run : any (eqb 0) (runs A g) ≡ false
      below-run = children-run A a g h

      here : eqb 0 (run A (node a g)) ≡ false
      here = ne_eqb 0 (run A (node a g)) (λ e. omega arith)

      go : (b : Bool) → any (eqb 0) (runs A f) ≡ b →
          cond b (i + stop_places A (cons (node a g) f)) (k + 1) ≡ cond b (i + 1 + stop_places A (g ⧺ f)) (k + 1)
      go true n =
          omega (
            arith,
            stop-after A (cons (node a g) nil) f (rw here) n,
            stop-after A g f below-run n,
            length-append (preorders g) [],
          )
      go false n = refl

  -- nothing is left
  pub walk_end : (t : Tree) (k i : ℕ) → Walk t k i nil → stop_place A t ≡ k + 1
  walk_end t k i W = W.left

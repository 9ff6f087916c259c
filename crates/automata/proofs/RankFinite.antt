-- States that have finitely many trees, and the children of their trees.
use mathlib.Core.Bool.{true}
use mathlib.Core.Path.{◌∙◌, ◌≡◌, ap, refl, subst, sym}
use Prim.Native.Nat.{◌≤◌, suc, zero, ℕ}
use native.Mathlib.Omega.{arith}
use Rattle.automata.specs.Acyclic.{acyclic}
use Rattle.automata.specs.Automaton.{Automaton, IsState, accepting, accepts, run, runs}
use Rattle.automata.specs.ContextRun.{step_frame}
use Rattle.automata.specs.Totals.{FinitelyMany}
use Rattle.automata.specs.Valid.{states_in_range}
use Rattle.trees.specs.Context.{Frame, fill}
use Rattle.trees.specs.Tree.{AllTrees, Forest, Tree, ◌⧺◌, cons, depth, nil, node}
use Rattle.automata.proofs.Distinguishable.{run_fits}
use Rattle.automata.proofs.Steps.{run-fill, step-zero}
use Rattle.automata.proofs.Totals.{accepting-some}
use Rattle.automata.proofs.TotalsFinite.{acyclic-many}
use Rattle.automata.proofs.Valid.{ranged-fits}
use Rattle.trees.proofs.Trees.{depths-here, snoc-append}

-- q is a state that has finitely many trees
pub record Finite (A : Automaton) (q : ℕ) : Type 0 where
  pub state : IsState A q
  pub many : FinitelyMany A q

-- the state of the tree has finitely many
abbrev pub FiniteTree : Automaton → Tree → Type 0
FiniteTree A t = Finite A (run A t)

module _ (A : Automaton) (ranged : states_in_range A ≡ true) where
  finite-child : (F : Frame) (t : Tree) → FiniteTree A (fill F t) → FiniteTree A t
  finite-child F t X = record {
    state = (some (run A t) refl, run_fits A (ranged-fits A ranged) t);
    many = (X.many.0, λ u e. bound u e);
  }
    where
      some : (p : ℕ) → run A t ≡ p → 1 ≤ p
      some zero e =
          absurd (omega (
            arith,
            X.state.0,
            run-fill A F t ∙ ap (step_frame A F) e ∙ step-zero A F.label (runs A F.before) (runs A F.after),
          ))
      some (suc p) e = omega arith

      -- another tree of its state in its place
      bound : (u : Tree) → run A u ≡ run A t → depth u ≤ X.many.0
      bound u e =
          let same : run A (fill F u) ≡ run A (fill F t) =
          run-fill A F u ∙ ap (step_frame A F) e ∙ sym (run-fill A F t) in
          omega (arith, X.many.1 (fill F u) same, depths-here F.before u F.after)

  finite-from : (a : ℕ) (f b : Forest) → FiniteTree A (node a (b ⧺ f)) → AllTrees (FiniteTree A) f
  finite-from a nil b X = tt
  finite-from a (cons t f) b X = (
    finite-child (record { label = a; before = b; after = f }) t X,
    finite-from a f (b ⧺ cons t nil) (subst (λ (g : Forest). FiniteTree A (node a g)) (sym (snoc-append b t f)) X),
  )

  -- so have the states of its children
  pub finite-children : (a : ℕ) (f : Forest) → FiniteTree A (node a f) → AllTrees (FiniteTree A) f
  finite-children a f X = finite-from a f nil X

  pub finite-accepted : ((q : ℕ) → accepting A q ≡ true → FinitelyMany A q) → (t : Tree) → accepts A t ≡ true →
      FiniteTree A t
  finite-accepted many t e = record {
    state = (accepting-some A (run A t) e, run_fits A (ranged-fits A ranged) t);
    many = many (run A t) e;
  }

  pub acyclic-finite : acyclic A ≡ true → (q : ℕ) → IsState A q → Finite A q
  acyclic-finite ac q s = record { state = s; many = acyclic-many A ranged ac q s.0 }

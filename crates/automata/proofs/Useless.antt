-- A state is coaccessible exactly when it is distinguishable from 0: useless states are those equivalent
-- to "no state".
use mathlib.Core.Bool.{Bool, false, true, true≢false}
use mathlib.Core.Logic.{◌≢◌}
use mathlib.Core.Path.{◌∙◌, ◌≡◌, ap, refl, sym}
use Prim.Native.Nat.{◌≤◌, ℕ}
use native.Mathlib.Omega.{arith}
use Rattle.automata.specs.Automaton.{Automaton, Fits, Transition, accepting, run, states}
use Rattle.automata.specs.Coaccessible.{coaccessible}
use Rattle.automata.specs.ContextRun.{run_context}
use Rattle.automata.specs.Distinguishable.{distinguishable}
use Rattle.automata.specs.Order.{rising}
use Rattle.lists.specs.Tests.{◌∈◌}
use Rattle.trees.specs.Context.{Context}
use Rattle.trees.specs.Tree.{Tree}
use Rattle.automata.proofs.Coaccessible.{coaccessible-useful, useful-coaccessible}
use Rattle.automata.proofs.Distinguishable.{distinguishable-separated, separated-distinguishable}
use Rattle.automata.proofs.Steps.{run_context-zero}
use Rattle.lists.proofs.Tests.{same_test}

-- "no state" is not accepted in any context, so what differs from it is
apart-true : (a b : Bool) → b ≡ false → a ≢ b → a ≡ true
apart-true true b z d = refl
apart-true false b z d = absurd (d (sym z))

module _ (A : Automaton) (fit : Fits A) (rises : rising A.transitions ≡ true)
    (all : (τ : Transition) → τ ∈ A.transitions → (q : ℕ) → q ∈ τ.args → (1 ≤ q) × ((t : Tree) × (run A t ≡ q)))
  where
    never : (c : Context) → accepting A (run_context A c 0) ≡ false
    never c = ap (accepting A) (run_context-zero A c)

    pub useless-iff : (q : ℕ) → 1 ≤ q → q ≤ states A → coaccessible A q ≡ distinguishable A q 0
    useless-iff q h l = same_test (coaccessible A q) (distinguishable A q 0) apart used
      where
        apart : coaccessible A q ≡ true → distinguishable A q 0 ≡ true
        apart e = let (c, a) = coaccessible-useful A rises all q e in
            separated-distinguishable A fit c q 0 l (omega arith) (λ z. true≢false (sym a ∙ z ∙ never c))

        used : distinguishable A q 0 ≡ true → coaccessible A q ≡ true
        used e = let (c, d) = distinguishable-separated A (λ τ i p j. (all τ i p j).1) q 0 e in
            useful-coaccessible A fit c q h l
            (apart-true (accepting A (run_context A c q)) (accepting A (run_context A c 0)) (never c) d)

-- Order 2, of tables: the law of the total for each state of a table that passed intake.
use mathlib.Core.List.{List}
use mathlib.Core.Path.{◌≡◌}
use Prim.Native.Nat.{ℕ}
use Rattle.automata.specs.Automaton.{IsState, run}
use Rattle.automata.specs.Totals.{FinitelyMany, sum_into, trees_of}
use Rattle.lists.specs.Tests.{Counts}
use Rattle.table.specs.Intake.{table_refusal}
use Rattle.table.specs.Layout.{decode}
use Rattle.automata.proofs.Totals.{trees-counted, trees-sum}
use Rattle.table.proofs.Intake.{unrefused-passes}

module _ (b : List ℕ) (passed : table_refusal b ≡ 0) (q : ℕ) (state : IsState (decode b) q)
    (finitely : FinitelyMany (decode b) q) where
  -- the number of a state's trees counts the trees that run to it
  pub passed_counted : Counts (λ t. run (decode b) t ≡ q) (trees_of (decode b) q)
  passed_counted =
      let valid = (unrefused-passes b passed).valid in
      trees-counted (decode b) valid.ranged valid.rises q state finitely

  -- it is the sum over the state's transitions of the product of their arguments' trees
  pub passed-sum : trees_of (decode b) q ≡ sum_into (trees_of (decode b)) q (decode b).transitions
  passed-sum =
      let valid = (unrefused-passes b passed).valid in
      trees-sum (decode b) valid.ranged valid.rises q state finitely

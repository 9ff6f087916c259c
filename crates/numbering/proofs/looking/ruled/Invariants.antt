-- `numbering::looking::ruled` meets its contract: in the loop the transitions before i have been read, and all states
-- up to `low` have been seen.
use mathlib.Core.Path.{◌≡◌}
use lib.ListN.{length}
use Prim.Native.Nat.{◌≤◌}
use Rattle.automata.specs.Numbered.{Passed}
use Rattle.format.specs.Format.{byte_values}
use Rattle.marking.specs.Marks.{marked}
use Rattle.packed.specs.Heads.{packed_in}
use Rattle.numbering.specs.Steps.{AllSeen}
use Rattle.validity.specs.Rules.{Spans}
use Rattle.numbering.proofs.looking.ruled.Given as goal

abbrev pub invariant-loop-i : goal.invariant-loop-i
invariant-loop-i l = record {
  low : l.low ≤ l.states;
  size : length l.seen ≡ byte_values;
  passed : Passed (packed_in l.transitions.heads.now l.transitions.args.now l.i) (marked l.seen);
  spans : Spans l.seen;
  all_seen : AllSeen l.seen l.low;
}

-- `validity::grounding::all_grounded` meets its contract: marks stay at states that do not come back to
-- themselves, and closed marks have all states of an acyclic automaton.
use Rattle.std.proofs.Common.{ℕ, ◌-◌, List, length}
use Rattle.fields.specs.View.{viewed}
use Rattle.format.specs.Format.{byte_values}
use Rattle.marking.specs.Marks.{marks as marks_of}
use Rattle.automata.proofs.Grounded.{returnless}
use Rattle.marking.proofs.Spreading.{Growing}
use Rattle.validity.proofs.grounding.all_grounded.Given as goal

abbrev pub invariant-loop : goal.invariant-loop
invariant-loop l = (cl : List ℕ) → Growing byte_values (returnless (viewed cl l.transitions l.n l.count)) l.marks

abbrev pub decreases-loop : goal.decreases-loop
decreases-loop l = length l.marks - marks_of l.marks

-- `validity::reaching::all_accessible` meets its contract: marks stay accessible, and closed marks have
-- every accessible state.
use Rattle.std.proofs.Common.{ℕ, ◌-◌, List, length}
use Rattle.automata.specs.Accessible.{accessible}
use Rattle.fields.specs.View.{viewed}
use Rattle.format.specs.Format.{byte_values}
use Rattle.marking.specs.Marks.{marks as marks_of}
use Rattle.marking.proofs.Spreading.{Growing}
use Rattle.validity.proofs.reaching.all_accessible.Given as goal

abbrev pub invariant-loop : goal.invariant-loop
invariant-loop l = (cl : List ℕ) → Growing byte_values (accessible (viewed cl l.transitions l.n l.count)) l.marks

abbrev pub decreases-loop : goal.decreases-loop
decreases-loop l = length l.marks - marks_of l.marks

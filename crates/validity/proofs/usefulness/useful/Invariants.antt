-- `validity::usefulness::useful` meets its contract: marks begin with the accepting states and stay
-- coaccessible, and closed marks have every coaccessible state.
use Rattle.std.proofs.Common.{◌-◌, length}
use Rattle.fields.specs.View.{viewed}
use Rattle.marking.specs.Marks.{marks as marks_of}
use Rattle.validity.proofs.Fixpoints.{Using}
use Rattle.validity.proofs.usefulness.useful.Given as goal

abbrev pub invariant-loop : goal.invariant-loop
invariant-loop l = Using (viewed l.classes l.transitions l.n l.count) l.marks

abbrev pub decreases-loop : goal.decreases-loop
decreases-loop l = length l.marks - marks_of l.marks

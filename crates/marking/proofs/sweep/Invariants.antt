-- `marking::sweep` meets its contract: the steps before i were made.
use Rattle.marking.specs.Steps.{Made, Steps}
use Rattle.marking.proofs.sweep.Given as goal

abbrev pub invariant-loop-i : goal.invariant-loop-i
invariant-loop-i g l = Steps (Made (goal.F-post g l.step)) l.i l.initial.value l.value l.changed

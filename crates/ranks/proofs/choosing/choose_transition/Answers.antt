use Rattle.fields.proofs.Transitions.{readable}
use native.Mathlib.Omega.{arith}
use Rattle.ranks.proofs.Places.{transition-found, transition-next, transition-over, transition-start}
use Rattle.ranks.proofs.choosing.choose_transition.Goals as goal

pub loop-i-init : goal.loop-i-init
loop-i-init c = transition-start c.ranges.number.fits c.requires.number_bound

pub trees_into-requires : goal.trees_into-requires
trees_into-requires c = readable c.requires.holds_transitions c.loop-i.i (omega arith)

pub returns-in_default : goal.returns-in_default
returns-in_default c =
    transition-found c.loop-i.invariant (omega arith) c.trees_into.ensures c.in-Some.is c.if-here-left.false

pub returns-in_default-2 : goal.returns-in_default-2
returns-in_default-2 c =
    transition-over c.loop-i.invariant (omega arith) c.trees_into.ensures c.in_default.is

pub loop-i-preserved : goal.loop-i-preserved
loop-i-preserved c =
    transition-next c.loop-i.invariant (omega arith) c.trees_into.ensures c.in-Some.is c.if-here-left.true

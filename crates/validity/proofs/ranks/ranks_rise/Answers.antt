use Rattle.std.proofs.Common.{◌*◌, arith}
use Rattle.validity.proofs.Rising.{rises-at}
use Rattle.format.specs.Format.{transition_bytes}
use Rattle.lists.proofs.Loops.{every-broken, every-end, every-next}
use Rattle.fields.proofs.Transitions.{readable, transitions-every}
use Rattle.validity.specs.Ranks.{rank_of, rises_by}
use Rattle.validity.proofs.ranks.ranks_rise.Goals as goal

pub loop-i-init : goal.loop-i-init
loop-i-init c =
    transitions-every (rises_by (rank_of c.args.ranks.now)) c.args.transitions.now
    c.args.count

pub args_below-requires : goal.args_below-requires
args_below-requires c =
    readable c.requires c.loop-i.i (omega arith)

pub returns-then-not-args_below : goal.returns-then-not-args_below
returns-then-not-args_below c =
    every-broken c.loop-i.invariant (omega arith)
    (rises-at c.args.ranks.now c.args.transitions.now ((transition_bytes * c.loop-i.i))
    c.out_of-out.ensures.value c.args_below.ensures c.if-not-args_below.true)

pub loop-i-preserved : goal.loop-i-preserved
loop-i-preserved c =
    every-next c.loop-i.invariant (omega arith)
    (rises-at c.args.ranks.now c.args.transitions.now ((transition_bytes * c.loop-i.i))
    c.out_of-out.ensures.value c.args_below.ensures c.if-not-args_below.false)

pub returns : goal.returns
returns c = every-end c.loop-i.invariant (omega arith)

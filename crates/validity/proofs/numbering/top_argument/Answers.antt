use Rattle.std.proofs.Common.{◌≡◌, max, ◌∙◌, arith, rules}
use Rattle.validity.proofs.Arguments.{top-end, top-next, top-places, top_start}
use Rattle.validity.proofs.numbering.top_argument.Goals as goal

pub loop-k-init : goal.loop-k-init
loop-k-init c = top_start

pub loop-k-preserved : goal.loop-k-preserved
loop-k-preserved c =
    let now = c.loop-k in
    let greater : c.max-t.result ≡ max now.t c.arg_of-q.result = search rules in
    rw (greater, c.arg_of-q.ensures.value) (top-next now.invariant (omega arith))

pub returns : goal.returns
returns c =
    top-end c.loop-k.invariant (omega arith) ∙ top-places c.args.transitions.now c.args.at c.requires.padded

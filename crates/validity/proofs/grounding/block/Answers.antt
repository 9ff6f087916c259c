-- `validity::grounding::block` meets its contract: a transition blocks its output or nothing.
use Rattle.std.proofs.Common.{sym, ◌∙◌, arith}
use Rattle.validity.proofs.Blocking.{blocks_more, blocks-skip}
use Rattle.validity.proofs.grounding.block.Goals as goal

pub returns-then-args_marked : goal.returns-then-args_marked
returns-then-args_marked c =
    blocks-skip c.args.transitions.now c.args.marks.now c.args.i c.args.blocked.now
    c.requires.blocks (sym c.args_marked.ensures ∙ c.if-args_marked.true)

pub returns : goal.returns
returns c =
    rw c.out_of-out.ensures.value (blocks_more c.args.transitions.now c.args.marks.now c.args.i
    c.args.blocked.now c.requires.blocks (omega (arith, c.out_of-out.ensures.value))
    (sym c.args_marked.ensures ∙ c.if-args_marked.false))

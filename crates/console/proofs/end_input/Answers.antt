-- `console::end_input` meets its contract: a line that has no bytes is no line.
use Rattle.console.proofs.Moves.{ended-with, ended-without, moved_as}
use Rattle.console.proofs.end_input.Goals as goal

pub returns-then-p-eq0 : goal.returns-then-p-eq0
returns-then-p-eq0 c =
    ended-without c.args.p _ c.args.table.now c.args.scratch.now c.args.out.now
    c.requires.buffered c.if-p-eq0.true

pub returns : goal.returns
returns c =
    moved_as c.end_line.ensures (ended-with c.args.p _ _ _ _ c.requires.buffered c.if-p-eq0.false)

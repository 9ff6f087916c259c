-- `console::step` meets its contract: byte 10 ends a line, any other is kept.
use Rattle.console.proofs.Moves.{keep-moved, moved_as, stepped-end, stepped_kept}
use Rattle.console.proofs.step.Goals as goal

pub returns-then-byte-eq-NEWLINE : goal.returns-then-byte-eq-NEWLINE
returns-then-byte-eq-NEWLINE c =
    moved_as c.end_line.ensures (stepped-end _ _ c.if-byte-eq-NEWLINE.true)

pub returns : goal.returns
returns c =
    moved_as (keep-moved c.args.p _ c.args.table.now c.args.scratch.now c.args.out.now _ _ _ c.requires.buffered c.keep-held.ensures) (stepped_kept _ _ c.if-byte-eq-NEWLINE.false)

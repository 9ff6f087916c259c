-- `console::end_line` meets its contract: the line is served, and its text stands after what was printed.
use Rattle.console.proofs.Moves.{line-moved}
use Rattle.console.proofs.end_line.Goals as goal

pub returns : goal.returns
returns c =
    line-moved c.args.p _ _ _ _ _ _ _ _ _ _ c.requires.buffered c.serve-len.ensures c.put_word-printed.ensures

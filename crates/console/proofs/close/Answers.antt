-- `console::close` meets its contract: the last line stands after what was printed.
use Rattle.console.proofs.Moves.{close-moved}
use Rattle.console.proofs.close.Goals as goal

pub returns : goal.returns
returns c =
    close-moved c.args.p c.end_input-q.result _ _ _ _ _ _ _ _ _ c.requires.progress_room
    c.end_input-q.ensures c.finish-len.ensures c.put_word.ensures

-- The use lies between the bounds of its state.
use native.Mathlib.Omega.{arith}
use Rattle.uses.proofs.Noting.{noted-first, noted-again}
use Rattle.uses.proofs.spans.note_arg.Goals as goal

pub returns-then-lasts-q-eq0 : goal.returns-then-lasts-q-eq0
returns-then-lasts-q-eq0 c =
    noted-first c.requires.noted_to (omega arith)
    c.arg_of-q.ensures.value c.if-lasts-q-eq0.true

pub returns : goal.returns
returns c =
    noted-again c.requires.noted_to (omega arith)
    c.arg_of-q.ensures.value c.if-lasts-q-eq0.false

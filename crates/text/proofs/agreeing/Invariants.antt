-- `text::agreeing` meets its contract: what is agreed is what was passed and what is agreed of the rest.
use Rattle.text.proofs.Heads.{AgreedFrom}
use Rattle.text.proofs.agreeing.Given as goal

abbrev pub invariant-loop-i : goal.invariant-loop-i
invariant-loop-i l = AgreedFrom l.s l.w l.i

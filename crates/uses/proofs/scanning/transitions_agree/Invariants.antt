-- In the loop the transitions below i agree. Those after its end have no use and agree too.
use Rattle.uses.specs.Settings.{arrays_in}
use Rattle.uses.proofs.Spanning.{AgreesBelow}
use Rattle.uses.proofs.scanning.transitions_agree.Given as goal

abbrev pub invariant-loop-i : goal.invariant-loop-i
invariant-loop-i l = AgreesBelow (arrays_in l.setting l.frames) l.setting.transitions.now l.setting.count l.p l.q l.i

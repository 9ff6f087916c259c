-- `naming::states::first_state` meets its contract: the states before `q` were tried.
use Rattle.naming.proofs.Choosing.{StatesTried}
use Rattle.naming.proofs.states.first_state.Given as goal

abbrev pub invariant-loop-q : goal.invariant-loop-q
invariant-loop-q l = StatesTried l.sought.table.now l.sought.setting.now l.sought.marks.now l.sought.names.now l.sought.j l.q

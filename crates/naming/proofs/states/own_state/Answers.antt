-- `naming::states::own_state` meets its contract: the state of the subtree is tried.
use native.Mathlib.Omega.{arith}
use Rattle.naming.proofs.states.own_state.Goals as goal

pub fits_state-requires : goal.fits_state-requires
fits_state-requires c = record {
  q_le_n = omega (arith, c.if-q-sought.false);
}

pub returns : goal.returns
returns c = record {
  upper_bound = omega (arith, c.if-q-sought.false);
  own = c.from-q.ensures;
  chosen = λ A t ts S N K O X. (c.fits_state.ensures A t ts S N K O X).yes c.if-not-fits_state.false;
}

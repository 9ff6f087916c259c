use mathlib.Core.Path.{subst}
use native.Mathlib.Omega.{arith}
use Rattle.naming.specs.Choice.{StateTried}
use Rattle.naming.proofs.Choosing.{no-state-first, no-state-next}
use Rattle.naming.proofs.states.first_state.Goals as goal

pub loop-q-init : goal.loop-q-init
loop-q-init c = record { each = λ A t ts S N K O X. no-state-first }

pub fits_state-requires : goal.fits_state-requires
fits_state-requires c = record {
  q_le_n = omega arith;
}

pub returns-then-fits_state : goal.returns-then-fits_state
returns-then-fits_state c = record {
  upper_bound = omega arith;
  state_sought = λ A t ts S N K O X. (c.fits_state.ensures A t ts S N K O X).yes c.if-fits_state.true;
}

pub loop-q-preserved : goal.loop-q-preserved
loop-q-preserved c =
    let now = c.loop-q in
    record {
      each = λ A t ts S N K O X. no-state-next (now.invariant.each A t ts S N K O X) (subst
          (StateTried A t S ts N c.args.sought.now.j now.q) c.if-fits_state.false (c.fits_state.ensures A t ts S N K O
          X));
    }

pub returns : goal.returns
returns c = record {
  upper_bound = tt;
  state_sought = λ A t ts S N K O X. record { each = λ q h. (c.loop-q.invariant.each A t ts S N K O X).each q (omega arith) };
}

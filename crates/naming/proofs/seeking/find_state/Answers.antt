-- `naming::seeking::find_state` meets its contract: a parent's name excludes every state, or the own
-- state or 0 fits, or the search decides.
use mathlib.Core.Path.{◌∙◌, sym}
use native.Mathlib.Omega.{arith}
use Rattle.naming.proofs.Apart.{raised-no-state}
use Rattle.alike.proofs.Carried.{holds-subtrees}
use Rattle.naming.proofs.seeking.find_state.Goals as goal

pub returns-then-raised : goal.returns-then-raised
returns-then-raised c = record {
  upper_bound = tt;
  state_sought = λ A t ts S N K O X. record {
    each = λ q h f. raised-no-state S (holds-subtrees K.holds) K.classes.fits K.size X
        (sym c.raised.ensures ∙ c.if-raised.true) q;
  };
}

pub returns-in-Some : goal.returns-in-Some
returns-in-Some c = record { upper_bound = c.in-Some.ensures.upper_bound; state_sought = λ A t ts S N K O X. c.in-Some.ensures.chosen A t ts S N K O X }

pub fits_state-requires : goal.fits_state-requires
fits_state-requires c = record {
  q_le_n = omega arith;
}

pub returns-then-fits_state : goal.returns-then-fits_state
returns-then-fits_state c = record {
  upper_bound = omega arith;
  state_sought = λ A t ts S N K O X. (c.fits_state.ensures A t ts S N K O X).yes c.if-fits_state.true;
}

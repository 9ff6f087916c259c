-- `naming::states::fits_state` meets its contract: the state is not free, or the criterion decides.
use mathlib.Core.Path.{◌∙◌, sym}
use native.Mathlib.Omega.{arith}
use Rattle.naming.proofs.Choosing.{free-tried, not_free}
use Rattle.naming.proofs.Classing.{state-class}
use Rattle.naming.proofs.states.fits_state.Goals as goal

pub is_free-requires : goal.is_free-requires
is_free-requires c =
    omega (arith, c.args.sought.now.setting.now.states, c.requires.q_le_n)

pub returns-then-not-is_free : goal.returns-then-not-is_free
returns-then-not-is_free c =
    λ A t ts S N K O X. not_free K.size O c.requires.q_le_n (sym c.is_free.ensures ∙ c.if-not-is_free.true)

pub class_in-class-requires : goal.class_in-class-requires
class_in-class-requires c = record {
  table_len = c.args.sought.now.table_len;
  q_lt_byte_values = omega (arith, c.args.sought.now.setting.now.states, c.requires.q_le_n);
}

pub like_state-requires : goal.like_state-requires
like_state-requires c = record {
  le_j = c.args.sought.now.le_j;
  j_le_m = c.args.sought.now.j_le_m;
  parents_within = c.args.sought.now.parents_within;
}

pub returns : goal.returns
returns c =
    λ A t ts S N K O X. free-tried K.size O c.requires.q_le_n (sym c.is_free.ensures ∙ c.if-not-is_free.false) (c.like_state.ensures A t ts S N K.holds X (K.classed.each c.args.sought.now.j c.args.sought.now.le_j c.args.sought.now.j_le_m) (c.class_in-class.ensures ∙
    state-class K.classes c.args.q (omega (arith, c.requires.q_le_n, K.size))))

-- `naming::models::fits_subtree` meets its contract: the name is not the subtree's own, or the criterion decides.
use mathlib.Core.Path.{◌∙◌, sym}
use native.Mathlib.Omega.{arith}
use Rattle.naming.proofs.Choosing.{not_own, own-tried}
use Rattle.naming.proofs.Spans.{joined}
use Rattle.naming.proofs.models.fits_subtree.Goals as goal

pub returns-then-from-setting : goal.returns-then-from-setting
returns-then-from-setting c =
    λ A t ts S N H K X. not_own X c.requires.j_lt_v c.requires.v_le_m (λ e. c.if-from-setting.true (c.from.ensures ∙ e))

pub like_subtree-requires : goal.like_subtree-requires
like_subtree-requires c =
    let first = c.requires.spans_of.each c.args.j c.requires.le_j (omega (arith, c.requires.j_lt_v, c.requires.v_le_m)) in
    let second = c.requires.spans_of.each c.args.v (omega (arith, c.requires.j_lt_v, c.requires.v_le_m)) c.requires.v_le_m in
    let both = joined {f = c.from-from.result} {t = c.from-to.result} c.requires.spans_of c.requires.le_j
    c.requires.j_lt_v c.requires.v_le_m (omega (arith, c.from-from.ensures, c.min.ensures)) (omega (arith, c.from-from.ensures, c.min.ensures))
    (omega (arith, c.from-to.ensures, c.max.ensures)) (omega (arith, c.from-to.ensures, c.max.ensures))
    (omega (arith, c.from-to.ensures, c.max.ensures, first.known, second.known)) in
    record {
      le_j = c.requires.le_j;
      j_lt_v = c.requires.j_lt_v;
      v_le_m = c.requires.v_le_m;
      parents_within = both.0;
      parents_within_2 = both.1;
    }

pub returns : goal.returns
returns c =
    λ A t ts S N H K X. own-tried X c.requires.j_lt_v c.requires.v_le_m (sym c.from.ensures ∙ c.if-from-setting.false)
    (c.like_subtree.ensures A t ts S N H X (K.each c.args.j c.requires.le_j (omega (arith, c.requires.j_lt_v, c.requires.v_le_m)))
    (K.each c.args.v (omega (arith, c.requires.j_lt_v, c.requires.v_le_m)) c.requires.v_le_m))

use mathlib.Core.Path.{subst}
use native.Mathlib.Omega.{arith}
use Rattle.naming.specs.Choice.{SubtreeTried}
use Rattle.naming.proofs.Choosing.{no-subtree-first, no-subtree-next}
use Rattle.naming.proofs.models.find_subtree.Goals as goal

pub loop-v-init : goal.loop-v-init
loop-v-init c = record { each = λ A t ts S N H K X. no-subtree-first (omega arith) }

pub fits_subtree-requires : goal.fits_subtree-requires
fits_subtree-requires c = record {
  spans_of = c.requires.spans_of;
  le_j = c.requires.le_j;
  j_lt_v = omega arith;
  v_le_m = omega arith;
}

pub returns-then-fits_subtree : goal.returns-then-fits_subtree
returns-then-fits_subtree c = record {
  bounds = (omega arith, omega arith);
  subtree_sought = λ A t ts S N H K X. (c.fits_subtree.ensures A t ts S N H K X).yes c.if-fits_subtree.true;
}

pub loop-v-preserved : goal.loop-v-preserved
loop-v-preserved c =
    let now = c.loop-v in
    record {
      each = λ A t ts S N H K X. no-subtree-next (now.invariant.each A t ts S N H K X)
          (subst (SubtreeTried A t S ts c.args.setting.now.n N c.args.j now.v) c.if-fits_subtree.false
          (c.fits_subtree.ensures A t ts S N H K X));
    }

pub returns : goal.returns
returns c = record {
  bounds = tt;
  subtree_sought = λ A t ts S N H K X. record {
    each = λ v h l. (c.loop-v.invariant.each A t ts S N H K X).each v h (omega arith);
  };
}

use native.Mathlib.Omega.{arith}
use Rattle.uses.proofs.Noting.{noted-start, noted-end}
use Rattle.uses.proofs.spans.note_args.Goals as goal

pub loop-k-init : goal.loop-k-init
loop-k-init c = (c.arity_of-arity.ensures, noted-start c.requires.noted)

pub note_arg-requires : goal.note_arg-requires
note_arg-requires c =
    let l = c.loop-k in
    record {
      readable = c.requires.readable;
      i_lt_max_product = c.requires.i_lt_max_product;
      k_bound = omega (arith, l.invariant.0);
      noted_to = l.invariant.1;
    }

pub returns : goal.returns
returns c = noted-end c.loop-k.invariant.1 (omega (arith, c.loop-k.invariant.0))

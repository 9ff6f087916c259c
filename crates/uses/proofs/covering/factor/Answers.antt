-- The argument that is left out has factor 1.
use Rattle.uses.proofs.Factors.{factor-out, factor-there}
use native.Mathlib.Omega.{arith}
use Rattle.uses.proofs.covering.factor.Goals as goal

pub returns-then-x-k : goal.returns-then-x-k
returns-then-x-k c = record {
  value = factor-out c.args.weights.now c.args.transitions.now c.args.at c.args.k c.args.x c.if-x-k.true;
  upper_bound = omega arith;
}

pub returns : goal.returns
returns c = record {
  value = factor-there c.args.weights.now c.args.transitions.now c.args.at c.args.k c.args.x c.if-x-k.false c.arg_of-q.ensures.value c.from.ensures;
  upper_bound = omega (arith, c.from.ensures, c.fits-weights c.arg_of-q.result);
}

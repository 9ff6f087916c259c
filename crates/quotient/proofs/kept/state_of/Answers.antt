-- `quotient::kept::state_of` meets its contract: a name up to n is a state, another has the state of its subtree.
use borrow.Author.Tests.{le-leb, lt-leb}
use native.Mathlib.Omega.{arith}
use Rattle.quotient.proofs.kept.state_of.Goals as goal

pub returns-then-x-candidates : goal.returns-then-x-candidates
returns-then-x-candidates c = record {
  value = rw (le-leb c.args.x c.args.candidates.now.n c.if-x-candidates.true);
  upper_bound = omega arith;
}

pub returns : goal.returns
returns c = record {
  value = rw (lt-leb c.args.x c.args.candidates.now.n c.if-x-candidates.false) c.index.ensures.value;
  upper_bound = c.index.ensures.upper_bound;
}

-- `quotient::kept::is_kept` meets its contract: a name up to n is kept if marked, another if it is a
-- subtree's own.
use borrow.Author.Tests.{le-leb, lt-leb}
use mathlib.Core.Path.{ap}
use lib.Dec.{eqb}
use lib.ListN.{get_or}
use Prim.Native.Nat.{ℕ}
use Rattle.quotient.proofs.Tallies.{unequal-nonzero}
use Rattle.quotient.proofs.kept.is_kept.Goals as goal

pub returns-then-x-candidates : goal.returns-then-x-candidates
returns-then-x-candidates c =
    rw (le-leb c.args.x c.args.candidates.now.n c.if-x-candidates.true)
    (unequal-nonzero (get_or c.args.candidates.now.opens.now c.args.x 0))

pub returns : goal.returns
returns c =
    rw (lt-leb c.args.x c.args.candidates.now.n c.if-x-candidates.false) (ap (λ (y : ℕ). eqb y c.args.x) c.from.ensures)

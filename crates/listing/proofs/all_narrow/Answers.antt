use Rattle.lists.proofs.Loops.{every-broken, every-end, every-next, every-start}
use Rattle.trees.specs.Listing.{all_narrow, children_at}
use Rattle.format.specs.Format.{max_arity}
use native.Mathlib.Omega.{arith}
use native.Mathlib.Nat.{zero-add}
use borrow.Author.Tests.{le-leb, lt-leb}
use Rattle.listing.proofs.all_narrow.Goals as goal

pub loop-i-init : goal.loop-i-init
unfolding all_narrow
loop-i-init c = every-start _ (zero-add _)

pub returns-then-from-gt-MAX_ARITY : goal.returns-then-from-gt-MAX_ARITY
returns-then-from-gt-MAX_ARITY c =
    let k = children_at c.args.s.now c.loop-i.i in
    let more = c.loop-i-test.true in
    every-broken c.loop-i.invariant more (lt-leb k max_arity (omega arith))

pub loop-i-preserved : goal.loop-i-preserved
loop-i-preserved c =
    let k = children_at c.args.s.now c.loop-i.i in
    let more = c.loop-i-test.true in
    every-next c.loop-i.invariant more (le-leb k max_arity (omega arith))

pub returns : goal.returns
returns c = every-end c.loop-i.invariant c.loop-i-test.false

use Rattle.std.proofs.Common.{refl, arith}
use Rattle.fingerprints.specs.Fingerprints.{all_some}
use Rattle.lists.proofs.Loops.{clean_end, clean-next, clean-start}
use Rattle.fingerprints.proofs.differing.all_some.Goals as goal

pub loop-q-init : goal.loop-q-init
loop-q-init c = clean-start c.args.n (omega arith)

pub loop-q-preserved : goal.loop-q-preserved
loop-q-preserved c = clean-next c.loop-q.invariant (omega arith) refl

pub returns : goal.returns
unfolding all_some
returns c = clean_end c.loop-q.invariant (omega arith)

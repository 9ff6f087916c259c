use Rattle.std.proofs.Common.{◌≡◌, arith, rules}
use Rattle.lists.specs.Tests.{bit}
use Rattle.table.specs.Layout.{class_at}
use Rattle.fingerprints.proofs.Adding.{class-end, class-next, class-start}
use Rattle.fingerprints.proofs.prints.class_prints.Goals as goal

pub loop-q-init : goal.loop-q-init
loop-q-init c = class-start c.args.classes.now

pub loop-q-preserved : goal.loop-q-preserved
loop-q-preserved c =
    let class : c.from.result ≡ bit (class_at c.args.classes.now c.loop-q.q) = search rules in
    class-next c.loop-q.invariant (omega arith) (omega (arith, c.requires.n_bound)) class

pub returns : goal.returns
returns c = class-end c.loop-q.invariant (omega arith)

use Rattle.std.proofs.Common.{refl, arith}
use Rattle.fingerprints.proofs.Adding.{filling-end, filling-next, filling-start, gains-end, gains-next}
use Rattle.fingerprints.proofs.Adding.{gains-start}
use Rattle.fingerprints.proofs.prints.add_all_uses.Goals as goal

pub loop-i-init : goal.loop-i-init
loop-i-init c = filling-start c.requires.prints (gains-start c.args.transitions.now c.args.count)

pub loop-i-preserved : goal.loop-i-preserved
loop-i-preserved c =
    filling-next c.loop-i.invariant c.add_uses.ensures
    (gains-next c.args.transitions.now c.args.count c.loop-i.i (omega arith) c.out_of-out.ensures.value refl)

pub returns : goal.returns
returns c =
    filling-end c.loop-i.invariant (gains-end c.args.transitions.now c.args.count
    c.loop-i.i (omega arith))

use native.Mathlib.Omega.{arith}
use Rattle.uses.proofs.walking.next_with.Invariants.{passed-next}
use Rattle.uses.proofs.walking.next_with.Goals as goal

pub loop-i-init : goal.loop-i-init
loop-i-init c = record { on = omega arith; inside = c.requires.from_le_to; none = λ y l d e. omega arith }

pub returns-then-transitions-i : goal.returns-then-transitions-i
returns-then-transitions-i c =
    let w = c.loop-i.invariant in record {
      on = w.on;
      found = record { inside = w.inside; here = λ _. c.if-transitions-i.true };
      none = w.none;
    }

pub loop-i-preserved : goal.loop-i-preserved
loop-i-preserved c =
    passed-next c.loop-i.invariant c.loop-i-test.true c.if-transitions-i.false

pub returns : goal.returns
returns c =
    let w = c.loop-i.invariant in record {
      on = c.requires.from_le_to;
      found = record { inside = omega arith; here = λ h. absurd (omega (arith)) };
      none = λ y l d. w.none y l (omega (arith, w.inside, c.loop-i-test.false, d));
    }

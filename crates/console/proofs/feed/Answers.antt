use mathlib.Core.Path.{refl}
use Rattle.console.proofs.Moves.{feeding-all, feeding-full, feeding-next, feeding-start}
use borrow.Author.Rules.{rules}
use Rattle.console.proofs.feed.Goals as goal

pub loop-i-init : goal.loop-i-init
loop-i-init c =
    (feeding-start _ _ _ _ _ _ _ c.requires.buffered c.requires.progress_room, refl, refl)

pub returns-then-q-gt-OUT_BYTES : goal.returns-then-q-gt-OUT_BYTES
returns-then-q-gt-OUT_BYTES c =
    feeding-full c.loop-i.invariant.0 _ c.requires.progress_room c.if-q-gt-OUT_BYTES.true

pub loop-i-preserved : goal.loop-i-preserved
loop-i-preserved c = (
  feeding-next c.loop-i.invariant.0 _ _ _ _ _ c.loop-i-test.true c.step-q.ensures c.if-q-gt-OUT_BYTES.false,
  search rules,
  search rules,
)

pub returns : goal.returns
returns c = feeding-all c.loop-i.invariant.0 c.loop-i-test.false

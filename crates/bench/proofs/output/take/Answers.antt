use Rattle.std.proofs.Common.{rules, arith, refl}
use Rattle.bench.specs.Output.{Took}
use Rattle.bench.proofs.Taking.{taken-some, taken-within, taking-all, taking-next, taking-room}
use Rattle.bench.proofs.Taking.{taking-start}
use Rattle.bench.proofs.output.take.Goals as goal

pub loop-at-init : goal.loop-at-init
loop-at-init c =
    (taking-start _ _ _ _ _ _ c.requires.buffered c.requires.idle, refl, refl)

pub feed-fed-requires : goal.feed-fed-requires
feed-fed-requires c = record {
  buffered = c.loop-at.invariant.0.ready;
  progress_room = taking-room c.loop-at.invariant.0 c.requires.idle;
}

pub returns-in_err-q : goal.returns-in_err-q
unfolding Took
returns-in_err-q c = search rules

pub overflow_add-at : goal.overflow_add-at
overflow_add-at c =
    search (
      rules,
      taken-within c.loop-at.invariant.0 c.feed-fed.result _ _ _ _ c.feed-fed.ensures,
    )

pub loop-at-smaller : goal.loop-at-smaller
loop-at-smaller c =
    omega (
      arith,
      taken-some c.loop-at.invariant.0 _ _ _ _ _ c.feed-fed.ensures c.loop-at-test.true,
    )

pub loop-at-preserved : goal.loop-at-preserved
loop-at-preserved c = (
  taking-next c.loop-at.invariant.0 c.feed-fed.result _ _ _ _ c.feed-fed.ensures _ _ c.in_ok-q.ensures,
  search rules,
  omega (arith, c.loop-at.invariant.2),
)

pub returns : goal.returns
unfolding Took
returns c = taking-all c.loop-at.invariant.0 c.loop-at-test.false

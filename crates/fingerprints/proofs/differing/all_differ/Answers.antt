use Rattle.std.proofs.Common.{sym, ◌∙◌, arith}
use Rattle.lists.proofs.Loops.{every-broken, every-end, every-next, every-start}
use Rattle.fingerprints.specs.Fingerprints.{all_differ}
use Rattle.fingerprints.proofs.Buckets.{taken_next, taken_start}
use Rattle.fingerprints.proofs.differing.all_differ.Goals as goal

pub loop-q-init : goal.loop-q-init
loop-q-init c = (every-start c.args.n (omega arith), taken_start c.args.prints.now)

pub differs_by_bucket-requires : goal.differs_by_bucket-requires
differs_by_bucket-requires c =
    let inv = c.loop-q.invariant in
    record { le_q = omega arith; q_bound = omega (arith, c.requires); taken_below = inv.1 }

pub returns-then-not-differs_by_bucket : goal.returns-then-not-differs_by_bucket
unfolding all_differ
returns-then-not-differs_by_bucket c =
    every-broken c.loop-q.invariant.0 (omega arith) (sym c.differs_by_bucket.ensures ∙ c.if-not-differs_by_bucket.true)

pub loop-q-preserved : goal.loop-q-preserved
loop-q-preserved c = (
  every-next c.loop-q.invariant.0 (omega arith) (sym c.differs_by_bucket.ensures ∙ c.if-not-differs_by_bucket.false),
  taken_next c.loop-q.invariant.1 c.bucket.ensures.value c.bucket.ensures.upper_bound,
)

pub returns : goal.returns
unfolding all_differ
returns c = every-end c.loop-q.invariant.0 (omega arith)

use Rattle.std.proofs.Common.{rules}
use native.Mathlib.Omega.{arith}
use Rattle.table.specs.Layout.{arg_of}
use Rattle.ranks.proofs.Pending.{put-end, put_next, put-start, weight-some}
use Rattle.ranks.proofs.unfolding.put_children.Goals as goal

pub loop-k-init : goal.loop-k-init
loop-k-init c =
    (c.arity_of-arity.ensures, put-start c.requires.states_len c.requires.lefts_len c.ranges.number.fits c.requires.number_bound)

pub divided-mine-requires : goal.divided-mine-requires
divided-mine-requires c =
    let more = c.loop-k-test.true in
    weight-some c.loop-k.invariant.1 (omega (arith, c.loop-k.invariant.0)) c.loop-k.invariant.0
    (c.product_of-weight.ensures (arg_of c.args.transitions.now c.args.at) (λ j l q h. search rules))

pub loop-k-preserved : goal.loop-k-preserved
loop-k-preserved c =
    let more = c.loop-k-test.true in (
      c.loop-k.invariant.0,
      put_next c.loop-k.invariant.1 (omega (arith, c.loop-k.invariant.0)) c.loop-k.invariant.0
          (c.product_of-weight.ensures (arg_of c.args.transitions.now c.args.at) (λ j l q h. search rules))
          c.requires.at_bound
          c.arg_of.ensures.value c.divided-mine.ensures.quotient c.divided-mine.ensures.rest,
    )

pub returns : goal.returns
returns c = put-end c.loop-k.invariant.1 (omega (arith, c.loop-k.invariant.0))

use mathlib.Core.Path.{◌≡◌, ◌∙◌}
use Prim.Native.Nat.{◌+◌, ◌-◌}
use native.Mathlib.Omega.{arith}
use Rattle.partition.specs.Splits.{key_of}
use Rattle.partition.proofs.Moving.{above-end, above-led, above-next, above-start}
use Rattle.partition.proofs.grouping.regroup.Goals as goal

pub loop-q-init : goal.loop-q-init
loop-q-init c =
    let none : c.args.n + 1 - 1 ≡ c.args.n = omega arith in
    rw none (above-start c.args.n (key_of c.args.keys.now) c.args.parts.now)

pub settle-changed-requires : goal.settle-changed-requires
settle-changed-requires c = record {
  parts_len = c.loop-q.invariant.size ∙ c.requires.size;
  led_below = above-led c.requires c.loop-q.invariant;
  q_bound = omega (arith, c.loop-q.invariant.within, c.requires.few);
}

pub loop-q-preserved : goal.loop-q-preserved
loop-q-preserved c =
    above-next c.requires c.loop-q.invariant (omega arith) c.settle-changed.ensures

pub returns : goal.returns
returns c = above-end c.requires c.loop-q.invariant (omega arith)

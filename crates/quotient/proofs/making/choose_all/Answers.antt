use native.Mathlib.Omega.{arith}
use mathlib.Core.Path.{refl}
use Prim.Native.Nat.{◌+◌}
use Rattle.fields.proofs.Transitions.{readable}
use Rattle.quotient.specs.Named.{nth_choices}
use Rattle.quotient.proofs.Appending.{making-end, making-next, making-room, making-start}
use Rattle.quotient.proofs.Walking.{chosen-start, left_end, left-next, left_from}
use Rattle.quotient.proofs.making.choose_all.Goals as goal

pub loop-i-init : goal.loop-i-init
loop-i-init c = (
  making-start (chosen-start c.args.names.now c.args.transitions.now c.args.count),
  omega arith,
  refl,
)

pub choose_at-requires : goal.choose_at-requires
choose_at-requires c =
    let loop = c.loop-i in
    let nth = nth_choices c.args.names.now c.args.transitions.now in
    record {
      readable = readable c.requires.holds_padded.runs loop.i (omega arith);
      padded = c.requires.holds_padded.each loop.i (omega arith);
      odd_marked = c.requires.odd_marked;
      room = making-room (nth loop.i) (left_from nth c.args.count (loop.i + 1)) loop.invariant.0
          (left-next nth c.args.count loop.i (omega arith)) c.requires.room;
    }

pub note_end-requires : goal.note_end-requires
note_end-requires c =
    let loop = c.loop-i in
    let nth = nth_choices c.args.names.now c.args.transitions.now in
    let room = making-room (nth loop.i) (left_from nth c.args.count (loop.i + 1)) loop.invariant.0
    (left-next nth c.args.count loop.i (omega (arith, c.loop-i-test.true)))
    c.requires.room in
    omega (arith, room.few, room.within, c.choose_at.ensures.appended.count)

pub loop-i-preserved : goal.loop-i-preserved
loop-i-preserved c =
    let loop = c.loop-i in
    let nth = nth_choices c.args.names.now c.args.transitions.now in (
      making-next (left_from nth c.args.count (loop.i + 1)) loop.invariant.0
          (left-next nth c.args.count loop.i (omega (arith, c.loop-i-test.true))) c.choose_at.ensures.appended
          c.choose_at.ensures.same_arrays,
      omega (arith, c.loop-i-test.true),
      omega (arith, c.note_end.auto, loop.invariant.2),
    )

pub shape_of-ends : goal.shape_of-ends
shape_of-ends c = c.loop-i.invariant.2

pub returns-clause-appended : goal.returns-clause-appended
returns-clause-appended c =
    let nth = nth_choices c.args.names.now c.args.transitions.now in
    making-end c.loop-i.invariant.0 (left_end nth c.args.count c.loop-i.i (omega arith))

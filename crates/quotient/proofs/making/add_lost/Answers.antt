use native.Mathlib.Omega.{arith}
use Prim.Native.Nat.{◌+◌}
use Rattle.quotient.specs.Named.{added_at}
use Rattle.quotient.proofs.Appending.{making-end, making-next, making-room, making-start}
use Rattle.quotient.proofs.Walking.{left_end, left-next, left_from, new-start}
use Rattle.quotient.proofs.making.add_lost.Goals as goal

pub loop-j-init : goal.loop-j-init
loop-j-init c = (making-start (new-start c.args.names.now), omega arith)

pub add_new-requires : goal.add_new-requires
add_new-requires c =
    let loop = c.loop-j in
    let added = added_at c.args.names.now in
    let m = c.args.names.now.named.now.subtrees.now.count in
    record {
      j_lt_m = omega arith;
      room = making-room (added loop.j) (left_from added m (loop.j + 1)) loop.invariant.0
          (left-next added m loop.j (omega arith)) c.requires;
    }

pub loop-j-preserved : goal.loop-j-preserved
loop-j-preserved c =
    let loop = c.loop-j in
    let added = added_at c.args.names.now in
    let m = c.args.names.now.named.now.subtrees.now.count in (
      making-next (left_from added m (loop.j + 1)) loop.invariant.0 (left-next added m loop.j (omega arith))
          c.add_new.ensures.appended c.add_new.ensures.same_arrays,
      omega arith,
    )

pub returns-clause-appended : goal.returns-clause-appended
returns-clause-appended c =
    making-end c.loop-j.invariant.0
    (left_end (added_at c.args.names.now) c.args.names.now.named.now.subtrees.now.count c.loop-j.j (omega arith))

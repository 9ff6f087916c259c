-- `change::rebuilding::make_all` meets its contract: the two numbers of each transition between names.
use native.Mathlib.Omega.{arith}
use Rattle.naming.specs.Choice.{name_in}
use Rattle.subtrees.specs.Store.{bottom_up}
use Rattle.table.specs.Layout.{decode}
use Rattle.change.proofs.Handing.{fitting-chosen}
use Rattle.change.proofs.Inputs.{given-size}
use Rattle.change.proofs.Knowing.{given-searchable}
use Rattle.packed.proofs.Heads.{entries-in, entries-packed}
use Rattle.change.proofs.Runs.{between-fit}
use Rattle.change.proofs.rebuilding.make_all.Goals as goal

pub slice_bounds-make-count : goal.slice_bounds-make-count
slice_bounds-make-count c =
    omega (arith, given-size c.requires.some_fitting.4.named.given)

pub slice_bounds-make-start : goal.slice_bounds-make-start
slice_bounds-make-start c =
    omega (arith, given-size c.requires.some_fitting.4.named.given)

pub make-requires : goal.make-requires
make-requires c = record {
  holds_padded = (given-searchable c.requires.some_fitting.4.named.given).padded;
  room = record { few = c.requires.room.few; args-size = c.requires.room.args; within = omega arith };
  few_chosen = (
    decode c.args.table.now,
    c.requires.some_fitting.1,
    name_in (bottom_up c.requires.some_fitting.1) c.args.named.now.names.now,
    c.requires.some_fitting.2,
    fitting-chosen c.requires.some_fitting.4,
    c.requires.some_fitting.5,
  );
}

pub returns : goal.returns
returns c =
    let make-call = c.make in
    let room = make-call.ensures.room_2 in
    λ inserting t o cl F.
    let H = make-call.ensures.holds_entries (decode c.args.table.now) t (name_in (bottom_up t) c.args.named.now.names.now)
    o (fitting-chosen F) in
    record {
      holds = entries-packed H (between-fit F.named) record { args = room.args-size; few = room.few }
          room.within;
      list = entries-in H (between-fit F.named);
    }

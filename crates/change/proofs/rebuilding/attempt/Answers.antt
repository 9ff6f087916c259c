-- `change::rebuilding::attempt` meets its contract: the transitions between names, handed to the numbering.
use native.Mathlib.Omega.{arith}
use Rattle.change.proofs.Inputs.{given-few, given-over, given-size}
use Rattle.change.proofs.Blank.{given-blank, given-old}
use Rattle.change.proofs.Rebuilt.{left_alone, rebuilt}
use Rattle.change.proofs.rebuilding.attempt.Goals as goal

pub slice_bounds-givers_of-count : goal.slice_bounds-givers_of-count
slice_bounds-givers_of-count g c =
    omega (arith, given-size c.requires.some_fitting.4.named.given)

pub slice_bounds-givers_of-start : goal.slice_bounds-givers_of-start
slice_bounds-givers_of-start g c =
    omega (arith, given-size c.requires.some_fitting.4.named.given)

pub givers_of-givers-requires : goal.givers_of-givers-requires
givers_of-givers-requires g c =
    let given = c.requires.some_fitting.4.named.given in
    record { holds_transitions = (given-over given).runs; m_le_max_nodes = given.lists.few }

pub rebuild-requires : goal.rebuild-requires
rebuild-requires g c =
    let some = c.requires.some_fitting in
    let g = some.4.named.given in
    let P = c.make_all-made.ensures some.0 some.1 some.2 some.3 some.4 in
    record {
      holds_packed = P.holds;
      room = record { args = omega arith; few = omega (arith, c.requires.few_enough) };
      room_len = omega arith;
      next_len = omega arith;
      table_len = given-size g;
      blank_after = given-blank g;
    }

pub invariant_of-old : goal.invariant_of-old
invariant_of-old g c =
    let g = c.requires.some_fitting.4.named.given in
    record { states_few = given-few g; transitions_few = given-old g }

pub returns : goal.returns
returns g c = record {
  table_after = λ inserting t o F. rebuilt F (c.make_all-made.ensures inserting t o c.args.classes.now F)
      c.rebuild.result c.rebuild.ensures.table_after;
  table_unchanged = left_alone c.rebuild.result _
      c.args.table.now c.rebuild.ensures.table_after;
}

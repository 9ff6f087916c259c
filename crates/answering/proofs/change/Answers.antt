-- `answering::change` meets its contract: refused before anything is written, or the change with 16 and 17 left.
use mathlib.Core.Path.{◌∙◌, refl, sym}
use Rattle.change.specs.Changing.{change_of}
use Rattle.trees.specs.Listing.{read_tree}
use Rattle.running.proofs.Tables.{root-byte}
use Rattle.answering.proofs.Changing.{change-given, change-refused, change-settled, input-broken, input-passed}
use Rattle.answering.proofs.Changing.{presence-left, presence-read}
use Rattle.fields.proofs.Transitions.{passed-table}
use Rattle.format.proofs.Refusals.{refusal-some}
use Rattle.answering.proofs.change.Goals as goal

pub returns-in-Err : goal.returns-in-Err
returns-in-Err c =
    let change = change_of c.args.inserting (read_tree c.args.tree.now) in
    let some = refusal-some c.in-Err.refusal in
    let early = input-broken change c.args.tree.now c.args.table.now c.args.scratch.now c.in-Err.ensures some in
    rw c.from.ensures (change-refused change c.args.tree.now c.args.table.now c.args.scratch.now early some)

pub node_states-reached-requires : goal.node_states-reached-requires
node_states-reached-requires c =
    let b = c.args.table.now in
    let passed = input-passed c.args.tree.now b c.args.scratch.now (sym c.in_default.ensures) in
    record { tree_value = passed.0; in_table = passed-table b passed.1 }

pub accepts_state-requires : goal.accepts_state-requires
accepts_state-requires c =
    let b = c.args.table.now in
    let passed = input-passed c.args.tree.now b c.args.scratch.now (sym c.in_default.ensures) in
    passed-table b passed.1

pub returns-in-Err-check_presence : goal.returns-in-Err-check_presence
returns-in-Err-check_presence c =
    let tree = read_tree c.args.tree.now in
    let change = change_of c.args.inserting tree in
    let accepted = c.accepts_state.ensures tree (root-byte c.node_states-reached.ensures) in
    let presence = presence-read c.args.inserting tree c.args.table.now accepted (c.in-Err-check_presence.ensures tree) in
    let early = presence-left change c.args.tree.now c.args.table.now c.args.scratch.now c.in_default.ensures refl presence in
    rw c.from-in-Err-check_presence.ensures (change-refused change c.args.tree.now c.args.table.now c.args.scratch.now early
    (refusal-some _))

pub change-requires : goal.change-requires
change-requires c =
    let tree = read_tree c.args.tree.now in
    let change = change_of c.args.inserting tree in
    let accepted = c.accepts_state.ensures tree (root-byte c.node_states-reached.ensures) in
    let presence = presence-read c.args.inserting tree c.args.table.now accepted (c.in_default-check_presence.ensures tree) in
    let early = presence-left change c.args.tree.now c.args.table.now c.args.scratch.now c.in_default.ensures refl presence in
    let given = change-given change c.args.tree.now c.args.table.now c.args.scratch.now early refl in
    record {
      tree_value = given.0;
      holds_states = c.node_states-reached.ensures;
      table_value = given.1;
      scratch_len = given.2;
    }

pub returns : goal.returns
returns c =
    let tree = read_tree c.args.tree.now in
    let change = change_of c.args.inserting tree in
    let accepted = c.accepts_state.ensures tree (root-byte c.node_states-reached.ensures) in
    let presence = presence-read c.args.inserting tree c.args.table.now accepted (c.in_default-check_presence.ensures tree) in
    let early = presence-left change c.args.tree.now c.args.table.now c.args.scratch.now c.in_default.ensures refl presence in
    c.change.ensures ∙
    change-settled change c.args.tree.now c.args.table.now c.args.scratch.now early refl

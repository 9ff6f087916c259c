-- `answering::serials::rank` meets its contract: refused, the number of the tree, or what ask answers.
use mathlib.Core.Path.{◌∙◌, refl, sym}
use Rattle.table.specs.Layout.{decode}
use Rattle.trees.specs.Listing.{read_tree}
use Rattle.calls.proofs.Conditions.{ask-passed}
use Rattle.running.proofs.Tables.{root-byte}
use Rattle.fields.proofs.Transitions.{passed-table}
use Rattle.format.proofs.Refusals.{refusal-some}
use Rattle.answering.proofs.Numbering.{rank-answered, rank-refused, ranked-other}
use Rattle.answering.proofs.serials.rank.Goals as goal

pub returns-in-Err : goal.returns-in-Err
returns-in-Err c =
    c.from.ensures ∙ rank-refused c.args.tree.now c.args.table.now c.in-Err.ensures (refusal-some _)

pub node_states-reached-requires : goal.node_states-reached-requires
node_states-reached-requires c =
    let b = c.args.table.now in
    let p = ask-passed c.args.tree.now b (sym c.in_default.ensures) in
    record { tree_value = p.0; in_table = passed-table b p.1 }

pub accepts_state-requires : goal.accepts_state-requires
accepts_state-requires c =
    let b = c.args.table.now in
    let p = ask-passed c.args.tree.now b (sym c.in_default.ensures) in
    passed-table b p.1

pub serial-requires : goal.serial-requires
serial-requires c =
    let s = c.args.tree.now in
    let p = ask-passed s c.args.table.now (sym c.in_default.ensures) in
    record {
      tree_value = p.0;
      table_value = p.1;
      holds_states = c.node_states-reached.ensures;
      tree_value_2 = sym (c.accepts_state.ensures (read_tree s) (root-byte c.node_states-reached.ensures)) ∙ c.if-accepts_state.true;
    }

pub returns-then-accepts_state : goal.returns-then-accepts_state
returns-then-accepts_state c =
    rank-answered c.args.tree.now c.args.table.now c.in_default.ensures refl c.serial.ensures

pub asked-requires : goal.asked-requires
asked-requires c =
    let b = c.args.table.now in
    let p = ask-passed c.args.tree.now b (sym c.in_default.ensures) in
    record {
      tree_value = p.0;
      in_table = passed-table b p.1;
      holds_states = c.node_states-reached.ensures;
    }

pub returns : goal.returns
returns c =
    let s = c.args.tree.now in
    let b = c.args.table.now in
    let not = sym (c.accepts_state.ensures (read_tree s) (root-byte c.node_states-reached.ensures)) ∙ c.if-accepts_state.false in
    rank-answered s b c.in_default.ensures refl
    (c.asked.ensures ∙ ranked-other (decode b) (read_tree s) not)

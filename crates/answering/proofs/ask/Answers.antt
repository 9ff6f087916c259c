-- `answering::ask` meets its contract: refused, or what the states of the nodes say.
use mathlib.Core.Path.{◌∙◌, refl, sym}
use Rattle.calls.proofs.Conditions.{ask-passed}
use Rattle.fields.proofs.Transitions.{passed-table}
use Rattle.format.proofs.Refusals.{refusal-some}
use Rattle.answering.proofs.Reading.{ask-answered, ask-refused}
use Rattle.answering.proofs.ask.Goals as goal

pub returns-in-Err : goal.returns-in-Err
returns-in-Err c =
    c.from.ensures ∙ ask-refused c.args.tree.now c.args.table.now c.in-Err.ensures (refusal-some _)

pub node_states-reached-requires : goal.node_states-reached-requires
node_states-reached-requires c =
    let b = c.args.table.now in
    let p = ask-passed c.args.tree.now b (sym c.in_default.ensures) in
    record { tree_value = p.0; in_table = passed-table b p.1 }

pub asked-requires : goal.asked-requires
asked-requires c =
    let b = c.args.table.now in
    let p = ask-passed c.args.tree.now b (sym c.in_default.ensures) in
    record {
      tree_value = p.0;
      in_table = passed-table b p.1;
      holds_states = c.node_states-reached.ensures;
    }

pub returns : goal.returns
returns c = ask-answered c.args.tree.now c.args.table.now c.in_default.ensures refl c.asked.ensures

-- The states of the nodes of a tree that passed 1 to 4, over a table that passed 7.
use mathlib.Core.Path.{subst, sym}
use Rattle.format.specs.Format.{AllBytes}
use Rattle.running.specs.Running.{HoldsStates}
use Rattle.table.specs.Layout.{decode}
use Rattle.trees.specs.Listing.{read_tree}
use Rattle.running.proofs.Ahead.{few-nodes}
use Rattle.running.proofs.Parts.{listing-ahead}
use Rattle.running.proofs.Tables.{rows-blank, table-states, table-steps}
use Rattle.running.proofs.node_states.Goals as goal

pub run_listing-requires : goal.run_listing-requires
run_listing-requires c =
    let n = c.transition_count-count in
    let steps = table-steps c.requires.in_table n.result n.ensures.value in
    let known = c.type_inv.tree in
    let bytes : AllBytes c.args.tree.now = λ i. (known i).fits in
    record {
      steps = steps;
      ahead = listing-ahead c.args.tree.now bytes c.requires.tree_value;
      rows = rows-blank;
    }

pub returns : goal.returns
returns c =
    let n = c.transition_count-count in
    let known = c.type_inv.tree in
    let bytes : AllBytes c.args.tree.now = λ i. (known i).fits in
    let nodes = few-nodes (listing-ahead c.args.tree.now bytes c.requires.tree_value) in
    let b = c.args.table.now in
    subst (HoldsStates (decode b) (read_tree c.args.tree.now)) (sym c.run_listing.ensures)
    (table-states b n.result (read_tree c.args.tree.now) n.ensures.value nodes)

-- `answering::serials::serial` meets its contract: 18 if the total is over, else the number of the tree.
use mathlib.Core.Path.{◌∙◌}
use Rattle.automata.specs.Totals.{total}
use Rattle.table.specs.Layout.{decode}
use Rattle.trees.specs.Listing.{read_tree}
use Rattle.answering.proofs.Numbering.{ranked-number, ranked-over, total-number, total-over}
use Rattle.answering.proofs.serials.serial.Goals as goal

pub returns-in_default : goal.returns-in_default
returns-in_default c =
    let A = decode c.args.table.now in
    c.from.ensures ∙ ranked-over A (read_tree c.args.tree.now) c.requires.tree_value_2
    (total-over (total A) c.total_of.ensures c.in_default.is)

pub rank-requires : goal.rank-requires
rank-requires c =
    let A = decode c.args.table.now in
    let fits = (total-number (total A) c.total_of.ensures c.in-Some.is).0 in
    record {
      tree_value = c.requires.tree_value;
      table_value = c.requires.table_value;
      holds_states = c.requires.holds_states;
      tree_value_2 = c.requires.tree_value_2;
      numbers_of = c.state_numbers-numbers.ensures;
      table_bound = fits;
    }

pub returns : goal.returns
returns c =
    let A = decode c.args.table.now in
    let fits = (total-number (total A) c.total_of.ensures c.in-Some.is).0 in
    ranked-number A (read_tree c.args.tree.now) c.requires.tree_value_2 fits c.rank.ensures

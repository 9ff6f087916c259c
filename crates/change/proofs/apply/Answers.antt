-- `change::apply` meets its contract: refusal 17 by counting, or the new table and its numbers.
use Prim.Native.Nat.{ℕ}
use mathlib.Core.Path.{◌∙◌, ap}
use Rattle.std.specs.Prelude.{is_some}
use Rattle.change.specs.Sizes.{is_small}
use lib.ListN.{length-replicate}
use Rattle.automata.specs.NamedChange.{changed_automaton}
use Rattle.change.specs.Given.{small_transitions}
use Rattle.format.specs.Format.{byte_values, max_transitions}
use Rattle.table.specs.Layout.{decode}
use Rattle.change.proofs.Answering.{worked-17, worked-done}
use Rattle.change.proofs.Handing.{between-few, fitting, given-nodes, table-size}
use Rattle.change.proofs.Inputs.{given-few, given-size}
use Rattle.change.proofs.apply.Goals as goal

pub name-requires : goal.name-requires
name-requires c = c.requires.some_given

pub invariant_of-named : goal.invariant_of-named
invariant_of-named c = let g = c.requires.some_given.1 in record { few = given-few g; nodes = given-nodes g }

pub invariant_of-candidates : goal.invariant_of-candidates
invariant_of-candidates c =
    let g = c.requires.some_given.1 in record { few_states = given-few g; few_nodes = g.lists.few }

pub size_of-requires : goal.size_of-requires
size_of-requires c = c.requires.some_given

pub returns-in_default : goal.returns-in_default
returns-in_default c =
    λ t g. let P = c.requires.pairs_counted t g in
    let fit = c.size_of.ensures c.args.inserting t _ _ (c.name.ensures t g P)
    c.keep.ensures in
    rw c.from.ensures (worked-17 c.args.inserting t c.args.table.now P fit.table (ap is_some c.in_default.is))

pub classify_names-requires : goal.classify_names-requires
classify_names-requires c = record {
  table_len = given-size c.requires.some_given.1;
  n_le_max_states = given-few c.requires.some_given.1;
  m_le_max_nodes = c.requires.some_given.1.lists.few;
  classes_len = length-replicate {A = ℕ} byte_values 0;
}

pub replace-requires : goal.replace-requires
replace-requires c =
    let inserting = c.args.inserting in
    let opens = c.args.opens.now in
    let N = c.name.ensures c.requires.some_given.0 c.requires.some_given.1 (c.requires.pairs_counted c.requires.some_given.0 c.requires.some_given.1) in
    let fit = c.size_of.ensures inserting c.requires.some_given.0 _ _ N c.keep.ensures in
    let F = fitting N c.keep.ensures c.classify_names.ensures fit.table
    (ap is_some c.in-Some.is) in
    record {
      some_fitting = (inserting, c.requires.some_given.0, opens, _, F, between-few N max_transitions F.fits);
      some_fitting_2 = λ e. (inserting, c.requires.some_given.0, opens, _, F, between-few N small_transitions (fit.few (ap is_small c.in-Some.is ∙ e)));
      scratch_len = c.requires.scratch_len;
    }

pub done-requires : goal.done-requires
done-requires c =
    let inserting = c.args.inserting in
    let N = c.name.ensures c.requires.some_given.0 c.requires.some_given.1 (c.requires.pairs_counted c.requires.some_given.0 c.requires.some_given.1) in
    let fit = c.size_of.ensures inserting c.requires.some_given.0 _ _ N c.keep.ensures in
    let F = fitting N c.keep.ensures c.classify_names.ensures
    fit.table (ap is_some c.in-Some.is) in
    table-size (changed_automaton inserting c.requires.some_given.0 (decode c.args.table.now))
    (c.replace.ensures inserting c.requires.some_given.0 c.args.opens.now F)

pub returns : goal.returns
returns c =
    let inserting = c.args.inserting in
    λ t g. let P = c.requires.pairs_counted t g in
    let N = c.name.ensures t g P in
    let fit = c.size_of.ensures inserting t _ _ N c.keep.ensures in
    let h = ap is_some c.in-Some.is in
    let F = fitting N c.keep.ensures c.classify_names.ensures
    fit.table h in
    worked-done inserting t c.args.table.now P fit.table h
    (c.replace.ensures inserting t c.args.opens.now F) c.done.ensures

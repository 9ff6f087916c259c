-- `change::name` meets its contract: the names are found for the set with the tree put in or taken out.
use Prim.Native.Nat.{ℕ}
use native.Mathlib.Omega.{arith}
use lib.ListN.{length-replicate}
use Rattle.automata.specs.NamedChange.{changed_set}
use Rattle.format.specs.Format.{max_nodes}
use Rattle.subtrees.specs.Store.{bottom_up}
use Rattle.table.specs.Layout.{decode}
use Rattle.change.proofs.Inputs.{given-few, given-over, given-size}
use Rattle.change.proofs.Knowing.{given-classes, given-held, given-known, given-rooted}
use Rattle.change.proofs.Knowing.{given-searchable, given-shaped}
use Rattle.change.proofs.Knowing.{set-changed}
use Rattle.change.proofs.name.Goals as goal

pub classify-requires : goal.classify-requires
classify-requires c = record {
  table_len = given-size c.requires.1;
  m_le_max_nodes = c.requires.1.lists.few;
  classes_len = length-replicate {A = ℕ} max_nodes 0;
}

pub slice_bounds-note_uses-count : goal.slice_bounds-note_uses-count
slice_bounds-note_uses-count c = omega (arith, given-size c.requires.1)

pub slice_bounds-note_uses-start : goal.slice_bounds-note_uses-start
slice_bounds-note_uses-start c = omega (arith, given-size c.requires.1)

pub note_uses-requires : goal.note_uses-requires
note_uses-requires c = (given-over c.requires.1).runs

pub slice_bounds-setting-count : goal.slice_bounds-setting-count
slice_bounds-setting-count c = omega (arith, given-size c.requires.1)

pub slice_bounds-setting-start : goal.slice_bounds-setting-start
slice_bounds-setting-start c = omega (arith, given-size c.requires.1)

pub invariant_of-setting : goal.invariant_of-setting
invariant_of-setting c =
    let g = c.requires.1 in
    record {
      searchable = given-searchable g;
      over = given-over g;
      states = given-few g;
      shaped = given-shaped g;
      uses = c.note_uses.ensures;
    }

pub name_all-requires : goal.name_all-requires
name_all-requires c = given-size c.requires.1

pub returns : goal.returns
returns c =
    λ t g P.
    let A = decode c.args.table.now in
    let S = changed_set c.args.inserting A t in
    let classed = c.classify.ensures A t (bottom_up t) S c.args.subtrees.now.labels c.args.subtrees.now.arities c.args.subtrees.now.children (given-held g) (given-classes g) (given-rooted g)
    (set-changed c.args.inserting A t) in
    record {
      given = g;
      opens = P.opens;
      searched = c.name_all.ensures.searched A t (bottom_up t) S (given-known g P classed) P.opens;
    }

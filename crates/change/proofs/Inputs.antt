-- What a change is given: the automaton of a table that passed intake, and the tree of a listing that passed.
use mathlib.Core.Bool.{true}
use mathlib.Core.List.{List}
use mathlib.Core.Path.{◌∙◌, ◌≡◌, ap₂, subst, subst₂, sym}
use Prim.Native.Nat.{◌≤◌, ℕ}
use native.Mathlib.Omega.{arith}
use lib.ListN.{length}
use Rattle.automata.specs.Automaton.{Fits, accepts, states}
use Rattle.automata.specs.Canonical.{Canonical}
use Rattle.automata.specs.Change.{subtrees}
use Rattle.automata.specs.Valid.{LegalTransitions}
use Rattle.change.specs.Given.{Given}
use Rattle.fields.specs.Fields.{InTable, HoldsTransitionsOver}
use Rattle.format.specs.Format.{AllBytes, head_bytes, max_states, table_bytes}
use Rattle.lists.specs.Tests.{Exactly, ◌∈◌}
use Rattle.pairs.specs.Counts.{Setting}
use Rattle.subtrees.specs.Store.{Lists, bottom_up}
use Rattle.subtrees.specs.declared.Subtrees.{Subtrees}
use Rattle.table.specs.Intake.{table_refusal}
use Rattle.table.specs.Layout.{body, decode, layout_fits, state_count, transition_count, transitions_in}
use Rattle.trees.specs.Listing.{listing_conditions, listing_refusal, read_tree}
use Rattle.trees.specs.Tree.{Tree}
use Rattle.automata.proofs.Valid.{ranged-fits, valid-canonical}
use Rattle.fields.proofs.Transitions.{layout-in-table, part_body}
use Rattle.lists.proofs.Conditions.{unbroken-hold}
use Rattle.lists.proofs.Parts.{part}
use Rattle.table.proofs.Decoded.{decoded-states, decoded-transitions}
use Rattle.table.proofs.Intake.{Passes, unrefused-passes}
use Rattle.table.proofs.Limits.{layout-within}
use Rattle.trees.proofs.ListingRefusal.{listing-from-one, passed-legal}

pub passed-size : (b : List ℕ) → table_refusal b ≡ 0 → length b ≡ table_bytes
passed-size b e = (unrefused-passes b e).length

-- a listing that passed, and the subtrees of its tree
pub given : (s b : List ℕ) → listing_refusal s ≡ 0 → table_refusal b ≡ 0 → AllBytes s → AllBytes b → (k n : ℕ) →
    k ≡ transition_count b → n ≡ state_count b → (r : Subtrees) →
    Lists (decode b) (read_tree s) (bottom_up (read_tree s)) r → Given (read_tree s) b k n r
unfolding listing_refusal
given s b e passed listed bytes k n c m r lists = record {
  passed = passed;
  bytes = bytes;
  count = c;
  states = m;
  lists = lists;
  legal = passed-legal s listed (unbroken-hold (listing_conditions s) (listing-from-one s) e);
}

module _ {t : Tree} {b : List ℕ} {k n : ℕ} {r : Subtrees} (g : Given t b k n r) where
  passes : Passes b
  passes = unrefused-passes b g.passed

  in_table : InTable b
  in_table = layout-in-table b passes.length passes.layout

  pub given-size : length b ≡ table_bytes
  given-size = passes.length

  pub given-layout : layout_fits b ≡ true
  given-layout = passes.layout

  pub given-states : states (decode b) ≡ n
  given-states = decoded-states b ∙ sym g.states

  pub given-few : n ≤ max_states
  given-few = omega (arith, in_table.states, g.states)

  pub given-over : HoldsTransitionsOver (part b head_bytes) k n
  given-over =
      subst₂ (λ (s : List ℕ) (j : ℕ). HoldsTransitionsOver s j n) (sym (part_body b)) (sym g.count)
      (subst (λ (i : ℕ). HoldsTransitionsOver (body b) (transition_count b) i) (sym g.states) in_table.over)

  pub given-setting : Setting (decode b) (part b head_bytes) k
  given-setting = record {
    transitions = decoded-transitions b ∙ ap₂ transitions_in (sym (part_body b)) (sym g.count);
    few = omega (arith, given-states, given-few);
    ranged = passes.valid.ranged;
    rises = passes.valid.rises;
    reached = passes.valid.reached;
  }

  pub given-fits : Fits (decode b)
  given-fits = ranged-fits (decode b) passes.valid.ranged

  pub given-canonical : Canonical (accepts (decode b)) (decode b)
  given-canonical = valid-canonical (decode b) passes.valid

  pub given-transitions : LegalTransitions (decode b)
  given-transitions = (layout-within b g.bytes passes.layout).legal

  -- the subtrees by number are exactly those of the tree
  pub given-listed : Exactly (λ u. u ∈ subtrees t) (bottom_up t)
  given-listed = record {
    once = g.lists.stored.distinct;
    members = λ u. (g.lists.subtree u, g.lists.every-subtree u);
  }

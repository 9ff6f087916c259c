-- What a change hands to the crates below: the arrays of the subtrees and their names, and the kept names as chains.
use mathlib.Core.Bool.{Bool, false, true}
use mathlib.Core.List.{List}
use mathlib.Core.Path.{◌∙◌, ◌≡◌, ap, refl, sym}
use Prim.Native.Nat.{◌+◌, ◌-◌, ◌<◌, ◌≤◌, suc, zero, ℕ}
use native.Mathlib.Omega.{arith}
use lib.Dec.{leb, ltb}
use lib.ListN.{get_or, length}
use borrow.Author.Tests.{leb-true, ltb-false, ltb-true}
use Rattle.automata.specs.Automaton.{Automaton, states}
use Rattle.automata.specs.Change.{subtree_number}
use Rattle.automata.specs.NamedChange.{changed_automaton}
use Rattle.change.specs.Between.{between_names}
use Rattle.change.specs.Classes.{Classed, class_of_name}
use Rattle.change.specs.Given.{Fitting, Given, Named, fits_within}
use Rattle.format.specs.Format.{head_bytes, max_arity, max_nodes, max_states, table_bytes}
use Rattle.naming.specs.Choice.{name_in}
use Rattle.quotient.specs.Kept.{KeptAbove}
use Rattle.quotient.specs.Nodes.{Nodes}
use Rattle.quotient.specs.Setting.{Changed, Chosen}
use Rattle.subtrees.specs.Store.{bottom_up, child_at}
use Rattle.subtrees.specs.declared.Subtrees.{Subtrees}
use Rattle.table.specs.Intake.{fits_table}
use Rattle.table.specs.Layout.{decode, encode}
use Rattle.trees.specs.Tree.{Tree, eq_tree, no_tree}
use Rattle.automata.proofs.NamedChange.{searched-length}
use Rattle.change.proofs.Inputs.{given-canonical, given-listed, given-setting, given-states}
use Rattle.lists.proofs.Intervals.{get_d-in}
use Rattle.lists.proofs.Parts.{part}
use Rattle.lists.proofs.Positions.{position_at, position-pos}
use Rattle.lists.proofs.Tests.{and_right}
use Rattle.subtrees.proofs.Numbers.{distinct-index}
use Rattle.table.proofs.Bytes.{encode-length}
use Rattle.trees.proofs.Trees.{eq_tree-same, eq_tree-true}

module _ {t : Tree} {b : List ℕ} {k n : ℕ} {r : Subtrees} (g : Given t b k n r) where
  pub given-nodes : Nodes r.count r.labels r.arities r.children
  given-nodes = record {
    few = g.lists.few;
    label = g.lists.stored.label;
    narrow = g.lists.stored.narrow;
    some = g.lists.stored.child-some;
    known = λ j i h l. go j i h l (ltb i (get_or r.arities j 0)) refl;
  }
    where
      go : (j i : ℕ) → j < r.count → i < max_arity → (c : Bool) → ltb i (get_or r.arities j 0) ≡ c →
          child_at r.children j i ≤ max_nodes
      go j i h l true e =
          omega (
            arith,
            g.lists.stored.child-before j i h (ltb-true i (get_or r.arities j 0) e),
            g.lists.few,
          )
      go j i h l false e =
          omega (arith, g.lists.stored.child-beyond j i h (ltb-false i (get_or r.arities j 0) e) l)

  -- the number of a subtree is its place in the list
  number-place : (j : ℕ) → j < r.count → subtree_number (bottom_up t) (get_or (bottom_up t) j no_tree) ≡ suc j
  number-place j h =
      let u = get_or (bottom_up t) j no_tree in
      go (subtree_number (bottom_up t) u) refl
      (position-pos eq_tree eq_tree-true eq_tree-same (bottom_up t) u
      (get_d-in (bottom_up t) j no_tree (omega (arith, g.lists.stored.size))))
    where
      go : (p : ℕ) → subtree_number (bottom_up t) (get_or (bottom_up t) j no_tree) ≡ p → 1 ≤ p →
          subtree_number (bottom_up t) (get_or (bottom_up t) j no_tree) ≡ suc j
      go zero e s = absurd (omega arith)
      go (suc i) e s =
          let (u, v) = position_at eq_tree eq_tree-true eq_tree-same (bottom_up t) (get_or (bottom_up t) j no_tree) no_tree i e in
          omega (
            arith,
            e,
            distinct-index (bottom_up t) g.lists.stored.distinct i j u (omega (arith, g.lists.stored.size)) v,
          )

pub named-arrays : {inserting : Bool} {t : Tree} {b : List ℕ} {k n : ℕ} {r : Subtrees} {o names : List ℕ} →
    Named inserting t b k n r o names →
    Changed (decode b) t (name_in (bottom_up t) names) (part b head_bytes) k n r.count o r.labels r.arities
    r.children r.states names
named-arrays {inserting} {t} {b} {k} {n} {r} {o} {names} N = record {
  setting = given-setting N.given;
  size = sym (given-states N.given);
  few = N.given.lists.few;
  stored = N.given.lists.stored;
  opens = N.opens;
  named = λ j h.
      let e : subtree_number (bottom_up t) (get_or (bottom_up t) j no_tree) - 1 ≡ j =
      omega (arith, number-place N.given j h) in
      ap (λ (i : ℕ). get_or names i 0) (sym e);
}

module _ {inserting : Bool} {t : Tree} {b : List ℕ} {k n : ℕ} {r : Subtrees} {o names firsts nexts cl : List ℕ}
    (F : Fitting inserting t b k n r o names firsts nexts cl) where
  pub fitting-chosen : Chosen (decode b) t (name_in (bottom_up t) names) (part b head_bytes) k n r.count o r.labels
      r.arities r.children r.states names firsts nexts
  fitting-chosen = record { changed = named-arrays F.named; chained = F.chained }

-- there are no more transitions between names than the changed automaton has
pub between-few : {inserting : Bool} {t : Tree} {b : List ℕ} {k n : ℕ} {r : Subtrees} {o names : List ℕ} →
    Named inserting t b k n r o names → (limit : ℕ) →
    fits_within limit (changed_automaton inserting t (decode b)) ≡ true → length (between_names t b names) ≤ limit
between-few {inserting} {t} {b} {k} {n} {r} {o} {names} N limit e =
    let A = decode b in
    let B = changed_automaton inserting t A in
    let h = leb-true (length B.transitions) limit (and_right (leb (states B) max_states) _ e) in
    omega (
      arith,
      h,
      searched-length inserting A (given-canonical N.given) t (bottom_up t) (given-listed N.given)
          (name_in (bottom_up t) names) N.searched,
    )

-- what was found so far makes a `Fitting`
pub fitting : {inserting : Bool} {t : Tree} {b : List ℕ} {k n : ℕ} {r : Subtrees} {o names firsts nexts sizes cl : List ℕ}
    {f : Bool} → Named inserting t b k n r o names →
    KeptAbove n r.count o r.states names 0 firsts nexts sizes →
    Classed (class_of_name b n r.states (n + r.count) inserting) (n + r.count) cl →
    f ≡ fits_table (changed_automaton inserting t (decode b)) → f ≡ true →
    Fitting inserting t b k n r o names firsts nexts cl
fitting N K C e h = record { named = N; chained = K.chained; classed = C; fits = sym e ∙ h }

pub table-size : {b : List ℕ} (A : Automaton) → b ≡ encode A → length b ≡ table_bytes
table-size A e = ap length e ∙ encode-length A

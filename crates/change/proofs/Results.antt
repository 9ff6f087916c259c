-- The transitions between names, numbered by the rule with the classes of the names, are the changed automaton.
use mathlib.Core.Bool.{Bool}
use mathlib.Core.List.{List, map}
use mathlib.Core.Logic.{◌⊎◌, inl, inr}
use mathlib.Core.Path.{◌∙◌, ◌≡◌}
use Prim.Native.Nat.{◌+◌, ◌≤◌, ℕ}
use native.Mathlib.Omega.{arith}
use lib.ListN.{length}
use Rattle.automata.specs.Automaton.{Automaton, Transition, states}
use Rattle.automata.specs.NamedChange.{OverNames, changed_automaton, changed_set, name_class, names_in_use}
use Rattle.automata.specs.OpenStates.{open_state}
use Rattle.automata.specs.Quotient.{has_own, own_name, quotient_list}
use Rattle.automata.specs.Renumber.{renumbered}
use Rattle.change.specs.Given.{Fitting, Named}
use Rattle.lists.specs.Positions.{up_from}
use Rattle.lists.specs.Tests.{◌∈◌, filter}
use Rattle.naming.specs.Choice.{name_in}
use Rattle.subtrees.specs.Store.{bottom_up}
use Rattle.subtrees.specs.declared.Subtrees.{Subtrees}
use Rattle.table.specs.Layout.{class_at, decode}
use Rattle.trees.specs.Legal.{LegalNode}
use Rattle.trees.specs.Tree.{Tree, eq_tree}
use Rattle.automata.proofs.NamedChange.{names-bounded, names-legal, searched-changed}
use Rattle.automata.proofs.NamesInUse.{used-positive}
use Rattle.change.proofs.Inputs.{given-canonical, given-fits, given-listed, given-states, given-transitions}
use Rattle.change.proofs.NameClasses.{name-class}
use Rattle.change.proofs.Outputs.{renumbered-classes}
use Rattle.lists.proofs.Positions.{position-length, up_from-in}
use Rattle.lists.proofs.Tests.{append-in, filter-in, map-in}
use Rattle.trees.proofs.Trees.{eq_tree-same, eq_tree-true}

module _ {inserting : Bool} {t : Tree} {b : List ℕ} {k n : ℕ} {r : Subtrees} {o names : List ℕ}
    (N : Named inserting t b k n r o names) where
  abbrev A : Automaton
  A = decode b

  abbrev ts : List Tree
  ts = bottom_up t

  abbrev ν : Tree → ℕ
  ν = name_in (bottom_up t) names

  abbrev W : List Transition
  W = quotient_list (decode b) t (bottom_up t) (name_in (bottom_up t) names)

  -- the names in use are numbers of states and of subtrees
  pub used-bounded : (x : ℕ) → x ∈ names_in_use (decode b) t (bottom_up t) (name_in (bottom_up t) names) →
      (1 ≤ x) × (x ≤ n + r.count)
  unfolding names_in_use
  used-bounded x i =
      (used-positive A t ts ν (given-fits N.given) (given-listed N.given) x i, go (append-in opened own x i))
    where
      opened : List ℕ
      opened = filter (open_state A t) (up_from 1 (states A))

      own : List ℕ
      own = map (own_name A ts) (filter (has_own A ts ν) ts)

      go : (x ∈ opened) ⊎ (x ∈ own) → x ≤ n + r.count
      go (inl j) =
          let (l, _) = filter-in (open_state A t) (up_from 1 (states A)) x j in
          omega (arith, up_from-in 1 (states A) x l, given-states N.given)
      go (inr j) =
          let (u, l, e) = map-in (own_name A ts) (filter (has_own A ts ν) ts) x j in
          omega (
            arith,
            e,
            position-length eq_tree eq_tree-true eq_tree-same ts u,
            given-states N.given,
            N.given.lists.stored.size,
          )

  pub named-over : (σ : Transition) → σ ∈ quotient_list (decode b) t (bottom_up t) (name_in (bottom_up t) names) →
      OverNames (decode b) t (bottom_up t) (name_in (bottom_up t) names) σ
  named-over =
      names-bounded inserting A (given-canonical N.given) t ts (given-listed N.given) ν N.searched

  pub named-legal : (σ : Transition) → σ ∈ quotient_list (decode b) t (bottom_up t) (name_in (bottom_up t) names) →
      LegalNode σ.label (length σ.args)
  named-legal =
      names-legal inserting A (given-canonical N.given) t ts (given-listed N.given) ν N.searched
      (given-transitions N.given) N.given.legal

  pub named-changed : renumbered (name_class (decode b) (bottom_up t) (changed_set inserting (decode b) t))
      (quotient_list (decode b) t (bottom_up t) (name_in (bottom_up t) names)) ≡ changed_automaton inserting t (decode b)
  named-changed =
      searched-changed inserting A (given-canonical N.given) t ts (given-listed N.given) ν N.searched

-- the same for classes that agree with those of the names
pub fitting-changed : {inserting : Bool} {t : Tree} {b : List ℕ} {k n : ℕ} {r : Subtrees}
    {o names firsts nexts cl : List ℕ} → Fitting inserting t b k n r o names firsts nexts cl → (f : ℕ → Bool) →
    ((x : ℕ) → 1 ≤ x → x ≤ n + r.count → f x ≡ class_at cl x) →
    renumbered f (quotient_list (decode b) t (bottom_up t) (name_in (bottom_up t) names)) ≡
    changed_automaton inserting t (decode b)
fitting-changed {inserting} {t} {b} {k} {n} {r} {o} {names} {firsts} {nexts} {cl} F f same =
    renumbered-classes f (name_class (decode b) (bottom_up t) (changed_set inserting (decode b) t))
    (quotient_list (decode b) t (bottom_up t) (name_in (bottom_up t) names)) each
    ∙ named-changed F.named
  where
    each : (σ : Transition) → σ ∈ quotient_list (decode b) t (bottom_up t) (name_in (bottom_up t) names) →
        f σ.out ≡ name_class (decode b) (bottom_up t) (changed_set inserting (decode b) t) σ.out
    each σ i =
        let (h, l) = used-bounded F.named σ.out (named-over F.named σ i).out in
        same σ.out h l ∙ F.classed.class σ.out h l ∙ name-class F.named.given inserting σ.out l

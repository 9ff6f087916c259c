-- What a change works on: a table that passed intake, a tree and its subtrees; then the names of the subtrees after
-- the change; then what holds if a table has room for the changed automaton.
use Rattle.std.specs.Prelude.{Bool, ◌&&◌, true, List, ◌≡◌, ◌+◌, ◌≤◌, ℕ, leb, length}
use Rattle.automata.specs.Automaton.{Automaton, states}
use Rattle.automata.specs.Change.{subtree_number}
use Rattle.automata.specs.NamedChange.{changed_automaton, changed_set}
use Rattle.automata.specs.Searched.{Searched}
use Rattle.format.specs.Format.{AllBytes, max_states}
use Rattle.naming.specs.Choice.{name_in}
use Rattle.pairs.specs.Counts.{Open}
use Rattle.quotient.specs.declared.named.KeptNames.{KeptNames}
use Rattle.quotient.specs.declared.named.NamedSubtrees.{NamedSubtrees}
use Rattle.quotient.specs.Kept.{Chained, KeptAbove}
use Rattle.subtrees.specs.Store.{Lists, bottom_up}
use Rattle.subtrees.specs.declared.Subtrees.{Subtrees}
use Rattle.table.specs.Intake.{fits_table, table_refusal}
use Rattle.table.specs.Layout.{decode, state_count, transition_count}
use Rattle.trees.specs.Legal.{Legal}
use Rattle.trees.specs.Tree.{Tree}
use Rattle.change.specs.Between.{between_names}
use Rattle.change.specs.Classes.{Classed, class_of_name}

-- the table b passed intake and has k transitions and n states, and r has the subtrees of the legal tree t
pub record Given (t : Tree) (b : List ℕ) (k n : ℕ) (r : Subtrees) : Type 0 where
  pub passed : table_refusal b ≡ 0
  pub bytes : AllBytes b
  pub count : k ≡ transition_count b
  pub states : n ≡ state_count b
  pub lists : Lists (decode b) t (bottom_up t) r
  pub legal : Legal t

-- the same for some tree
abbrev pub SomeGiven : List ℕ → ℕ → ℕ → Subtrees → Type 0
SomeGiven b k n r = (t : Tree) × Given t b k n r

-- o marks the open states, and `names` has the names of the subtrees in the set with the tree put in or taken out
pub record Named (inserting : Bool) (t : Tree) (b : List ℕ) (k n : ℕ) (r : Subtrees) (o names : List ℕ) : Type 0 where
  pub given : Given t b k n r
  pub opens : Open (decode b) t o
  pub searched : Searched (decode b) t (changed_set inserting (decode b) t) (subtree_number (bottom_up t))
      (name_in (bottom_up t) names)

-- an automaton has no more states than a table holds, and no more transitions than a limit
abbrev pub fits_within : ℕ → Automaton → Bool
fits_within limit A = leb (states A) max_states && leb (length A.transitions) limit

-- the length of small arrays
abbrev pub small_transitions : ℕ
small_transitions = 64

-- `fits` says whether a table has room for A; if `small`, small arrays are long enough for its transitions
pub record Fits (fits small : Bool) (A : Automaton) : Type 0 where
  pub table : fits ≡ fits_table A
  pub few : small ≡ true → fits_within small_transitions A ≡ true

-- a table has room for the changed automaton; the kept names are chained, and cl has their classes
pub record Fitting (inserting : Bool) (t : Tree) (b : List ℕ) (k n : ℕ) (r : Subtrees)
    (o names firsts nexts cl : List ℕ) : Type 0 where
  pub named : Named inserting t b k n r o names
  pub chained : Chained n r.count o r.states names 0 firsts nexts
  pub classed : Classed (class_of_name b n r.states (n + r.count) inserting) (n + r.count) cl
  pub fits : fits_table (changed_automaton inserting t (decode b)) ≡ true

-- the same for some change of some tree, with at most `limit` transitions between names
abbrev pub SomeFitting : List ℕ → ℕ → ℕ → Subtrees → List ℕ → List ℕ → List ℕ → ℕ → Type 0
SomeFitting b k n r names firsts nexts limit =
    (inserting : Bool) × (t : Tree) × (o : List ℕ) × (cl : List ℕ) ×
    Fitting inserting t b k n r o names firsts nexts cl × (length (between_names t b names) ≤ limit)

-- ---- the same, said of what is lent

-- the table passed intake and has k transitions, and the subtrees of t have names
abbrev pub GivenIn : Tree → List ℕ → ℕ → NamedSubtrees → Type 0
GivenIn t b k g = Given t b k g.n g.subtrees.now

abbrev pub SomeGivenIn : List ℕ → ℕ → NamedSubtrees → Type 0
SomeGivenIn b k g = SomeGiven b k g.n g.subtrees.now

abbrev pub NamedIn : Bool → Tree → List ℕ → ℕ → List ℕ → NamedSubtrees → Type 0
NamedIn inserting t b k o g = Named inserting t b k g.n g.subtrees.now o g.names.now

-- `sizes` has how many names of each state are kept
abbrev pub KeptOf : List ℕ → List ℕ → List ℕ → List ℕ → NamedSubtrees → Type 0
KeptOf o firsts nexts sizes g =
    KeptAbove g.n g.subtrees.now.count o g.subtrees.now.states g.names.now 0 firsts nexts sizes

abbrev pub FittingIn : Bool → Tree → List ℕ → ℕ → List ℕ → List ℕ → NamedSubtrees → KeptNames → Type 0
FittingIn inserting t b k o cl g kept =
    Fitting inserting t b k g.n g.subtrees.now o g.names.now kept.firsts kept.nexts cl

abbrev pub SomeFittingIn : List ℕ → ℕ → NamedSubtrees → KeptNames → ℕ → Type 0
SomeFittingIn b k g kept limit =
    SomeFitting b k g.n g.subtrees.now g.names.now kept.firsts kept.nexts limit

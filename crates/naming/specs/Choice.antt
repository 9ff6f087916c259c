-- The name that the search gives subtree j, if N has the names of the subtrees with greater numbers: a free state
-- that j is like, else the own name of a greater subtree that j is like, else its own. Free are 0 and the open
-- states.
use Rattle.std.specs.Prelude.{Bool, false, true, List, Option, ◌⊎◌, ◌≡◌, ◌+◌, ◌-◌, ◌<◌, ◌≤◌, ℕ, get_or}
use Rattle.std.specs.Option.{MatchOption}
use Rattle.automata.specs.Alike.{like_state, like_subtree}
use Rattle.automata.specs.Automaton.{Automaton}
use Rattle.automata.specs.Change.{subtree_number}
use Rattle.automata.specs.Searched.{Free}
use Rattle.packed.specs.Slots.{SlotTakes}
use Rattle.packed.specs.declared.slots.Slot.{Slot}
use Rattle.subtrees.specs.Store.{tree_numbered}
use Rattle.trees.specs.Tree.{Tree}

-- subtree j can stand for y, which is 0 or an open state
pub record StateChosen (A : Automaton) (t : Tree) (S : Tree → Bool) (ts : List Tree) (N : Tree → ℕ)
    (j y : ℕ) : Type 0 where
  pub free : Free A t y
  pub like : like_state A t S N (tree_numbered ts j) y ≡ true

-- subtree j can stand for subtree v, which has its own name
pub record SubtreeChosen (A : Automaton) (t : Tree) (S : Tree → Bool) (ts : List Tree) (n : ℕ) (N : Tree → ℕ)
    (j v : ℕ) : Type 0 where
  pub own : N (tree_numbered ts v) ≡ n + v
  pub like : like_subtree A t S N (tree_numbered ts j) (tree_numbered ts v) ≡ true

-- y is the own name of a greater subtree that j can stand for
pub record SharedChosen (A : Automaton) (t : Tree) (S : Tree → Bool) (ts : List Tree) (n m : ℕ) (N : Tree → ℕ)
    (j y : ℕ) : Type 0 where
  pub model : ℕ
  pub above : j < model
  pub known : model ≤ m
  pub same : y ≡ n + model
  pub chosen : SubtreeChosen A t S ts n N j model

-- subtree j is like no free state below p
pub record NoState (A : Automaton) (t : Tree) (S : Tree → Bool) (ts : List Tree) (N : Tree → ℕ) (j p : ℕ) : Type 0 where
  pub each : (q : ℕ) → q < p → Free A t q → like_state A t S N (tree_numbered ts j) q ≡ false

-- subtree j is like no subtree between j and p that has its own name
pub record NoSubtree (A : Automaton) (t : Tree) (S : Tree → Bool) (ts : List Tree) (n : ℕ) (N : Tree → ℕ) (j p : ℕ) :
    Type 0 where
  pub each : (v : ℕ) → j < v → v < p → N (tree_numbered ts v) ≡ n + v →
      like_subtree A t S N (tree_numbered ts j) (tree_numbered ts v) ≡ false

-- y is j's own name, and j can stand for no free state and no greater subtree
pub record OwnChosen (A : Automaton) (t : Tree) (S : Tree → Bool) (ts : List Tree) (n m : ℕ) (N : Tree → ℕ) (j y : ℕ) :
    Type 0 where
  pub same : y ≡ n + j
  pub no-state : NoState A t S ts N j (n + 1)
  pub no-subtree : NoSubtree A t S ts n N j (m + 1)

abbrev pub Chosen : Automaton → Tree → (Tree → Bool) → List Tree → ℕ → ℕ → (Tree → ℕ) → ℕ → ℕ → Type 0
Chosen A t S ts n m N j y =
    StateChosen A t S ts N j y ⊎ (SharedChosen A t S ts n m N j y ⊎ OwnChosen A t S ts n m N j y)

-- r says whether q is a free state that subtree j is like
pub record StateTried (A : Automaton) (t : Tree) (S : Tree → Bool) (ts : List Tree) (N : Tree → ℕ) (j q : ℕ)
    (r : Bool) : Type 0 where
  pub yes : r ≡ true → StateChosen A t S ts N j q
  pub no : r ≡ false → Free A t q → like_state A t S N (tree_numbered ts j) q ≡ false

-- r says whether v is a subtree with its own name that subtree j is like
pub record SubtreeTried (A : Automaton) (t : Tree) (S : Tree → Bool) (ts : List Tree) (n : ℕ) (N : Tree → ℕ) (j v : ℕ)
    (r : Bool) : Type 0 where
  pub yes : r ≡ true → SubtreeChosen A t S ts n N j v
  pub no : r ≡ false → N (tree_numbered ts v) ≡ n + v →
      like_subtree A t S N (tree_numbered ts j) (tree_numbered ts v) ≡ false

-- every state that subtree j is like is the argument of a transition in the slot z
pub record StatesSlotted (A : Automaton) (t : Tree) (S : Tree → Bool) (ts : List Tree) (s : List ℕ) (count : ℕ)
    (N : Tree → ℕ) (j : ℕ) (z : Slot) : Type 0 where
  pub each : (p : ℕ) → like_state A t S N (tree_numbered ts j) p ≡ true → SlotTakes s count z p

-- o is a free state that subtree j is like, or there is none
abbrev pub StateSought : Automaton → Tree → (Tree → Bool) → List Tree → ℕ → (Tree → ℕ) → ℕ → Option ℕ → Type 0
StateSought A t S ts n N j o = MatchOption o (NoState A t S ts N j (n + 1)) (StateChosen A t S ts N j)

-- o is a subtree above j with its own name that j is like, or there is none
abbrev pub SubtreeSought : Automaton → Tree → (Tree → Bool) → List Tree → ℕ → ℕ → (Tree → ℕ) → ℕ → Option ℕ → Type 0
SubtreeSought A t S ts n m N j o = MatchOption o (NoSubtree A t S ts n N j (m + 1)) (SubtreeChosen A t S ts n N j)

-- the name of a subtree, from an array indexed by subtree numbers
abbrev pub name_in : List Tree → List ℕ → Tree → ℕ
name_in ts names u = get_or names (subtree_number ts u - 1) 0

-- the first m entries are at most n + m
pub record Bounded (n m : ℕ) (names : List ℕ) : Type 0 where
  pub each : (x : ℕ) → 1 ≤ x → x ≤ m → get_or names (x - 1) 0 ≤ n + m

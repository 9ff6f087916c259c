-- Names of subtrees found by search: a subtree takes the name of a state that it can stand for, else that of another
-- subtree, else its own. It is compared only with subtrees of a greater number.
use Rattle.std.specs.Prelude.{Bool, false, true, ◌≢◌, ◌⊎◌, ◌≡◌, ◌+◌, ◌<◌, ◌≤◌, ℕ}
use Rattle.automata.specs.Alike.{like_state, like_subtree}
use Rattle.automata.specs.Automaton.{Automaton, states}
use Rattle.automata.specs.Names.{is_subtree}
use Rattle.automata.specs.OpenStates.{open_state}
use Rattle.automata.specs.SubtreeNames.{name_of}
use Rattle.trees.specs.Tree.{Tree}

-- the subtrees of t are numbered from 1, each with its own number
pub record Numbering (t : Tree) (number : Tree → ℕ) : Type 0 where
  pub positive : (u : Tree) → is_subtree t u ≡ true → 1 ≤ number u
  pub injective : (u v : Tree) → is_subtree t u ≡ true → is_subtree t v ≡ true → number u ≡ number v → u ≡ v

-- the states that a subtree is compared with: 0, and those of trees that are no subtrees
abbrev pub Free : Automaton → Tree → ℕ → Type 0
Free A t q = (q ≡ 0) ⊎ (open_state A t q ≡ true)

-- a subtree has a name of its own: the number after the states
abbrev pub Own : Automaton → (Tree → ℕ) → (Tree → ℕ) → Tree → Type 0
Own A number ν u = ν u ≡ states A + number u

-- the name is a state that the subtree can stand for
pub record StateName (A : Automaton) (t : Tree) (S : Tree → Bool) (ν : Tree → ℕ) (u : Tree) : Type 0 where
  pub free : Free A t (ν u)
  pub like : like_state A t S (name_of A t ν) u (ν u) ≡ true

-- the name is that of another subtree that the subtree can stand for
pub record SharedName (A : Automaton) (t : Tree) (S : Tree → Bool) (number ν : Tree → ℕ) (u : Tree) : Type 0 where
  pub model : Tree
  pub there : is_subtree t model ≡ true
  pub other : model ≢ u
  pub own : Own A number ν model
  pub same : ν u ≡ ν model
  pub like : like_subtree A t S (name_of A t ν) u model ≡ true

-- the name is the subtree's own, because it can stand for nothing that it was compared with
pub record OwnName (A : Automaton) (t : Tree) (S : Tree → Bool) (number ν : Tree → ℕ) (u : Tree) : Type 0 where
  pub own : Own A number ν u
  pub no-state : (q : ℕ) → Free A t q → like_state A t S (name_of A t ν) u q ≡ false
  pub no-subtree : (v : Tree) → is_subtree t v ≡ true → number u < number v → Own A number ν v →
      like_subtree A t S (name_of A t ν) u v ≡ false

-- every subtree has its name in one of these ways
pub record Searched (A : Automaton) (t : Tree) (S : Tree → Bool) (number ν : Tree → ℕ) : Type 0 where
  pub found : (u : Tree) → is_subtree t u ≡ true →
      StateName A t S ν u ⊎ (SharedName A t S number ν u ⊎ OwnName A t S number ν u)

-- The size of a set of trees: a number, or endless (02, order 12). A set is a test of trees.
use Rattle.std.specs.Prelude.{Bool, cond, false, true, List, ◌≡◌, ℕ, ltb}
use Rattle.automata.specs.Acyclic.{acyclic}
use Rattle.automata.specs.Automaton.{Automaton}
use Rattle.automata.specs.Totals.{total}
use Rattle.format.specs.Format.{number_limit}
use Rattle.lists.specs.Tests.{Counts, ◌∈◌}
use Rattle.trees.specs.Tree.{Tree}

-- whatever trees a list has, the set has another
abbrev pub Endless : (Tree → Bool) → Type 0
Endless S = (ts : List Tree) → (t : Tree) × (S t ≡ true) × (t ∈ ts → ⊥)

-- a number of trees, or endlessly many
pub data Size : Type 0 where
  finite : ℕ → Size
  endless : Size

-- the set has this size: so many trees, or endlessly many
abbrev pub Sized : (Tree → Bool) → Size → Type 0
Sized S (finite n) = Counts (λ t. S t ≡ true) n
Sized S endless = Endless S

-- the size of the set of a canonical automaton: endless if a state comes back to itself, else the total
unfoldable pub size_of : Automaton → Size
size_of A = cond (acyclic A) (finite (total A)) endless

-- the size is a number that fits in 64 bits: neither over nor endless
abbrev pub fits_size : Size → Bool
fits_size (finite n) = ltb n number_limit
fits_size endless = false

-- the number is below the size; every number is below endless
abbrev pub below_size : ℕ → Size → Bool
below_size k (finite n) = ltb k n
below_size k endless = true

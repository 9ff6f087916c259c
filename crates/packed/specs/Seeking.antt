-- What a search by two numbers returns.
use Rattle.std.specs.Prelude.{List, None, Option, ◌≡◌, ◌*◌, ◌+◌, ◌<◌, ◌≤◌, ℕ, get_or, length}
use Rattle.std.specs.Option.{ForSome}
use Rattle.automata.specs.Automaton.{Transition}
use Rattle.automata.specs.Order.{key}
use Rattle.format.specs.Format.{AllBytes, byte_pairs, max_arity}
use Rattle.packed.specs.Packed.{packed}
use Rattle.table.specs.Layout.{nth_transition}

-- the transition that is searched for; its output is not known
abbrev pub sought : ℕ → List ℕ → Transition
sought b qs = record { label = b; args = qs; out = 0 }

-- at most eight bytes
pub record Eight (xs : List ℕ) : Type 0 where
  pub short : length xs ≤ max_arity
  pub bytes : AllBytes xs

-- m and a are the numbers of a transition with label b and arguments qs
pub record Packs (m a b : ℕ) (qs : List ℕ) : Type 0 where
  pub meta : m ≡ byte_pairs * length qs + b
  pub args : a ≡ packed qs
  pub label : b < byte_pairs
  pub list : Eight qs

-- r is the transition with this label and these arguments, if there is one
pub record SoughtAt (s : List ℕ) (n b : ℕ) (qs : List ℕ) (r : Option ℕ) : Type 0 where
  pub there : ForSome r (λ i. key (nth_transition s i) ≡ key (sought b qs))
  pub none : r ≡ None → (i : ℕ) → i < n → key (nth_transition s i) ≡ key (sought b qs) → ⊥

-- eight places for arguments; every place from n on is 0
pub record Places (n : ℕ) (qs : List ℕ) : Type 0 where
  pub narrow : n ≤ max_arity
  pub beyond : (k : ℕ) → n ≤ k → get_or qs k 0 ≡ 0

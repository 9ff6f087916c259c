-- What the code counts: subtrees by state, products over arguments and sums over transitions, both up to a cap. And
-- marks that spread from arguments to outputs.
use Rattle.std.specs.Prelude.{Bool, ◌||◌, not, true, List, ◌≡◌, ◌*◌, ◌+◌, ◌<◌, ◌≤◌, min, suc, zero, ℕ, eqb, leb, get_or, length, replicate}
use Rattle.automata.specs.Accessible.{all_accessible}
use Rattle.automata.specs.Automaton.{Automaton, IsState, Transition, states}
use Rattle.automata.specs.Change.{product_transitions}
use Rattle.automata.specs.OpenStates.{at_state, open_state, pairs_of}
use Rattle.automata.specs.Order.{rising}
use Rattle.automata.specs.Totals.{product_over, sum_into}
use Rattle.automata.specs.Valid.{states_in_range}
use Rattle.format.specs.Format.{byte_values, max_nodes, max_product, max_states, transition_bytes}
use Rattle.lists.specs.Tests.{any, bit}
use Rattle.marking.specs.Marks.{marked}
use Rattle.marking.specs.Spread.{Rule}
use Rattle.table.specs.Layout.{out_of, transition_at, transitions_in}
use Rattle.trees.specs.Tree.{Tree}

-- ---- numbers by state

-- entry q of a list
abbrev pub entry : List ℕ → ℕ → ℕ
entry m q = get_or m q 0

-- 0 for each value of a byte
abbrev pub zeros : List ℕ
zeros = replicate byte_values 0

-- m has f q for each value q of a byte
pub record Numbers (f : ℕ → ℕ) (m : List ℕ) : Type 0 where
  pub size : length m ≡ byte_values
  pub each : (q : ℕ) → q < byte_values → entry m q ≡ f q

-- how many of the first j entries are q
abbrev pub entries_with : List ℕ → ℕ → ℕ → ℕ
entries_with s zero q = 0
entries_with s (suc j) q = bit (eqb (entry s j) q) + entries_with s j q

-- for each value q of a byte, r has how many of the first j entries are q
pub record Counted (s : List ℕ) (j : ℕ) (r : List ℕ) : Type 0 where
  pub size : length r ≡ byte_values
  pub each : (q : ℕ) → q < byte_values → entry r q ≡ entries_with s j q

-- the entry of q, and one more if q is marked
abbrev pub weight_of : List ℕ → List ℕ → ℕ → ℕ
weight_of c m q = entry c q + bit (marked m q)

-- ---- sums and products

-- products are cut at one more than condition 16 allows
abbrev pub product_cap : ℕ
product_cap = max_product + 1

-- sums are cut at the greatest byte
abbrev pub sum_cap : ℕ
sum_cap = 255

-- the product over the arguments of the transition that starts at a byte
abbrev pub product_at : List ℕ → List ℕ → ℕ → ℕ
product_at m s at = product_over (entry m) (transition_at s at).args

-- if the number of o is not 0, m' has x more at o than m, up to the cap; everywhere else m' is m
pub record Raised (w : ℕ → ℕ) (o x : ℕ) (m m' : List ℕ) : Type 0 where
  pub size : length m' ≡ length m
  pub here : 0 < w o → entry m' o ≡ min sum_cap (entry m o + x)
  pub elsewhere : (q : ℕ) → (q ≡ o → ⊥) → entry m' q ≡ entry m q

-- the sums over the transitions into each state whose number is not 0, up to the cap
pub record SumsInto (w : ℕ → ℕ) (τs : List Transition) (m : List ℕ) : Type 0 where
  pub size : length m ≡ byte_values
  pub each : (q : ℕ) → q < byte_values → 0 < w q → min sum_cap (entry m q) ≡ min sum_cap (sum_into w q τs)

-- ---- open states

-- state q has no subtree, or its sum is not the number of its subtrees
abbrev pub starts_at : List ℕ → List ℕ → ℕ → Bool
starts_at c s q = eqb (entry c q) 0 || not (eqb (entry s q) (entry c q))

-- marks for the entries that pass a test
pub record MarkedBy (p : ℕ → Bool) (m : List ℕ) : Type 0 where
  pub size : length m ≡ byte_values
  pub each : (q : ℕ) → q < byte_values → marked m q ≡ p q

-- the output passes if some argument does
abbrev pub SomeUp : List ℕ → ℕ → Rule
SomeUp s at p = any p (transition_at s at).args ≡ true → p (out_of s at) ≡ true

abbrev pub nth_some_up : List ℕ → ℕ → Rule
nth_some_up s i = SomeUp s (transition_bytes * i)

-- the bytes s hold the transitions of an automaton that passed conditions 7 to 9
pub record Setting (A : Automaton) (s : List ℕ) (n : ℕ) : Type 0 where
  pub transitions : A.transitions ≡ transitions_in s n
  pub few : states A ≤ max_states
  pub ranged : states_in_range A ≡ true
  pub rises : rising A.transitions ≡ true
  pub reached : all_accessible A ≡ true

-- c has the number of subtrees of each state
pub record Subtrees (A : Automaton) (t : Tree) (c : List ℕ) : Type 0 where
  pub few : (q : ℕ) → q < byte_values → entry c q ≤ max_nodes
  pub each : (q : ℕ) → q < byte_values → entry c q ≡ at_state A t q

-- m marks the open states
pub record Open (A : Automaton) (t : Tree) (m : List ℕ) : Type 0 where
  pub each : (q : ℕ) → IsState A q → marked m q ≡ open_state A t q

-- f says whether the product has at most as many transitions as condition 16 allows; o marks the open states, and w
-- has the number of pairs of each state
pub record PairsCounted (A : Automaton) (t : Tree) (f : Bool) (o w : List ℕ) : Type 0 where
  pub fits : f ≡ leb (product_transitions A t) max_product
  pub opens : Open A t o
  pub weights : (q : ℕ) → IsState A q → entry w q ≡ pairs_of A t q

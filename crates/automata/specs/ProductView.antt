-- The product of an automaton and a tree in numbers: its pairs under the numbers of `product`, or with the pairs
-- numbered in another way (δ gives the pair of a number, acc says which numbers are in use).
use Rattle.std.specs.Prelude.{Bool, true, List, [], ◌∷◌, map, ◌≡◌, ◌≤◌, ℕ}
use Rattle.automata.specs.Automaton.{Automaton, Transition, states}
use Rattle.automata.specs.Change.{subtree_automaton, subtrees}
use Rattle.automata.specs.Order.{rising}
use Rattle.automata.specs.Product.{accessible_pairs, live, out_pair, product_transition}
use Rattle.lists.specs.Positions.{Pair}
use Rattle.lists.specs.Tests.{◌∈◌, every}
use Rattle.trees.specs.Tree.{Tree}

-- the pairs of an automaton and a tree
abbrev pub pairs_with : Automaton → Tree → List Pair
pairs_with A t = accessible_pairs A (subtree_automaton (subtrees t))

-- every pair of the list is in R
abbrev pub AllIn : List Pair → List Pair → Type 0
AllIn R [] = Unit {0}
AllIn R (k ∷ ks) = (k ∈ R) × AllIn R ks

-- a transition whose arguments are the numbers of pairs, and whose output is that of the pair they make
abbrev pub NumberedTransition : Automaton → Tree → Transition → Type 0
NumberedTransition A t τ =
    (a : ℕ) × (ks : List Pair) × AllIn (pairs_with A t) ks ×
    (out_pair A (subtree_automaton (subtrees t)) (a, ks) ∈ pairs_with A t) ×
    (τ ≡ product_transition A (subtree_automaton (subtrees t)) (pairs_with A t) (a, ks))

-- a transition between numbers in use that goes to the pair of its node
abbrev pub PairStep : Automaton → Tree → (ℕ → Pair) → (ℕ → Bool) → Transition → Type 0
PairStep A t δ acc τ =
    (every acc τ.args ≡ true) × (acc τ.out ≡ true) ×
    (δ τ.out ≡ out_pair A (subtree_automaton (subtrees t)) (τ.label, map δ τ.args))

-- the automaton is the product of A and t, its pairs numbered by δ
pub record ProductView (A : Automaton) (t : Tree) (δ : ℕ → Pair) (acc : ℕ → Bool) (P : Automaton) : Type 0 where
  -- the numbers in use are states, and each pair has one of them
  pub sound : (p : ℕ) → acc p ≡ true → (1 ≤ p) × (p ≤ states P) × (δ p ∈ pairs_with A t)
  pub complete : (k : Pair) → k ∈ pairs_with A t → (p : ℕ) × (acc p ≡ true) × (δ p ≡ k)
  pub injective : (p q : ℕ) → acc p ≡ true → acc q ≡ true → δ p ≡ δ q → p ≡ q
  -- the transitions are those of the product, sorted by these numbers
  pub rises : rising P.transitions ≡ true
  pub only : (τ : Transition) → τ ∈ P.transitions → PairStep A t δ acc τ
  pub all : (a : ℕ) (ps : List ℕ) → every acc ps ≡ true →
      live (out_pair A (subtree_automaton (subtrees t)) (a, map δ ps)) ≡ true →
      (τ : Transition) × (τ ∈ P.transitions) × (τ.label ≡ a) × (τ.args ≡ ps)

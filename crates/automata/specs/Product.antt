-- The product of two automata over the pairs of states that some tree runs to.
use Rattle.std.specs.Prelude.{Bool, not, List, [], ◌++◌, ◌∷◌, map, suc, ℕ, eqb}
use Rattle.automata.specs.Automaton.{Automaton, Transition, states, step}
use Rattle.automata.specs.Renumber.{sort}
use Rattle.lists.specs.Closure.{closure}
use Rattle.lists.specs.Positions.{Pair, eq_pair, grid, position, up_from}
use Rattle.lists.specs.Tests.{any, filter}

module _ {A B : Type 0} where
  -- the lists that f gives, one after another
  abbrev pub concat_map : (A → List B) → List A → List B
  concat_map f [] = []
  concat_map f (x ∷ xs) = f x ++ concat_map f xs

-- the first side of a pair
abbrev pub fst : Pair → ℕ
fst k = k.0

-- the second side of a pair
abbrev pub snd : Pair → ℕ
snd k = k.1

-- the lists of pairs of R whose one side is the list qs
abbrev pub lists : List Pair → (Pair → ℕ) → List ℕ → List (List Pair)
lists R side [] = [] ∷ []
lists R side (q ∷ qs) = let r = lists R side qs in
    concat_map (λ k. map (λ ks. k ∷ ks) r) (filter (λ k. eqb q (side k)) R)

-- a label and the pairs of the children
abbrev pub Node : Type 0
Node = ℕ × List Pair

-- the nodes over R whose one side has a transition of the list
unfoldable pub nodes_of : List Pair → (Pair → ℕ) → List Transition → List Node
nodes_of R side τs = concat_map (λ τ. map (λ ks. (τ.label, ks)) (lists R side τ.args)) τs

-- the nodes over R for which one of the two automata has a transition
unfoldable pub nodes : Automaton → Automaton → List Pair → List Node
nodes A B R = nodes_of R fst A.transitions ++ nodes_of R snd B.transitions

-- the pair of a node: a step on each side
abbrev pub out_pair : Automaton → Automaton → Node → Pair
out_pair A B c = (step A c.0 (map fst c.1), step B c.0 (map snd c.1))

-- not both none
abbrev pub live : Pair → Bool
live k = not (eq_pair k (0, 0))

-- all pairs that are not both none
unfoldable pub live_pairs : Automaton → Automaton → List Pair
live_pairs A B = filter live (grid (up_from 0 (suc (states A))) (up_from 0 (suc (states B))))

-- the pair of a node over marked pairs
unfoldable pub pair_rule : Automaton → Automaton → (Pair → Bool) → Pair → Bool
pair_rule A B m k = any (λ c. eq_pair k (out_pair A B c)) (nodes A B (filter m (live_pairs A B)))

-- the pairs that some tree runs to
unfoldable pub accessible_pairs : Automaton → Automaton → List Pair
accessible_pairs A B = closure eq_pair (pair_rule A B) (live_pairs A B)

-- the number of a pair: its position among the accessible pairs; 0 for both none
abbrev pub pair_number : List Pair → Pair → ℕ
pair_number R k = position eq_pair R k

-- the transition of a node
unfoldable pub product_transition : Automaton → Automaton → List Pair → Node → Transition
product_transition A B R c =
    record { label = c.0; args = map (pair_number R) c.1; out = pair_number R (out_pair A B c) }

-- the transitions between pairs of R, each once
unfoldable pub product_transitions_over : Automaton → Automaton → List Pair → List Transition
product_transitions_over A B R =
    sort (map (product_transition A B R) (filter (λ c. live (out_pair A B c)) (nodes A B R)))

-- the product, with the class of each pair
unfoldable pub product : (Pair → Bool) → Automaton → Automaton → Automaton
product cls A B = let R = accessible_pairs A B in
    record { classes = map cls R; transitions = product_transitions_over A B R }

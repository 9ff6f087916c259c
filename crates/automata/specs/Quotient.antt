-- The transitions after a change of a set by a tree t, listed from those before it. ts has the subtrees of t in some
-- order, each once, and ν gives each of them a name: 0, an open state, or the own name of a subtree.
use Rattle.std.specs.Prelude.{Bool, ◌&&◌, cond, not, true, List, [], ◌++◌, ◌∷◌, map, ◌+◌, ℕ, eqb, length}
use Rattle.automata.specs.Automaton.{Automaton, Transition, run, states}
use Rattle.automata.specs.Change.{subtree_number}
use Rattle.automata.specs.OpenStates.{open_state}
use Rattle.automata.specs.Product.{concat_map}
use Rattle.lists.specs.Tests.{filter, same_list}
use Rattle.trees.specs.Tree.{Forest, Tree, cons, nil, node}

-- ---- own names

-- the own name of a subtree: its number in ts, after the states
abbrev pub own_name : Automaton → List Tree → Tree → ℕ
own_name A ts u = states A + subtree_number ts u

-- those of a list of subtrees
abbrev pub own_names : Automaton → List Tree → Forest → List ℕ
own_names A ts nil = []
own_names A ts (cons u f) = own_name A ts u ∷ own_names A ts f

-- the subtree has its own name
abbrev pub has_own : Automaton → List Tree → (Tree → ℕ) → Tree → Bool
has_own A ts ν u = eqb (ν u) (own_name A ts u)

-- all subtrees of a list have their own names
abbrev pub all_own : Automaton → List Tree → (Tree → ℕ) → Forest → Bool
all_own A ts ν nil = true
all_own A ts ν (cons u f) = has_own A ts ν u && all_own A ts ν f

-- the children of a subtree all have their own names
abbrev pub children_own : Automaton → List Tree → (Tree → ℕ) → Tree → Bool
children_own A ts ν (node a f) = all_own A ts ν f

-- the subtrees that run to q and have their own names
unfoldable pub own_at : Automaton → List Tree → (Tree → ℕ) → ℕ → List Tree
own_at A ts ν q = filter (λ u. eqb (run A u) q && has_own A ts ν u) ts

-- ---- choices

-- the names of the trees that run to q: q if it is open, then the own names
unfoldable pub kept_names : Automaton → Tree → List Tree → (Tree → ℕ) → ℕ → List ℕ
kept_names A t ts ν q = filter (open_state A t) (q ∷ []) ++ map (own_name A ts) (own_at A ts ν q)

-- the lists that have one of the names of each state
abbrev pub choices : (ℕ → List ℕ) → List ℕ → List (List ℕ)
choices K [] = [] ∷ []
choices K (q ∷ qs) = let r = choices K qs in concat_map (λ x. map (λ xs. x ∷ xs) r) (K q)

-- the subtree has this label, and its children have these own names
abbrev pub is_node_of : Automaton → List Tree → ℕ → List ℕ → Tree → Bool
is_node_of A ts a xs (node b f) = eqb a b && same_list xs (own_names A ts f)

-- the name of the first subtree of a list that is such a node; o if there is none
abbrev pub node_name : Automaton → List Tree → (Tree → ℕ) → ℕ → List ℕ → ℕ → List Tree → ℕ
node_name A ts ν a xs o [] = o
node_name A ts ν a xs o (u ∷ us) = let r = node_name A ts ν a xs o us in cond (is_node_of A ts a xs u) (ν u) r

-- a transition over chosen names: its output is the name of the subtree that this is the node of, or else its own
abbrev pub quotient_transition : Automaton → List Tree → (Tree → ℕ) → Transition → List ℕ → Transition
quotient_transition A ts ν τ xs =
    record { label = τ.label; args = xs; out = node_name A ts ν τ.label xs τ.out ts }

-- the transition has an output
abbrev pub has_out : Transition → Bool
has_out τ = not (eqb τ.out 0)

-- the transitions over all choices of names for the arguments, those into 0 dropped
unfoldable pub chosen : Automaton → Tree → List Tree → (Tree → ℕ) → Transition → List Transition
chosen A t ts ν τ = filter has_out (map (quotient_transition A ts ν τ) (choices (kept_names A t ts ν) τ.args))

-- ---- subtrees without a state

-- the transition at the top of a subtree, between names
abbrev pub own_transition : Automaton → List Tree → (Tree → ℕ) → Tree → Transition
own_transition A ts ν (node a f) = record { label = a; args = own_names A ts f; out = ν (node a f) }

-- the subtree runs to no state, has a name, and its children have their own
abbrev pub is_new : Automaton → List Tree → (Tree → ℕ) → Tree → Bool
is_new A ts ν u = eqb (run A u) 0 && not (eqb (ν u) 0) && children_own A ts ν u

-- the subtree runs to a state, has no name, and its children have their own
abbrev pub is_gone : Automaton → List Tree → (Tree → ℕ) → Tree → Bool
is_gone A ts ν u = not (eqb (run A u) 0) && eqb (ν u) 0 && children_own A ts ν u

-- ---- all of them

-- the transitions between names
unfoldable pub quotient_list : Automaton → Tree → List Tree → (Tree → ℕ) → List Transition
quotient_list A t ts ν =
    concat_map (chosen A t ts ν) A.transitions ++ map (own_transition A ts ν) (filter (is_new A ts ν) ts)

-- how many subtrees add a transition, and how many take one away
unfoldable pub new_count : Automaton → List Tree → (Tree → ℕ) → ℕ
new_count A ts ν = length (filter (is_new A ts ν) ts)

unfoldable pub gone_count : Automaton → List Tree → (Tree → ℕ) → ℕ
gone_count A ts ν = length (filter (is_gone A ts ν) ts)

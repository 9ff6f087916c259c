-- The state of each node: entry i is what the subtree at node i runs to, and no run looks at a class.
use mathlib.Core.List.{List, [], ◌++◌, ◌∷◌, map, map-append}
use mathlib.Core.Path.{◌∙◌, ◌≡◌, ap, ap₂, refl}
use Prim.Native.Nat.{◌*◌, ◌<◌, ◌≤◌, ℕ}
use native.Mathlib.Omega.{arith}
use lib.ListN.{get_or-eq_default, drop, get_or, length, length-map}
use Rattle.automata.specs.Automaton.{Automaton, run, runs}
use Rattle.automata.specs.NodeStates.{forest_states, node_states}
use Rattle.format.specs.Format.{node_bytes}
use Rattle.lists.proofs.Intervals.{get_d_map}
use Rattle.trees.specs.Listing.{listing, read_tree}
use Rattle.trees.specs.Preorder.{preorder, preorders}
use Rattle.trees.specs.Tree.{Forest, Tree, cons, nil, no_tree, node}
use Rattle.trees.proofs.Preorder.{preorder-at}

-- ---- one state for each node

pub node-states-length : (A : Automaton) (t : Tree) → length (node_states A t) ≡ length (preorder t)
unfolding node_states
node-states-length A t = length-map (preorder t) (run A)

-- entry i is the state that the subtree at node i of the listing runs to
pub node-state : (A : Automaton) (t : Tree) (i : ℕ) → i < length (preorder t) →
    get_or (node_states A t) i 0 ≡ run A (read_tree (drop (node_bytes * i) (listing t)))
unfolding node_states
node-state A t i h = get_d_map (run A) (preorder t) i no_tree 0 h ∙ ap (run A) (preorder-at t i)

-- and 0 if there is no node i
pub node-state-none : (A : Automaton) (t : Tree) (i : ℕ) → length (preorder t) ≤ i → get_or (node_states A t) i 0 ≡ 0
node-state-none A t i h = get_or-eq_default (node_states A t) 0 (omega (arith, node-states-length A t))

-- ---- a node and its children, a tree and those after it

pub states-node : (A : Automaton) (a : ℕ) (f : Forest) →
    node_states A (node a f) ≡ run A (node a f) ∷ forest_states A f
unfolding node_states forest_states
states-node A a f = refl

pub states-nil : (A : Automaton) → forest_states A nil ≡ []
unfolding forest_states
states-nil A = refl

pub states-cons : (A : Automaton) (t : Tree) (f : Forest) →
    forest_states A (cons t f) ≡ node_states A t ++ forest_states A f
unfolding node_states forest_states
states-cons A t f = map-append (run A) (preorder t) (preorders f)

-- ---- transitions decide

module _ (A B : Automaton) (e : A.transitions ≡ B.transitions) where
  mutual
    pub run-transitions : (t : Tree) → run A t ≡ run B t
    run-transitions (node a f) = rw (runs-transitions f, e)

    runs-transitions : (f : Forest) → runs A f ≡ runs B f
    runs-transitions nil = refl
    runs-transitions (cons t f) = ap₂ (λ q qs. q ∷ qs) (run-transitions t) (runs-transitions f)

  map-run : (ts : List Tree) → map (run A) ts ≡ map (run B) ts
  map-run [] = refl
  map-run (t ∷ ts) = ap₂ (λ q qs. q ∷ qs) (run-transitions t) (map-run ts)

  pub states-transitions : (t : Tree) → node_states A t ≡ node_states B t
  unfolding node_states
  states-transitions t = map-run (preorder t)

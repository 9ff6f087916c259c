-- The pairs of states that some context separates (01, refusal 12); 0 takes part.
use Rattle.std.specs.Prelude.{Bool, ◌||◌, not, List, [], ◌++◌, ◌∷◌, map, ◌≢◌, ◌≡◌, suc, ℕ, eqb}
use Rattle.std.specs.Bool.{beq}
use Rattle.automata.specs.Automaton.{Automaton, Transition, accepting, accepts, run, states}
use Rattle.automata.specs.Automaton.{step}
use Rattle.automata.specs.ContextRun.{run_context}
use Rattle.lists.specs.Closure.{closure, elem}
use Rattle.lists.specs.Positions.{Pair, eq_pair, grid, up_from}
use Rattle.lists.specs.Tests.{any, every}
use Rattle.trees.specs.Context.{Context, plug}
use Rattle.trees.specs.Tree.{Tree}

-- a transition's label and arguments with one argument left out
pub record Slot : Type 0 where
  pub label : ℕ
  pub before : List ℕ
  pub after : List ℕ

-- the state of the node, with the argument put in
abbrev pub step_slot : Automaton → Slot → ℕ → ℕ
step_slot A s q = step A s.label (s.before ++ (q ∷ s.after))

-- a slot with one more argument before it
abbrev pub push : ℕ → Slot → Slot
push q s = record { label = s.label; before = q ∷ s.before; after = s.after }

-- the slots of a label over arguments, one for each argument
abbrev pub slots_of : ℕ → List ℕ → List Slot
slots_of a [] = []
slots_of a (q ∷ qs) = record { label = a; before = []; after = qs } ∷ map (push q) (slots_of a qs)

-- the slots of all transitions
abbrev pub slots : List Transition → List Slot
slots [] = []
slots (τ ∷ τs) = slots_of τ.label τ.args ++ slots τs

-- the two differ in class, or some slot takes them to a marked pair
abbrev pub distinguishable_rule : Automaton → (Pair → Bool) → Pair → Bool
distinguishable_rule A m k =
    not (beq (accepting A k.0) (accepting A k.1)) ||
    any (λ s. m (step_slot A s k.0, step_slot A s k.1)) (slots A.transitions)

-- all pairs of states, 0 among them
abbrev pub pairs : Automaton → List Pair
pairs A = grid (up_from 0 (suc (states A))) (up_from 0 (suc (states A)))

-- the least marks that the rule gives
abbrev pub distinguishable_pairs : Automaton → List Pair
distinguishable_pairs A = closure eq_pair (distinguishable_rule A) (pairs A)

-- the pair is marked
abbrev pub distinguishable : Automaton → ℕ → ℕ → Bool
distinguishable A p q = elem eq_pair (p, q) (distinguishable_pairs A)

-- some context accepts with the one and not with the other
abbrev pub Separated : Automaton → Pair → Type 0
Separated A k = (c : Context) × (accepting A (run_context A c k.0) ≢ accepting A (run_context A c k.1))

-- 01: the same class and, in every context, a tree of the one and a tree of the other are both accepted or both not
pub record Alike (A : Automaton) (p q : ℕ) : Type 0 where
  pub class : accepting A p ≡ accepting A q
  pub filled : (c : Context) (t u : Tree) → run A t ≡ p → run A u ≡ q → accepts A (plug c t) ≡ accepts A (plug c u)

-- condition 12: no two different states are equivalent
abbrev pub all_distinguishable : Automaton → Bool
all_distinguishable A =
    every (λ p. every (λ q. eqb p q || distinguishable A p q) (up_from 1 (states A))) (up_from 1 (states A))

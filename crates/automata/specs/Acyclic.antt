-- Going from arguments to outputs (01, refusal 11), and sets of bounded depth.
use Rattle.std.specs.Prelude.{Bool, ◌&&◌, ◌||◌, not, true, ◌≡◌, ◌≤◌, ℕ, eqb}
use Rattle.automata.specs.Automaton.{Automaton, Transition, states}
use Rattle.lists.specs.Closure.{closure, elem}
use Rattle.lists.specs.Positions.{Pair, eq_pair, grid, up_from}
use Rattle.lists.specs.Tests.{◌∈◌, any, every}
use Rattle.trees.specs.Tree.{Tree, depth}

-- p is an argument of a transition whose output is q
unfoldable pub feeds : Automaton → ℕ → ℕ → Bool
feeds A p q = any (λ τ. eqb q τ.out && elem eqb p τ.args) A.transitions

-- p feeds q, or feeds a state on the way to q
unfoldable pub leads_rule : Automaton → (Pair → Bool) → Pair → Bool
leads_rule A m k = feeds A k.0 k.1 || any (λ x. m (k.0, x) && feeds A x k.1) (up_from 1 (states A))

-- going from arguments to outputs, one or more times, comes from p to q
unfoldable pub leads : Automaton → ℕ → ℕ → Bool
leads A p q =
    elem eq_pair (p, q) (closure eq_pair (leads_rule A) (grid (up_from 1 (states A)) (up_from 1 (states A))))

-- condition 11: no state comes back to itself
unfoldable pub acyclic : Automaton → Bool
acyclic A = every (λ q. not (leads A q q)) (up_from 1 (states A))

-- in 01's words: p is an argument of a transition whose output is q
abbrev pub Feeds : Automaton → ℕ → ℕ → Type 0
Feeds A p q = (τ : Transition) × (τ ∈ A.transitions) × (p ∈ τ.args) × (τ.out ≡ q)

-- in 01's words: going from arguments to outputs, one or more times, comes from p to q
pub data Leads (A : Automaton) : ℕ → ℕ → Type 0 where
  once : {p q : ℕ} → Feeds A p q → Leads A p q
  more : {p x q : ℕ} → Leads A p x → Feeds A x q → Leads A p q

-- some depth that no tree of the set exceeds: with finitely many labels, the set is finite
unfoldable pub Bounded : (Tree → Bool) → Type 0
Bounded S = (n : ℕ) × ((t : Tree) → S t ≡ true → depth t ≤ n)

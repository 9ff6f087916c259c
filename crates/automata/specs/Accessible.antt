-- The states that some tree runs to (01, refusal 9).
use Rattle.std.specs.Prelude.{Bool, ◌&&◌, ◌≡◌, ℕ, eqb}
use Rattle.automata.specs.Automaton.{Automaton, Transition, run, states}
use Rattle.lists.specs.Closure.{closure, elem}
use Rattle.lists.specs.Positions.{up_from}
use Rattle.lists.specs.Tests.{◌∈◌, any, every}
use Rattle.trees.specs.Tree.{Tree}

-- q is the output of a transition whose arguments are all marked
abbrev pub accessible_rule : Automaton → (ℕ → Bool) → ℕ → Bool
accessible_rule A m q = any (λ τ. every m τ.args && eqb q τ.out) A.transitions

-- the least marks that the rule gives
abbrev pub accessible : Automaton → ℕ → Bool
accessible A q = elem eqb q (closure eqb (accessible_rule A) (up_from 1 (states A)))

-- condition 9: every state is accessible
abbrev pub all_accessible : Automaton → Bool
all_accessible A = every (accessible A) (up_from 1 (states A))

-- every argument of a transition is a state that some tree runs to
abbrev pub ArgsAccessible : Automaton → Type 0
ArgsAccessible A =
    (τ : Transition) → τ ∈ A.transitions → (q : ℕ) → q ∈ τ.args → (t : Tree) × (run A t ≡ q)

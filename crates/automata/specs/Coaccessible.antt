-- The states that some subtree of an accepted tree runs to (01, refusal 10).
use Rattle.std.specs.Prelude.{Bool, ◌&&◌, ◌||◌, true, ◌≡◌, ℕ, eqb}
use Rattle.automata.specs.Automaton.{Automaton, accepting, accepts, run, states}
use Rattle.automata.specs.ContextRun.{run_context}
use Rattle.lists.specs.Closure.{closure, elem}
use Rattle.lists.specs.Positions.{up_from}
use Rattle.lists.specs.Tests.{any, every}
use Rattle.trees.specs.Context.{Context, plug}
use Rattle.trees.specs.Tree.{Tree}

-- q is accepting, or an argument of a transition whose output is marked
abbrev pub coaccessible_rule : Automaton → (ℕ → Bool) → ℕ → Bool
coaccessible_rule A m q = accepting A q || any (λ τ. m τ.out && elem eqb q τ.args) A.transitions

-- the least marks that the rule gives
abbrev pub coaccessible : Automaton → ℕ → Bool
coaccessible A q = elem eqb q (closure eqb (coaccessible_rule A) (up_from 1 (states A)))

-- some context takes the state to an accepting one
abbrev pub Useful : Automaton → ℕ → Type 0
Useful A q = (c : Context) × (accepting A (run_context A c q) ≡ true)

-- some accepted tree has a subtree that runs to the state (01: an approved tree with a part that leads to it)
abbrev pub Used : Automaton → ℕ → Type 0
Used A q = (c : Context) × (t : Tree) × (run A t ≡ q) × (accepts A (plug c t) ≡ true)

-- condition 10: every state is coaccessible
abbrev pub all_coaccessible : Automaton → Bool
all_coaccessible A = every (coaccessible A) (up_from 1 (states A))

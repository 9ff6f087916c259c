-- The samples of order 4 hold of the definitions, by computation.
use mathlib.Core.Bool.{true}
use mathlib.Core.Logic.{inl, inr}
use mathlib.Core.Path.{◌≡◌, refl}
use native.Mathlib.Omega.{arith}
use Rattle.automata.specs.Example.{fork, leaf}
use Rattle.automata.specs.RankSamples.{OrderHolds, order_samples, over, rank_automaton, ranks_hold}
use Rattle.automata.specs.Ranks.{Before, rank, unrank}
use Rattle.automata.specs.Totals.{total, trees_of, trees_within}

pub ranks-hold : ranks_hold ≡ true
unfolding rank unrank total trees_of trees_within
ranks-hold = refl

by_state : Before rank_automaton (fork 5 2 2) (over (leaf 1))
by_state = inl (omega arith)

by-transition : Before rank_automaton (leaf 3) (fork 5 1 1)
by-transition = inr (refl, inl (omega arith))

by_first : Before rank_automaton (fork 5 1 2) (fork 5 2 1)
by_first = inr (refl, inr (refl, inl (inr (refl, inl (omega arith)))))

by-second : Before rank_automaton (fork 5 1 1) (fork 5 1 2)
by-second = inr (refl, inr (refl, inr (refl, inl (inr (refl, inl (omega arith))))))

by-child : Before rank_automaton (over (leaf 3)) (over (fork 5 1 1))
by-child = inr (refl, inr (refl, inl (inr (refl, inl (omega arith)))))

pub order-holds : OrderHolds order_samples
order-holds = (by_state, (by-transition, (by_first, (by-second, (by-child, tt)))))

-- The walk that finds where a tree stops: one node after another.
use Rattle.std.specs.Prelude.{cond, ◌+◌, ◌-◌, ℕ, eqb}
use Rattle.running.specs.declared.stops.Below.{Below}

-- what is kept of a walk: the last node without a state, and the trees still to come below it
abbrev pub walk : ℕ → ℕ → Below
walk stop left = record { stop = stop; left = left }

-- after a node with the state q and c children
abbrev pub walked : ℕ → ℕ → ℕ → ℕ → ℕ → Below
walked stop left i q c = cond (eqb q 0) (walk i c) (walk stop (left - 1 + c))

-- What a context makes of the state of the subtree in its gap.
use Rattle.std.specs.Prelude.{[], ◌++◌, ◌∷◌, ℕ}
use Rattle.automata.specs.Automaton.{Automaton, runs, step}
use Rattle.trees.specs.Context.{Context, Frame}

-- the state of a frame's node, from the state of the missing child
abbrev pub step_frame : Automaton → Frame → ℕ → ℕ
step_frame A f q = step A f.label (runs A f.before ++ (q ∷ runs A f.after))

-- the state of the whole tree, from the state in the gap
abbrev pub run_context : Automaton → Context → ℕ → ℕ
run_context A [] q = q
run_context A (f ∷ c) q = run_context A c (step_frame A f q)

-- At k the loop's result is that for the arguments from k on.
use Prim.Native.Nat.{◌*◌}
use Rattle.format.specs.Format.{transition_bytes}
use Rattle.table.specs.Layout.{arity_of}
use Rattle.lists.proofs.Loops.{EveryFrom}
use Rattle.uses.specs.Settings.{arrays_in}
use Rattle.uses.specs.Uses.{place_agrees, transition_agrees}
use Rattle.uses.proofs.scanning.transition_agrees.Given as goal

abbrev pub invariant-loop-k : goal.invariant-loop-k
invariant-loop-k l = EveryFrom (transition_agrees (arrays_in l.setting l.frames) l.setting.transitions.now l.setting.count l.p l.q l.i)
    (place_agrees (arrays_in l.setting l.frames) l.setting.transitions.now l.setting.count (transition_bytes * l.i) l.p l.q)
    (arity_of l.setting.transitions.now (transition_bytes * l.i)) l.k

-- What the arrays hold, in the form that each part of the criterion requires.
use mathlib.Core.List.{List}
use Prim.Native.Nat.{ℕ}
use Rattle.automata.specs.Automaton.{Automaton}
use Rattle.trees.specs.Tree.{Tree}
use Rattle.uses.specs.Uses.{Holds}
use Rattle.alike.specs.Known as known

pub holds-subtrees : {A : Automaton} {t : Tree} {ts : List Tree} {s : List ℕ} {c n : ℕ} {l r h q w : List ℕ} {m : ℕ} →
    Holds A t ts s c n l r h q w m → known.Holds A t ts m l r h q
holds-subtrees holds =
    record { stored = holds.stored; subtree = holds.subtree; every-subtree = holds.every-subtree }

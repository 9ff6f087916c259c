-- Subtrees by their numbers, for the crates above: different numbers have different subtrees, and each has its state.
use mathlib.Core.List.{List}
use mathlib.Core.Path.{◌≡◌}
use Prim.Native.Nat.{◌-◌, ◌≤◌, ℕ}
use native.Mathlib.Omega.{arith}
use lib.ListN.{get_or}
use Rattle.automata.specs.Automaton.{Automaton, run}
use Rattle.subtrees.specs.Store.{Lists, tree_numbered}
use Rattle.subtrees.specs.declared.Subtrees.{Subtrees}
use Rattle.trees.specs.Tree.{Tree}
use Rattle.subtrees.proofs.Numbers.{distinct-index}

module _ {A : Automaton} {t : Tree} {ts : List Tree} {s : Subtrees} (h : Lists A t ts s) where
  pub number-inj : (m n : ℕ) → 1 ≤ m → m ≤ s.count → 1 ≤ n → n ≤ s.count →
      tree_numbered ts m ≡ tree_numbered ts n → m ≡ n
  number-inj m n a b a' b' e =
      omega (
        arith,
        distinct-index ts h.stored.distinct (m - 1) (n - 1) (omega (arith, h.stored.size))
            (omega (arith, h.stored.size)) e,
      )

  -- the state that the subtree with a number runs to
  pub number-state : (n : ℕ) → 1 ≤ n → n ≤ s.count → get_or s.states (n - 1) 0 ≡ run A (tree_numbered ts n)
  number-state n a b = h.stored.state (n - 1) (omega arith)

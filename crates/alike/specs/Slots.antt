-- Slots in which every state that a subtree is like must be found.
use Rattle.std.specs.Prelude.{Bool, true, List, ◌≡◌, ◌<◌, ℕ}
use Rattle.automata.specs.Alike.{like_state}
use Rattle.automata.specs.Automaton.{Automaton}
use Rattle.format.specs.Format.{max_arity}
use Rattle.packed.specs.declared.slots.Slot.{Slot}
use Rattle.packed.specs.Packed.{Searchable}
use Rattle.packed.specs.Slots.{SlotTakes}
use Rattle.subtrees.specs.Store.{tree_numbered}
use Rattle.table.specs.Layout.{transitions_in}
use Rattle.trees.specs.Tree.{Tree}
use Rattle.alike.specs.Known.{Holds, NamedAbove}

-- each state that subtree j is like has the output of the slot z there
pub record SlotOf (m j : ℕ) (l r c q names : List ℕ) (z : Slot) : Type 0 where
  pub place : z.place < max_arity
  pub takes : (s : List ℕ) (n : ℕ) (A : Automaton) (t : Tree) (ts : List Tree) (S : Tree → Bool) (N : Tree → ℕ) →
      Searchable s n → A.transitions ≡ transitions_in s n → Holds A t ts m l r c q → NamedAbove A t ts m j names N →
      (p : ℕ) → like_state A t S N (tree_numbered ts j) p ≡ true → SlotTakes s n z p

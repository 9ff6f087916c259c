-- Transitions that differ only in the argument at one place.
use Rattle.std.specs.Prelude.{List, Option, ◌≡◌, ◌*◌, ◌+◌, ◌-◌, ◌<◌, ◌^◌, ◌≤◌, ℕ}
use Rattle.std.specs.Option.{ForSome, unwrap_or}
use Rattle.format.specs.Format.{transition_bytes}
use Rattle.packed.specs.declared.slots.Slot.{Slot}
use Rattle.packed.specs.Packed.{meta_at, packed_at}
use Rattle.table.specs.Layout.{arg_of, out_of}

-- transition i is in the slot: it has the slot's output and, apart from the argument at the slot's place, its numbers
pub record InSlot (s : List ℕ) (z : Slot) (i : ℕ) : Type 0 where
  pub meta : meta_at s (transition_bytes * i) ≡ z.meta
  pub args : packed_at s (transition_bytes * i) ≡
      z.args + arg_of s (transition_bytes * i) z.place * 2 ^ (8 * (7 - z.place))
  pub out : out_of s (transition_bytes * i) ≡ z.out

-- r is the first of the n transitions that is in the slot, from index `from` on, if there is one
pub record NextInSlot (s : List ℕ) (n : ℕ) (z : Slot) (from : ℕ) (r : Option ℕ) : Type 0 where
  pub here : ForSome r (λ i. (from ≤ i) × (i < n) × InSlot s z i)
  pub others : (i : ℕ) → from ≤ i → i < unwrap_or r n → InSlot s z i → ⊥

-- one of the n transitions is in the slot and has the argument q at the slot's place
abbrev pub SlotTakes : List ℕ → ℕ → Slot → ℕ → Type 0
SlotTakes s n z q = (i : ℕ) × (i < n) × InSlot s z i × (arg_of s (transition_bytes * i) z.place ≡ q)

-- A state stands only at the places of a transition's arguments, because the places beyond them are 0.
use mathlib.Core.Bool.{Bool, false, true}
use mathlib.Core.List.{List}
use mathlib.Core.Path.{◌≡◌, refl}
use Prim.Native.Nat.{◌<◌, ◌≤◌, ℕ}
use native.Mathlib.Omega.{arith}
use lib.Dec.{ltb}
use borrow.Author.Tests.{ltb-false, ltb-true}
use Rattle.format.specs.Format.{max_arity}
use Rattle.packed.specs.Packed.{Padded}
use Rattle.table.specs.Layout.{arg_of, arity_of}

pub use-place : (s : List ℕ) (at k p : ℕ) → Padded s at → k < max_arity → 1 ≤ p → arg_of s at k ≡ p → k < arity_of s at
use-place s at k p padded h some e = go (ltb k (arity_of s at)) refl
  where
    go : (b : Bool) → ltb k (arity_of s at) ≡ b → k < arity_of s at
    go true d = ltb-true k (arity_of s at) d
    go false d = absurd (omega (arith, padded.rest k (ltb-false k (arity_of s at) d) h, e))

-- That chains rise is a proposition.
use Rattle.std.proofs.Props.{props}
use mathlib.Core.List.{List}
use mathlib.Core.Logic.{inl, inr}
use mathlib.Core.Path.{◌≡◌, ap}
use Prim.Native.Nat.{◌<◌, ℕ}
use native.Mathlib.Omega.{arith}
use Rattle.format.specs.Format.{byte_values}
use Rattle.quotient.specs.Kept.{Above, Rises}

above-prop : (x y : ℕ) → IsProp (Above x y)
above-prop x y a b = go a b
  where
    go : (a b : Above x y) → a ≡ b
    go (inl d) (inl e) = let p : IsProp (y ≡ 0) = hlevel props in ap inl (p d e)
    go (inl d) (inr e) = absurd (omega arith)
    go (inr d) (inl e) = absurd (omega arith)
    go (inr d) (inr e) = let p : IsProp ((x < y) × (y < byte_values)) = hlevel props in ap inr (p d e)

pub rises-prop : (nexts : List ℕ) → IsProp (Rises nexts)
rises-prop nexts = hlevel (props, above-prop)

-- Marks for the subtrees whose own names are shared, while names are given from the last to the first.
use mathlib.Core.List.{List}
use mathlib.Core.Logic.{◌≢◌}
use mathlib.Core.Path.{◌∙◌, ◌≡◌, sym}
use Prim.Native.Nat.{◌+◌, ◌-◌, ◌<◌, ◌≤◌, ℕ}
use native.Mathlib.Omega.{arith}
use lib.Dec.{eqb}
use lib.ListN.{get_or, length, set}
use lib.Seq.{get_or-set_other, get_or-set_same}
use mathlib.Core.Bool.{Bool, false, true}
use mathlib.Core.Path.{refl}
use borrow.Author.Tests.{eqb-false, eqb-true}
use Rattle.naming.specs.Parents.{Marked}

module _ {n j name : ℕ} {m : List ℕ} where
  -- a name that is a state marks nothing, nor does the subtree's own name
  pub marked-none : name ≤ n → Marked n j name m m
  marked-none h = record { kept = λ i e. e; new = λ i a e d. absurd (omega arith) }

  pub marked-own : name ≡ n + j → Marked n j name m m
  marked-own h = record { kept = λ i e. e; new = λ i a e d. absurd (d (omega arith)) }

  pub marked_other : {k : ℕ} → k + n + 1 ≡ name → k < length m → Marked n j name m (set m k 1)
  marked_other {k} h l = record { kept = kept; new = new }
    where
      at : get_or (set m k 1) k 0 ≢ 0
      at e = let d = get_or-set_same m k 1 0 l in omega arith

      kept : (i : ℕ) → get_or m i 0 ≢ 0 → get_or (set m k 1) i 0 ≢ 0
      kept i e = go (eqb i k) refl
        where
          go : (b : Bool) → eqb i k ≡ b → get_or (set m k 1) i 0 ≢ 0
          go true d = rw (eqb-true i k d) at
          go false d = λ z. e (sym (get_or-set_other m k i 1 0 (eqb-false i k d)) ∙ z)

      new : (i : ℕ) → 1 ≤ i → name ≡ n + i → j ≢ i → get_or (set m k 1) (i - 1) 0 ≢ 0
      new i a e d = let z : i - 1 ≡ k = omega arith in rw z at

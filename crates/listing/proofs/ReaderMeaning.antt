-- What the reader's answer says of a slice: that it lists one tree.
use mathlib.Core.Bool.{Bool}
use mathlib.Core.List.{List, [], ◌∷◌}
use mathlib.Core.Path.{◌∙◌, ◌≡◌, refl}
use Prim.Native.Nat.{◌+◌, suc, zero, ℕ}
use native.Mathlib.Omega.{arith}
use lib.Dec.{eqb, eqb-suc-suc, eqb-zero-suc}
use lib.ListN.{length}
use Rattle.format.specs.Format.{node_bytes}
use Rattle.listing.specs.Measure.{measured, plus}
use Rattle.std.specs.Prelude.{None, Option, Some}
use Rattle.std.specs.Option.{option_eq}
use Rattle.trees.specs.Listing.{lists_trees, one_tree}

-- n bytes were read
abbrev wholly : Option ℕ → ℕ → Bool
wholly r n = option_eq eqb r (Some n)

wholly-plus : (r : Option ℕ) (n : ℕ) → wholly r n ≡ wholly (plus node_bytes r) (suc (suc (suc n)))
unfolding plus
wholly-plus (Some m) n =
    let e : node_bytes + m ≡ suc (suc (suc m)) = omega arith in
    rw (e, eqb-suc-suc, eqb-suc-suc, eqb-suc-suc)
wholly-plus None n = refl

lists-measured : (s : List ℕ) (k : ℕ) → lists_trees s k ≡ wholly (measured s k) (length s)
unfolding measured
lists-measured [] zero = refl
lists-measured [] (suc k) = refl
lists-measured (h ∷ []) zero = refl
lists-measured (h ∷ []) (suc k) = refl
lists-measured (h ∷ l ∷ []) zero = refl
lists-measured (h ∷ l ∷ []) (suc k) = refl
lists-measured (h ∷ l ∷ c ∷ s) zero = rw eqb-zero-suc
lists-measured (h ∷ l ∷ c ∷ s) (suc k) =
    lists-measured s (c + k) ∙ wholly-plus (measured s (c + k)) (length s)

pub one-tree-measured : (s : List ℕ) → one_tree s ≡ option_eq eqb (measured s 1) (Some (length s))
unfolding one_tree
one-tree-measured s = lists-measured s 1

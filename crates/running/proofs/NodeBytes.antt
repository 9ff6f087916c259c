-- Bytes of nodes stored from a place on: one run of stores after another, and a store before them.
use mathlib.Core.Bool.{Bool, false, true}
use mathlib.Core.List.{List, [], ◌++◌, ◌∷◌}
use mathlib.Core.Path.{◌∙◌, ◌≡◌, ap, refl, sym}
use Prim.Native.Nat.{◌+◌, ◌-◌, ◌<◌, ◌≤◌, suc, ℕ}
use native.Mathlib.Omega.{arith}
use lib.Dec.{ltb}
use lib.ListN.{get_or-append, get_or-eq_default, drop, get_or, length, length-replicate, replicate, set}
use lib.Seq.{get_or-append-add, get_or-drop, set_comm, sets, sets-eq}
use borrow.Author.Tests.{ltb-false, ltb-true}
use Rattle.lists.proofs.Intervals.{get_d-zeros}

pub sets-append : (xs ys l : List ℕ) (i : ℕ) → sets l i (xs ++ ys) ≡ sets (sets l i xs) (i + length xs) ys
sets-append [] ys l i = let e : i + 0 ≡ i = omega arith in ap (λ k. sets l k ys) (sym e)
sets-append (x ∷ xs) ys l i =
    let e : suc i + length xs ≡ i + suc (length xs) = omega arith in
    sets-append xs ys (set l i x) (suc i) ∙ ap (λ k. sets (sets (set l i x) (suc i) xs) k ys) e

pub sets-before : (xs l : List ℕ) (i j a : ℕ) → j < i → set (sets l i xs) j a ≡ sets (set l j a) i xs
sets-before [] l i j a h = refl
sets-before (x ∷ xs) l i j a h =
    sets-before xs (set l i x) (suc i) j a (omega arith)
    ∙ ap (λ m. sets m (suc i) xs) (set_comm l i j x a (λ e. omega arith))

-- the zeros after the first bytes
abbrev zeros_after : ℕ → List ℕ → List ℕ
zeros_after n xs = drop (0 + length xs) (replicate n 0)

-- bytes stored from the first place on in zeros are read as they are, with zeros after them
pub sets-zeros : (n : ℕ) (xs : List ℕ) → length xs ≤ n → (i : ℕ) → get_or (sets (replicate n 0) 0 xs) i 0 ≡ get_or xs i 0
sets-zeros n xs h i = ap (λ l. get_or l i 0) whole ∙ go (ltb i (length xs)) refl
  where
    whole : sets (replicate n 0) 0 xs ≡ xs ++ zeros_after n xs
    whole = sets-eq xs (replicate n 0) 0 (omega (arith, length-replicate {A = ℕ} n 0))

    go : (b : Bool) → ltb i (length xs) ≡ b → get_or (xs ++ zeros_after n xs) i 0 ≡ get_or xs i 0
    go true e = get_or-append xs (zeros_after n xs) 0 i (ltb-true i (length xs) e)
    go false e =
        let l : length xs ≤ i = ltb-false i (length xs) e in
        let z : length xs + (i - length xs) ≡ i = omega arith in
        ap (λ k. get_or (xs ++ zeros_after n xs) k 0) (sym z)
        ∙ get_or-append-add xs (zeros_after n xs) (i - length xs) 0
        ∙ get_or-drop (0 + length xs) (replicate n 0) (i - length xs) 0
        ∙ get_d-zeros n (0 + length xs + (i - length xs)) ∙ sym (get_or-eq_default xs 0 l)

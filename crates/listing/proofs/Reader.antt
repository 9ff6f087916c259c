-- Laws of `measured`: how the two readers come by their answers, and that a length read lies within the slice.
use mathlib.Core.List.{List, [], ◌∷◌}
use mathlib.Core.Path.{◌∙◌, ◌≡◌, ap, refl, sym}
use Prim.Native.Nat.{◌+◌, ◌-◌, ◌<◌, ◌≤◌, suc, zero, ℕ}
use native.Mathlib.Nat.{add_assoc, add-zero, suc-add, zero-add}
use native.Mathlib.Omega.{arith}
use lib.ListN.{drop, get_or, length}
use Rattle.format.specs.Format.{label_bytes, node_bytes}
use Rattle.listing.specs.Measure.{measured, plus}
use Rattle.std.specs.Prelude.{None, Option, Some}
use Rattle.lists.proofs.Parts.{part, part-drop, part_length}

pub plus-zero : (r : Option ℕ) → plus 0 r ≡ r
unfolding plus
plus-zero (Some m) = ap Some (zero-add m)
plus-zero None = refl

pub plus-plus : (a b : ℕ) (r : Option ℕ) → plus a (plus b r) ≡ plus (a + b) r
unfolding plus
plus-plus a b (Some m) = ap Some (sym (add_assoc a b m))
plus-plus a b None = refl

measured-none : (s : List ℕ) → measured s 0 ≡ Some 0
unfolding measured
measured-none [] = refl
measured-none (h ∷ []) = refl
measured-none (h ∷ l ∷ []) = refl
measured-none (h ∷ l ∷ c ∷ s) = refl

-- k trees more, after what was read of s
abbrev onward : Option ℕ → List ℕ → ℕ → Option ℕ
onward (Some n) s k = plus n (measured (drop n s) k)
onward None s k = None

past-node : (r : Option ℕ) (h l c : ℕ) (s : List ℕ) (k : ℕ) →
    plus node_bytes (onward r s k) ≡ onward (plus node_bytes r) (h ∷ l ∷ c ∷ s) k
unfolding plus
past-node (Some m) h l c s k =
    let e : node_bytes + m ≡ suc (suc (suc m)) = omega arith in
    plus-plus node_bytes m (measured (drop m s) k) ∙ rw e
past-node None h l c s k = refl

onward-none : (s : List ℕ) (k : ℕ) → measured s (0 + k) ≡ onward (measured s 0) s k
onward-none s k = rw (measured-none s, zero-add) (sym (plus-zero _))

-- the first j + k trees are the first j and k more after them
measured-add : (s : List ℕ) (j k : ℕ) → measured s (j + k) ≡ onward (measured s j) s k
unfolding measured
measured-add [] zero k = onward-none [] k
measured-add [] (suc j) k = rw (suc-add j k)
measured-add (h ∷ []) zero k = onward-none (h ∷ []) k
measured-add (h ∷ []) (suc j) k = rw (suc-add j k)
measured-add (h ∷ l ∷ []) zero k = onward-none (h ∷ l ∷ []) k
measured-add (h ∷ l ∷ []) (suc j) k = rw (suc-add j k)
measured-add (h ∷ l ∷ c ∷ s) zero k = onward-none (h ∷ l ∷ c ∷ s) k
measured-add (h ∷ l ∷ c ∷ s) (suc j) k =
    let e : c + (j + k) ≡ c + j + k = omega arith in
    rw (suc-add j k, e, measured-add s (c + j) k) (past-node (measured s (c + j)) h l c s k)

-- a length that was read is at most that of the slice
AtMost : Option ℕ → ℕ → Type 0
AtMost (Some n) m = n ≤ m
AtMost None m = Unit {0}

more-at-most : (r : Option ℕ) (m : ℕ) → AtMost r m → AtMost (plus node_bytes r) (suc (suc (suc m)))
unfolding plus AtMost
more-at-most (Some n) m h = omega arith
more-at-most None m h = tt

measured-at-most : (s : List ℕ) (k : ℕ) → AtMost (measured s k) (length s)
unfolding measured AtMost
measured-at-most [] zero = omega arith
measured-at-most [] (suc k) = tt
measured-at-most (h ∷ []) zero = omega arith
measured-at-most (h ∷ []) (suc k) = tt
measured-at-most (h ∷ l ∷ []) zero = omega arith
measured-at-most (h ∷ l ∷ []) (suc k) = tt
measured-at-most (h ∷ l ∷ c ∷ s) zero = omega arith
measured-at-most (h ∷ l ∷ c ∷ s) (suc k) = more-at-most (measured s (c + k)) (length s) (measured-at-most s (c + k))

pub measured-within : (s : List ℕ) (k n : ℕ) → measured s k ≡ Some n → n ≤ length s
unfolding AtMost
measured-within s k n e = rw e at (measured-at-most s k)

pub tree-short : (s : List ℕ) → length s < node_bytes → None ≡ measured s 1
unfolding measured
tree-short [] h = refl
tree-short (x ∷ []) h = refl
tree-short (x ∷ y ∷ []) h = refl
tree-short (x ∷ y ∷ c ∷ s) h = absurd (omega arith)

tree-node : (s : List ℕ) → node_bytes ≤ length s →
    measured s 1 ≡ plus node_bytes (measured (drop node_bytes s) (get_or s label_bytes 0))
unfolding measured
tree-node [] h = absurd (omega arith)
tree-node (x ∷ []) h = absurd (omega arith)
tree-node (x ∷ y ∷ []) h = absurd (omega arith)
tree-node (x ∷ y ∷ c ∷ s) h = rw add-zero

tree-read : (s : List ℕ) (k : ℕ) (r : Option ℕ) → node_bytes ≤ length s → k ≡ get_or s label_bytes 0 →
    r ≡ measured (part s node_bytes) k → plus node_bytes r ≡ measured s 1
tree-read s k r h e q = rw (tree-node s h, ← e, ← part-drop s node_bytes, q)

children-read : (s : List ℕ) (k : ℕ) (r : Option ℕ) → (k ≡ 0 → ⊥) → r ≡ measured s 1 →
    onward r s (k - 1) ≡ measured s k
children-read s k r h e =
    let d : 1 + (k - 1) ≡ k = omega arith in
    rw e (sym (measured-add s 1 (k - 1)) ∙ ap (measured s) d)

-- The answers of the two readers, by those of their calls. A tree is a node and, in the part after it, its children,
-- for which r was answered.
module _ (s : List ℕ) (k : ℕ) {r : Option ℕ} (h : node_bytes ≤ length s) (e : k ≡ get_or s label_bytes 0)
    (q : r ≡ measured (part s node_bytes) k) where
  pub tree-bad : r ≡ None → None ≡ measured s 1
  unfolding plus
  tree-bad z = rw z at (tree-read s k r h e q)

  pub tree-good : {n : ℕ} → r ≡ Some n → Some (node_bytes + n) ≡ measured s 1
  unfolding plus
  tree-good z = rw z at (tree-read s k r h e q)

pub children-none : (s : List ℕ) (k : ℕ) → k ≡ 0 → Some 0 ≡ measured s k
children-none s k e = rw e (sym (measured-none s))

-- Children are a tree, for which r was answered, and, in the part after it, the others, for which r' was.
module _ (s : List ℕ) (k : ℕ) {r : Option ℕ} (h : k ≡ 0 → ⊥) (q : r ≡ measured s 1) where
  pub children-bad : r ≡ None → None ≡ measured s k
  children-bad z = rw z at (children-read s k r h q)

  children-more : (n : ℕ) (r' : Option ℕ) → r ≡ Some n → r' ≡ measured (part s n) (k - 1) → plus n r' ≡ measured s k
  children-more n r' z q' = rw (q', part-drop s n) (rw z at (children-read s k r h q))

  pub children-bad-later : {n : ℕ} {r' : Option ℕ} → r ≡ Some n → r' ≡ measured (part s n) (k - 1) → r' ≡ None →
      None ≡ measured s k
  unfolding plus
  children-bad-later {n} {r'} z q' z' = rw z' at (children-more n r' z q')

  pub children-good : {n m : ℕ} {r' : Option ℕ} → r ≡ Some n → r' ≡ measured (part s n) (k - 1) → r' ≡ Some m →
      Some (n + m) ≡ measured s k
  unfolding plus
  children-good {n} {m} {r'} z q' z' = rw z' at (children-more n r' z q')

plus-some : (r : Option ℕ) (n : ℕ) → plus node_bytes r ≡ Some n → node_bytes ≤ n
unfolding plus
plus-some (Some m) n e = let h : node_bytes + m ≡ n = cc in omega arith
plus-some None n e = let z : ◌≡◌ {A = ℕ} 0 1 = cc in absurd (omega arith)

measured-some : (s : List ℕ) (n : ℕ) → measured s 1 ≡ Some n → node_bytes ≤ n
unfolding measured
measured-some [] n e = let z : ◌≡◌ {A = ℕ} 0 1 = cc in absurd (omega arith)
measured-some (x ∷ []) n e = let z : ◌≡◌ {A = ℕ} 0 1 = cc in absurd (omega arith)
measured-some (x ∷ y ∷ []) n e = let z : ◌≡◌ {A = ℕ} 0 1 = cc in absurd (omega arith)
measured-some (x ∷ y ∷ c ∷ s) n e = plus-some (measured s (c + 0)) n e

-- the first tree has a node at least and lies within the slice, and so do the trees of the part after it
module _ (s : List ℕ) {r : Option ℕ} {n : ℕ} (q : r ≡ measured s 1) (z : r ≡ Some n) where
  pub first_some : node_bytes ≤ n
  first_some = measured-some s n (sym q ∙ z)

  pub first-within : n ≤ length s
  first-within = measured-within s 1 n (sym q ∙ z)

pub part-within : (s : List ℕ) (a k : ℕ) {r : Option ℕ} {n : ℕ} → r ≡ measured (part s a) k → r ≡ Some n →
    a ≤ length s → a + n ≤ length s
part-within s a k {r} {n} q z h = omega (arith, measured-within (part s a) k n (sym q ∙ z), part_length s a)

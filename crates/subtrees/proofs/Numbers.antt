-- Trees by their numbers in a list: different numbers are different trees if the list has no duplicates, and
-- a longer list gives the same trees.
use mathlib.Core.List.{List, [], ◌++◌, ◌∷◌}
use mathlib.Core.Path.{◌≡◌, ap, refl}
use Prim.Native.Nat.{◌-◌, ◌<◌, ◌≤◌, suc, zero, ℕ}
use native.Mathlib.Omega.{arith}
use lib.ListN.{get_or-append, drop, get_or, length, take}
use Rattle.lists.specs.Tests.{Distinct}
use Rattle.subtrees.specs.Store.{tree_numbered, trees_numbered}
use Rattle.trees.specs.Listing.{first_trees, later_trees}
use Rattle.trees.specs.Tree.{Tree, cons, count, no_tree}
use Rattle.lists.proofs.Intervals.{get_d-in}
use Rattle.trees.proofs.Trees.{cons-forest, cons-tree}

-- each number is one of 1 to m
abbrev pub Among : ℕ → List ℕ → Type 0
Among m [] = Unit {0}
Among m (n ∷ ns) = ((1 ≤ n) × (n ≤ m)) × Among m ns

pub index-among : (m : ℕ) (ns : List ℕ) → ((k : ℕ) → k < length ns → 1 ≤ get_or ns k 0) →
    ((k : ℕ) → k < length ns → get_or ns k 0 ≤ m) → Among m ns
index-among m [] least most = tt
index-among m (n ∷ ns) least most = (
  (least 0 (omega arith), most 0 (omega arith)),
  index-among m ns (λ k h. least (suc k) (omega arith)) (λ k h. most (suc k) (omega arith)),
)

pub among-more : (m p : ℕ) (ns : List ℕ) → m ≤ p → Among m ns → Among p ns
among-more m p [] h w = tt
among-more m p (n ∷ ns) h w = ((w.0.0, omega (arith, w.0.1)), among-more m p ns h w.1)

pub among-drop : (m c : ℕ) (ns : List ℕ) → Among m ns → Among m (drop c ns)
among-drop m zero ns w = w
among-drop m (suc c) [] w = tt
among-drop m (suc c) (n ∷ ns) w = among-drop m c ns w.1

pub among-index : (m : ℕ) (ns : List ℕ) → Among m ns → (k : ℕ) → k < length ns →
    (1 ≤ get_or ns k 0) × (get_or ns k 0 ≤ m)
among-index m [] w k h = absurd (omega arith)
among-index m (n ∷ ns) w zero h = w.0
among-index m (n ∷ ns) w (suc k) h = among-index m ns w.1 k (omega arith)

-- ---- the trees of a list of numbers

pub numbered-count : (ts : List Tree) (ns : List ℕ) → count (trees_numbered ts ns) ≡ length ns
numbered-count ts [] = refl
numbered-count ts (n ∷ ns) = ap suc (numbered-count ts ns)

pub numbered-first : (ts : List Tree) (c : ℕ) (ns : List ℕ) →
    first_trees c (trees_numbered ts ns) ≡ trees_numbered ts (take c ns)
numbered-first ts zero ns = refl
numbered-first ts (suc c) [] = refl
numbered-first ts (suc c) (n ∷ ns) = ap (cons (tree_numbered ts n)) (numbered-first ts c ns)

pub numbered-later : (ts : List Tree) (c : ℕ) (ns : List ℕ) →
    later_trees c (trees_numbered ts ns) ≡ trees_numbered ts (drop c ns)
numbered-later ts zero ns = refl
numbered-later ts (suc c) [] = refl
numbered-later ts (suc c) (n ∷ ns) = numbered-later ts c ns

-- appending trees changes no number
pub numbered-append : (ts us : List Tree) (ns : List ℕ) → Among (length ts) ns →
    trees_numbered (ts ++ us) ns ≡ trees_numbered ts ns
numbered-append ts us [] w = refl
numbered-append ts us (n ∷ ns) w =
    cc (
      get_or-append ts us no_tree (n - 1) (omega (arith, w.0)),
      numbered-append ts us ns w.1,
    )

-- ---- a list without duplicates

pub distinct-index : (ts : List Tree) → Distinct ts → (i j : ℕ) → i < length ts → j < length ts →
    get_or ts i no_tree ≡ get_or ts j no_tree → i ≡ j
distinct-index [] d i j h l e = absurd (omega arith)
distinct-index (t ∷ ts) d zero zero h l e = refl
distinct-index (t ∷ ts) d zero (suc j) h l e = absurd (d.0 (rw e (get_d-in ts j no_tree (omega arith))))
distinct-index (t ∷ ts) d (suc i) zero h l e = absurd (d.0 (rw (← e) (get_d-in ts i no_tree (omega arith))))
distinct-index (t ∷ ts) d (suc i) (suc j) h l e = ap suc (distinct-index ts d.1 i j (omega arith) (omega arith) e)

pub numbered-inj : (ts : List Tree) → Distinct ts → (ns ms : List ℕ) → Among (length ts) ns →
    Among (length ts) ms → trees_numbered ts ns ≡ trees_numbered ts ms → ns ≡ ms
numbered-inj ts d [] [] v w e = refl
numbered-inj ts d [] (m ∷ ms) v w e = let z : ◌≡◌ {A = ℕ} 0 1 = cc in absurd (omega arith)
numbered-inj ts d (n ∷ ns) [] v w e = let z : ◌≡◌ {A = ℕ} 0 1 = cc in absurd (omega arith)
numbered-inj ts d (n ∷ ns) (m ∷ ms) v w e =
    let same = distinct-index ts d (n - 1) (m - 1) (omega (arith, v.0)) (omega (arith, w.0))
    (cons-tree _ _ _ _ e) in
    let p : n ≡ m = omega (arith, v.0, w.0) in
    let q = numbered-inj ts d ns ms v.1 w.1 (cons-forest _ _ _ _ e) in
    λ i. p i ∷ q i

-- The kept names of a state that code finds are those of the definition.
use mathlib.Core.Bool.{Bool, ◌&&◌, cond, false, true}
use mathlib.Core.List.{List, [], ◌++◌, ◌∷◌, map}
use mathlib.Core.Path.{◌∙◌, ◌≡◌, ap, ap₂, refl, sym}
use Prim.Native.Nat.{◌+◌, ◌-◌, ◌<◌, ◌≤◌, suc, zero, ℕ}
use native.Mathlib.Nat.{add-zero}
use native.Mathlib.Omega.{arith}
use lib.Dec.{eqb}
use borrow.Author.Tests.{eqb-false, eqb-true, le-leb, lt-leb, ne_eqb}
use Rattle.automata.specs.Automaton.{Automaton, IsState, run}
use Rattle.automata.specs.OpenStates.{open_state}
use Rattle.automata.specs.Quotient.{has_own, kept_names, own_at, own_name}
use Rattle.lists.specs.Positions.{up_from}
use Rattle.lists.specs.Tests.{filter}
use Rattle.marking.specs.Marks.{marked}
use Rattle.pairs.specs.Counts.{entry}
use Rattle.subtrees.specs.Store.{bottom_up}
use Rattle.trees.specs.Tree.{Tree}
use Rattle.quotient.specs.Kept.{kept_at, kept_name, kept_of, state_of}
use Rattle.quotient.specs.Setting.{Changed}
use Rattle.quotient.proofs.Numbered.{all-trees, own_of, tree_at}

pub filter-append : {T : Type 0} (p : T → Bool) (xs ys : List T) → filter p (xs ++ ys) ≡ filter p xs ++ filter p ys
filter-append p [] ys = refl
filter-append {T} p (x ∷ xs) ys = go (filter-append p xs ys) (p x) refl
  where
    go : filter p (xs ++ ys) ≡ filter p xs ++ filter p ys → (b : Bool) → p x ≡ b →
        filter p (x ∷ (xs ++ ys)) ≡ filter p (x ∷ xs) ++ filter p ys
    go ih true e = rw e (ap (λ (l : List T). x ∷ l) ih)
    go ih false e = rw e ih

up_from-append : (m k n : ℕ) → up_from k (m + n) ≡ up_from k m ++ up_from (k + m) n
up_from-append zero k n =
    let e : zero + n ≡ n = omega arith in
    ap (up_from k) e ∙ ap (λ (j : ℕ). up_from j n) (sym (add-zero k))
up_from-append (suc m) k n =
    let e : suc m + n ≡ suc (m + n) = omega arith in
    let d : suc k + m ≡ k + suc m = omega arith in
    ap (up_from k) e ∙ ap (λ (l : List ℕ). k ∷ l) (up_from-append m (suc k) n)
    ∙ ap (λ (j : ℕ). k ∷ (up_from (suc k) m ++ up_from j n)) d

-- ---- one number of an interval

filter_none : (p : ℕ → Bool) (n k : ℕ) → ((x : ℕ) → k ≤ x → x < k + n → p x ≡ false) → filter p (up_from k n) ≡ []
filter_none p zero k h = refl
filter_none p (suc n) k h =
    rw (h k (omega arith) (omega arith)) (filter_none p n (suc k) (λ x a b. h x (omega arith) (omega arith)))

-- a filter that only q can pass
filter-one : (p g : ℕ → Bool) (q n k : ℕ) → k ≤ q → q < k + n →
    ((x : ℕ) → k ≤ x → x < k + n → p x ≡ (eqb x q && g x)) → filter p (up_from k n) ≡ filter g (q ∷ [])
filter-one p g q zero k a b h = absurd (omega arith)
filter-one p g q (suc n) k a b h =
    go (λ c. filter-one p g q n (suc k) c (omega arith) (λ x i j. h x (omega arith) (omega arith))) (eqb k q) refl
  where
    go : (suc k ≤ q → filter p (up_from (suc k) n) ≡ filter g (q ∷ [])) → (b : Bool) → eqb k q ≡ b →
        filter p (up_from k (suc n)) ≡ filter g (q ∷ [])
    go ih true e =
        let d = eqb-true k q e in
        let t : p k ≡ g q = h k (omega arith) (omega arith) ∙ ap (λ (y : Bool). y && g k) e ∙ ap g d in
        let none = filter_none p n (suc k) (λ x i j. h x (omega arith) (omega arith)
        ∙ ap (λ (y : Bool). y && g x) (ne_eqb x q (λ z. omega arith))) in
        ap₂ (λ (y : Bool) (l : List ℕ). cond y (k ∷ l) l) t none
        ∙ ap (λ (z : ℕ). cond (g q) (z ∷ []) []) d
    go ih false e =
        let d = eqb-false k q e in
        let t : p k ≡ false = h k (omega arith) (omega arith) ∙ ap (λ (y : Bool). y && g k) e in
        ap (λ (y : Bool). cond y (k ∷ filter p (up_from (suc k) n)) (filter p (up_from (suc k) n))) t
        ∙ ih (omega arith)

-- ---- numbers after n and what stands for them

pub filter-shifted : {T : Type 0} (p : ℕ → Bool) (g : T → Bool) (f : ℕ → T) (own : T → ℕ) (n d j : ℕ) →
    ((i : ℕ) → j ≤ i → i < j + d → p (n + suc i) ≡ g (f i)) →
    ((i : ℕ) → j ≤ i → i < j + d → own (f i) ≡ n + suc i) →
    filter p (up_from (n + suc j) d) ≡ map own (filter g (map f (up_from j d)))
filter-shifted p g f own n zero j h e = refl
filter-shifted p g f own n (suc d) j h e =
    go (ap (λ (k : ℕ). filter p (up_from k d)) (omega-next n j)
    ∙ filter-shifted p g f own n d (suc j) (λ i a b. h i (omega arith) (omega arith))
    (λ i a b. e i (omega arith) (omega arith))) (g (f j)) refl
  where
    omega-next : (n j : ℕ) → suc (n + suc j) ≡ n + suc (suc j)
    omega-next n j = omega arith

    go : filter p (up_from (suc (n + suc j)) d) ≡ map own (filter g (map f (up_from (suc j) d))) → (b : Bool) →
        g (f j) ≡ b → filter p (up_from (n + suc j) (suc d)) ≡ map own (filter g (map f (up_from j (suc d))))
    go ih true t =
        let u : p (n + suc j) ≡ true = h j (omega arith) (omega arith) ∙ t in
        rw (u, t) (ap₂ (λ (x : ℕ) (l : List ℕ). x ∷ l) (sym (e j (omega arith) (omega arith))) ih)
    go ih false t =
        let u : p (n + suc j) ≡ false = h j (omega arith) (omega arith) ∙ t in
        rw (u, t) ih

module _ {A : Automaton} {t : Tree} {ν : Tree → ℕ} {s : List ℕ} {count n m : ℕ} {o l r c q v : List ℕ}
    (H : Changed A t ν s count n m o l r c q v) where
  state-low : (x : ℕ) → x ≤ n → state_of n q x ≡ x
  state-low x h = rw (le-leb x n h)

  pub name-low : (x : ℕ) → x ≤ n → kept_name n o v x ≡ marked o x
  name-low x h = rw (le-leb x n h)

  index-high : (i : ℕ) → n + suc i - n - 1 ≡ i
  index-high i = omega arith

  state-high : (i : ℕ) → state_of n q (n + suc i) ≡ entry q i
  state-high i = rw (lt-leb (n + suc i) n (omega arith)) (ap (entry q) (index-high i))

  pub name-high : (i : ℕ) → kept_name n o v (n + suc i) ≡ eqb (entry v i) (n + suc i)
  name-high i =
      rw (lt-leb (n + suc i) n (omega arith)) (ap (λ (k : ℕ). eqb (entry v k) (n + suc i)) (index-high i))

  pub own-high : (i : ℕ) → i < m → eqb (entry v i) (n + suc i) ≡ has_own A (bottom_up t) ν (tree_at H.stored H.size i)
  own-high i h = ap₂ eqb (H.named i h) (sym (own_of H.stored H.size i h))

  pub interval : up_from 1 (n + m) ≡ up_from 1 n ++ up_from (n + 1) m
  interval =
      let e : 1 + n ≡ n + 1 = omega arith in
      up_from-append n 1 m ∙ ap (λ (k : ℕ). up_from 1 n ++ up_from k m) e

  pub kept-link : (p : ℕ) → IsState A p → kept_of n m o q v p ≡ kept_names A t (bottom_up t) ν p
  unfolding kept_names own_at
  kept-link p i =
      ap (λ (k : ℕ). filter (kept_at n o q v p) (up_from 1 k)) zero-off
      ∙ ap (filter (kept_at n o q v p)) interval
      ∙ filter-append (kept_at n o q v p) (up_from 1 n) (up_from (n + 1) m)
      ∙ ap₂ (λ (x y : List ℕ). x ++ y) low high
    where
      zero-off : n + m - 0 ≡ n + m
      zero-off = omega arith

      low : filter (kept_at n o q v p) (up_from 1 n) ≡ filter (open_state A t) (p ∷ [])
      low =
          filter-one (kept_at n o q v p) (marked o) p n 1 i.0 (omega (arith, i.1, H.size))
          (λ x a b. ap₂ (λ (y : ℕ) (z : Bool). eqb y p && z) (state-low x (omega arith)) (name-low x (omega arith)))
          ∙ ap (λ (b : Bool). cond b (p ∷ []) []) (H.opens.each p i)

      passes : (k : ℕ) → 0 ≤ k → k < 0 + m → kept_at n o q v p (n + suc k) ≡
          (eqb (run A (tree_at H.stored H.size k)) p && has_own A (bottom_up t) ν (tree_at H.stored H.size k))
      passes k a b =
          ap₂ (λ (y : ℕ) (z : Bool). eqb y p && z) (state-high k ∙ H.stored.state k (omega arith))
          (name-high k ∙ own-high k (omega arith))

      high : filter (kept_at n o q v p) (up_from (n + 1) m) ≡
          map (own_name A (bottom_up t))
          (filter (λ u. eqb (run A u) p && has_own A (bottom_up t) ν u) (bottom_up t))
      high =
          filter-shifted (kept_at n o q v p) (λ u. eqb (run A u) p && has_own A (bottom_up t) ν u)
          (tree_at H.stored H.size) (own_name A (bottom_up t)) n m 0 passes
          (λ k a b. own_of H.stored H.size k (omega arith))
          ∙ ap (λ (us : List Tree). map (own_name A (bottom_up t))
          (filter (λ u. eqb (run A u) p && has_own A (bottom_up t) ν u) us)) (sym (all-trees H.stored H.size))

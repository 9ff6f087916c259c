-- Chains that rise, and a name put before one of them.
use mathlib.Core.Bool.{Bool, ◌&&◌, false, true}
use mathlib.Core.List.{List, [], ◌∷◌}
use mathlib.Core.Logic.{◌⊎◌, inl, inr}
use mathlib.Core.Path.{◌∙◌, ◌≡◌, ap, refl, subst, sym}
use Prim.Native.Nat.{◌+◌, ◌-◌, ◌<◌, ◌≤◌, suc, zero, ℕ}
use native.Mathlib.Omega.{arith}
use lib.Dec.{eqb}
use lib.ListN.{length, length-replicate, length-set, replicate, set}
use lib.Seq.{get_or-set_other, get_or-set_same}
use borrow.Author.Tests.{eq-eqb, eqb-false, eqb-true, ne_eqb}
use Rattle.format.specs.Format.{byte_values}
use Rattle.lists.specs.Positions.{up_from}
use Rattle.lists.specs.Tests.{filter}
use Rattle.pairs.specs.Counts.{entry}
use Rattle.lists.proofs.Intervals.{get_d-zeros}
use Rattle.lists.proofs.Positions.{up_from-length}
use Rattle.lists.proofs.Tests.{filter-length}
use Rattle.quotient.specs.Kept.{Above, Chained, KeptAbove, PutFirst, Rises, chain, chain_from, kept_above, kept_at}
use Rattle.quotient.specs.Kept.{kept_name, names_of, state_of}

above-higher : {x y z : ℕ} → x ≤ y → Above y z → Above x z
above-higher h (inl e) = inl e
above-higher h (inr p) = inr (omega arith, p.1)

chain-none : (nexts : List ℕ) (d x : ℕ) → x ≡ 0 → chain nexts d x ≡ []
chain-none nexts zero x e = refl
chain-none nexts (suc d) x e = rw (eq-eqb x 0 e)

chain-some : (nexts : List ℕ) (d x : ℕ) → (x ≡ 0 → ⊥) → chain nexts (suc d) x ≡ x ∷ chain nexts d (entry nexts x)
chain-some nexts d x h = rw (ne_eqb x 0 h)

-- enough steps for the rest of a chain
abbrev Enough : ℕ → ℕ → Type 0
Enough d y = (y ≡ 0) ⊎ ((1 ≤ y) × (byte_values ≤ d + y) × (y < byte_values))

module _ (nexts : List ℕ) (R : Rises nexts) where
  chain_more : (d y : ℕ) → Enough d y → chain nexts d y ≡ chain nexts (suc d) y
  chain_more zero y h = go h
    where
      go : Enough 0 y → chain nexts 0 y ≡ chain nexts 1 y
      go (inl e) = sym (chain-none nexts 1 y e)
      go (inr p) = absurd (omega arith)
  chain_more (suc d) y h = go (chain_more d (entry nexts y)) h (R.above y)
    where
      next : 1 ≤ y → byte_values ≤ suc d + y → Above y (entry nexts y) → Enough d (entry nexts y)
      next a b (inl e) = inl e
      next a b (inr q) = inr (omega arith, omega arith, q.1)

      go : (Enough d (entry nexts y) → chain nexts d (entry nexts y) ≡ chain nexts (suc d) (entry nexts y)) →
          Enough (suc d) y → Above y (entry nexts y) → chain nexts (suc d) y ≡ chain nexts (suc (suc d)) y
      go ih (inl e) a = chain-none nexts (suc d) y e ∙ sym (chain-none nexts (suc (suc d)) y e)
      go ih (inr p) a =
          chain-some nexts d y (λ e. omega arith) ∙ ap (λ (r : List ℕ). y ∷ r) (ih (next p.0 p.1 a))
          ∙ sym (chain-some nexts (suc d) y (λ e. omega arith))

  -- a chain goes on after its first name
  pub chain_next : (x : ℕ) → 1 ≤ x → chain_from nexts x ≡ x ∷ chain_from nexts (entry nexts x)
  unfolding chain_from
  chain_next x h = go (R.above x)
    where
      go : Above x (entry nexts x) → chain nexts byte_values x ≡ x ∷ chain nexts byte_values (entry nexts x)
      go a =
          chain-some nexts 255 x (λ e. omega arith) ∙ ap (λ (r : List ℕ). x ∷ r) (chain_more 255 (entry nexts x) (next a))
        where
          next : Above x (entry nexts x) → Enough 255 (entry nexts x)
          next (inl e) = inl e
          next (inr q) = inr (omega arith, omega arith, q.1)

  pub chain-end : (x : ℕ) → x ≡ 0 → chain_from nexts x ≡ []
  unfolding chain_from
  chain-end x e = chain-none nexts byte_values x e

-- the chains of names above x do not depend on the entry of x
module _ (nexts nexts' : List ℕ) (x : ℕ) (R : Rises nexts)
    (same : (y : ℕ) → (y ≡ x → ⊥) → entry nexts' y ≡ entry nexts y) where
  chain_same : (d y : ℕ) → Above x y → chain nexts' d y ≡ chain nexts d y
  chain_same zero y h = refl
  chain_same (suc d) y h = go (chain_same d (entry nexts y)) h
    where
      go : (Above x (entry nexts y) → chain nexts' d (entry nexts y) ≡ chain nexts d (entry nexts y)) → Above x y →
          chain nexts' (suc d) y ≡ chain nexts (suc d) y
      go ih (inl e) = chain-none nexts' (suc d) y e ∙ sym (chain-none nexts (suc d) y e)
      go ih (inr p) =
          let some : y ≡ 0 → ⊥ = λ e. omega arith in
          chain-some nexts' d y some
          ∙ ap (λ (z : ℕ). y ∷ chain nexts' d z) (same y (λ e. omega arith))
          ∙ ap (λ (r : List ℕ). y ∷ r) (ih (above-higher (omega arith) (R.above y)))
          ∙ sym (chain-some nexts d y some)

  from-same : (y : ℕ) → Above x y → chain_from nexts' y ≡ chain_from nexts y
  unfolding chain_from
  from-same y a = chain_same byte_values y a

-- ---- kept names, one after another

module _ (n m : ℕ) (o s v : List ℕ) where
  kept_step : (q x : ℕ) → 1 ≤ x → x ≤ n + m →
      kept_above n m o s v q (x - 1) ≡ filter (kept_at n o s v q) (x ∷ up_from (suc x) (n + m - x))
  kept_step q x h l =
      let e : suc (x - 1) ≡ x = omega arith in
      let d : n + m - (x - 1) ≡ suc (n + m - x) = omega arith in
      rw (e, d)

  kept_here : (q x : ℕ) → 1 ≤ x → x ≤ n + m → kept_at n o s v q x ≡ true →
      kept_above n m o s v q (x - 1) ≡ x ∷ kept_above n m o s v q x
  kept_here q x h l e = kept_step q x h l ∙ rw e

  kept-not : (q x : ℕ) → 1 ≤ x → x ≤ n + m → kept_at n o s v q x ≡ false →
      kept_above n m o s v q (x - 1) ≡ kept_above n m o s v q x
  kept-not q x h l e = kept_step q x h l ∙ rw e

  -- there are at most as many as numbers above x
  pub kept-few : (q x : ℕ) → length (kept_above n m o s v q x) ≤ n + m - x
  kept-few q x =
      omega (
        arith,
        filter-length (kept_at n o s v q) (up_from (suc x) (n + m - x)),
        up_from-length (suc x) (n + m - x),
      )

  -- none at the start
  pub kept-start : KeptAbove n m o s v (n + m) (replicate byte_values 0) (replicate byte_values 0) (replicate byte_values 0)
  kept-start = record {
    chained = record {
      size = length-replicate {A = ℕ} byte_values 0;
      rises = rises;
      above = λ q h. inl (get_d-zeros byte_values q);
      names = λ q h.
          chain-end (replicate byte_values 0) rises (entry (replicate byte_values 0) q) (get_d-zeros byte_values q)
          ∙ sym (none q);
    };
    size = length-replicate {A = ℕ} byte_values 0;
    count = λ q h. get_d-zeros byte_values q ∙ ap length (sym (none q));
  }
    where
      rises : Rises (replicate byte_values 0)
      rises = record { size = length-replicate {A = ℕ} byte_values 0; above = λ x. inl (get_d-zeros byte_values x) }

      none : (q : ℕ) → kept_above n m o s v q (n + m) ≡ []
      none q = let e : n + m - (n + m) ≡ 0 = omega arith in rw e

  -- one step down if x is not kept
  pub kept-skip : {x : ℕ} {f nx z : List ℕ} → 1 ≤ x → x ≤ n + m → kept_name n o v x ≡ false →
      KeptAbove n m o s v x f nx z → KeptAbove n m o s v (x - 1) f nx z
  kept-skip {x} {f} {nx} {z} h l e K = record {
    chained = record {
      size = K.chained.size;
      rises = K.chained.rises;
      above = λ q i. above-higher (omega arith) (K.chained.above q i);
      names = λ q i. K.chained.names q i ∙ sym (same q);
    };
    size = K.size;
    count = λ q i. K.count q i ∙ ap length (sym (same q));
  }
    where
      same : (q : ℕ) → kept_above n m o s v q (x - 1) ≡ kept_above n m o s v q x
      same q = kept-not q x h l (not-kept (eqb (state_of n s x) q))
        where
          not-kept : (b : Bool) → (b && kept_name n o v x) ≡ false
          not-kept true = e
          not-kept false = refl

  -- one step down if x is put at the head of the chain of its state
  pub kept_put : {x q : ℕ} {f nx z f' nx' z' : List ℕ} → 1 ≤ x → x ≤ n + m → x < byte_values → q < byte_values →
      kept_name n o v x ≡ true → q ≡ state_of n s x → PutFirst q x f nx z f' nx' z' →
      KeptAbove n m o s v x f nx z → KeptAbove n m o s v (x - 1) f' nx' z'
  kept_put {x} {q} {f} {nx} {z} {f'} {nx'} {z'} h l b d e g P K = record {
    chained = record {
      size = P.firsts-size ∙ C.size;
      rises = record {
        size = P.nexts-size ∙ C.rises.size;
        above = λ y. rises y (eqb y x) refl;
      };
      above = λ p i. above p i (eqb p q) refl;
      names = λ p i. names p i (eqb p q) refl;
    };
    size = P.sizes-size ∙ K.size;
    count = λ p i. count p i (eqb p q) refl;
  }
    where
      C : Chained n m o s v x f nx
      C = K.chained

      here : kept_above n m o s v q (x - 1) ≡ x ∷ kept_above n m o s v q x
      here = kept_here q x h l (rw (eq-eqb (state_of n s x) q (sym g)) e)

      there : (p : ℕ) → (p ≡ q → ⊥) → kept_above n m o s v p (x - 1) ≡ kept_above n m o s v p x
      there p i = kept-not p x h l (rw (ne_eqb (state_of n s x) p (λ j. i (sym j ∙ sym g))))

      rises : (y : ℕ) (t : Bool) → eqb y x ≡ t → Above y (entry nx' y)
      rises y true i =
          let j = eqb-true y x i in
          subst (λ (w : ℕ). Above w (entry nx' w)) (sym j) (subst (Above x) (sym P.next) (C.above q d))
      rises y false i = subst (Above y) (sym (P.other-next y (eqb-false y x i))) (C.rises.above y)

      above : (p : ℕ) → p < byte_values → (t : Bool) → eqb p q ≡ t → Above (x - 1) (entry f' p)
      above p i true j =
          let k : entry f' p ≡ x = ap (entry f') (eqb-true p q j) ∙ P.first in
          subst (Above (x - 1)) (sym k) (inr (omega arith, b))
      above p i false j =
          subst (Above (x - 1)) (sym (P.other-first p (eqb-false p q j))) (above-higher (omega arith) (C.above p i))

      before : (y : ℕ) → Above x y → chain_from nx' y ≡ chain_from nx y
      before y = from-same nx nx' x C.rises P.other-next y

      R : Rises nx'
      R = record { size = P.nexts-size ∙ C.rises.size; above = λ y. rises y (eqb y x) refl }

      names : (p : ℕ) → p < byte_values → (t : Bool) → eqb p q ≡ t → names_of f' nx' p ≡ kept_above n m o s v p (x - 1)
      names p i true j =
          ap (λ (y : ℕ). chain_from nx' y) (ap (entry f') (eqb-true p q j) ∙ P.first)
          ∙ chain_next nx' R x h
          ∙ ap (λ (y : ℕ). x ∷ chain_from nx' y) P.next
          ∙ ap (λ (r : List ℕ). x ∷ r) (before (entry f q) (C.above q d) ∙ C.names q d)
          ∙ sym here
          ∙ ap (λ (y : ℕ). kept_above n m o s v y (x - 1)) (sym (eqb-true p q j))
      names p i false j =
          ap (λ (y : ℕ). chain_from nx' y) (P.other-first p (eqb-false p q j))
          ∙ before (entry f p) (C.above p i) ∙ C.names p i ∙ sym (there p (eqb-false p q j))

      count : (p : ℕ) → p < byte_values → (t : Bool) → eqb p q ≡ t →
          entry z' p ≡ length (kept_above n m o s v p (x - 1))
      count p i true j =
          let k = eqb-true p q j in
          let w : entry z' p ≡ entry z q + 1 = ap (entry z') k ∙ P.size in
          let u : length (kept_above n m o s v p (x - 1)) ≡ suc (length (kept_above n m o s v q x)) =
          ap (λ (y : ℕ). length (kept_above n m o s v y (x - 1))) k ∙ ap length here in
          omega (arith, w, u, K.count q d)
      count p i false j =
          P.other-size p (eqb-false p q j) ∙ K.count p i ∙ ap length (sym (there p (eqb-false p q j)))

-- three stores put a name first
pub put-first-is : {q x : ℕ} {f n z : List ℕ} → length f ≡ byte_values → length n ≡ byte_values →
    length z ≡ byte_values → q < byte_values → x < byte_values →
    PutFirst q x f n z (set f q x) (set n x (entry f q)) (set z q (entry z q + 1))
put-first-is {q} {x} {f} {n} {z} a b c d e = record {
  firsts-size = length-set f q x;
  nexts-size = length-set n x (entry f q);
  sizes-size = length-set z q (entry z q + 1);
  first = get_or-set_same f q x 0 (omega arith);
  next = get_or-set_same n x (entry f q) 0 (omega arith);
  size = get_or-set_same z q (entry z q + 1) 0 (omega arith);
  other-first = λ p h. get_or-set_other f q p x 0 h;
  other-next = λ y h. get_or-set_other n x y (entry f q) 0 h;
  other-size = λ p h. get_or-set_other z q p (entry z q + 1) 0 h;
}

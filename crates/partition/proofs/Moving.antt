-- What the loops know that move states to the least of their part and key.
use mathlib.Core.Bool.{Bool, ◌||◌, false, false≢true, true, true≢false}
use mathlib.Core.List.{List}
use mathlib.Core.Logic.{◌≢◌, ◌⊎◌, inl, inr}
use mathlib.Core.Path.{◌∙◌, ◌≡◌, ap, refl, subst, sym}
use Prim.Native.Nat.{◌+◌, ◌-◌, ◌<◌, ◌≤◌, ℕ}
use native.Mathlib.Omega.{arith}
use lib.Dec.{eqb}
use lib.ListN.{length, length-set, set}
use lib.Seq.{get_or-set_other, get_or-set_same}
use borrow.Author.Tests.{eq-eqb, eqb-false, eqb-true}
use Rattle.partition.specs.Parts.{Grouped, part_of}
use Rattle.partition.specs.Splits.{LeastOf, LedBelow, Moved, Regrouped, Settled, is_same}
use Rattle.lists.proofs.Tests.{and_both, and_left, and_right, or_cases, or-none-left, or-none-right}

-- ---- the least state of a part and key

-- no state below p is of q's part and key
pub record NoneBefore (m : List ℕ) (χ : ℕ → ℕ) (q p : ℕ) : Type 0 where
  pub none : (x : ℕ) → x < p → part_of m x ≡ part_of m q → χ x ≡ χ q → ⊥

module _ {m : List ℕ} {χ : ℕ → ℕ} {q : ℕ} where
  pub none-start : LedBelow q m → NoneBefore m χ q (part_of m q)
  none-start led = record {
    none = λ x h e f. let a = led q (omega arith) in let b = led x (omega (arith, a)) in omega (arith, a, b, e, h);
  }

  pub none-next : {p : ℕ} → NoneBefore m χ q p → is_same χ m q p ≡ false → NoneBefore m χ q (p + 1)
  none-next {p} before d = record { none = λ x h e f. go x h e f (eqb x p) refl }
    where
      go : (x : ℕ) → x < p + 1 → part_of m x ≡ part_of m q → χ x ≡ χ q → (t : Bool) → eqb x p ≡ t → ⊥
      go x h e f true g =
          let y = eqb-true x p g in
          true≢false (sym (and_both (eq-eqb _ _ (ap (part_of m) (sym y) ∙ e)) (eq-eqb _ _ (ap χ (sym y) ∙ f))) ∙ d)
      go x h e f false g = let ne = eqb-false x p g in before.none x (omega arith) e f

  pub none_found : {p : ℕ} → NoneBefore m χ q p → p ≤ q → is_same χ m q p ≡ true → LeastOf m χ q p
  none_found {p} before h e = record {
    within = h;
    part = eqb-true _ _ (and_left (eqb (part_of m p) (part_of m q)) (eqb (χ p) (χ q)) e);
    key = eqb-true _ _ (and_right (eqb (part_of m p) (part_of m q)) (eqb (χ p) (χ q)) e);
    least = before.none;
  }

  pub none_end : {p : ℕ} → NoneBefore m χ q p → q ≤ p → LeastOf m χ q q
  none_end before h = record {
    within = omega arith;
    part = refl;
    key = refl;
    least = λ x l e f. before.none x (omega arith) e f;
  }

  -- ---- one state

  pub settled-stays : χ q ≡ χ (part_of m q) → Settled χ q m m false
  settled-stays e = record {
    size = refl;
    others = λ p h. refl;
    moved = record { stays = λ d. refl; leaves = λ d. absurd (d e) };
    some = λ d. absurd (false≢true d);
    still = λ d. refl;
    none = λ d. e;
  }

  pub settled-leaves : {r : ℕ} → q < length m → χ q ≢ χ (part_of m q) → LeastOf m χ q r → Settled χ q m (set m q r) true
  settled-leaves {r} h e l = record {
    size = length-set m q r;
    others = λ p d. get_or-set_other m q p r 0 d;
    moved = record {
      stays = λ d. absurd (e d);
      leaves = λ d. subst (LeastOf m χ q) (sym (get_or-set_same m q r 0 h)) l;
    };
    some = λ d. e;
    still = λ d. absurd (true≢false d);
    none = λ d. absurd (true≢false d);
  }

-- ---- all states, the greatest first

-- the states above k are moved, the others are where they were
pub record RegroupedAbove (n : ℕ) (χ : ℕ → ℕ) (k : ℕ) (m m' : List ℕ) (b : Bool) : Type 0 where
  pub size : length m' ≡ length m
  pub within : k ≤ n
  pub below : (q : ℕ) → q ≤ k → part_of m' q ≡ part_of m q
  pub moved : (q : ℕ) → k < q → q ≤ n → Moved m χ q (part_of m' q)
  pub some : b ≡ true → (q : ℕ) × (1 ≤ q) × (q ≤ n) × (χ q ≢ χ (part_of m q))
  pub still : b ≡ false → m' ≡ m
  pub none : b ≡ false → (q : ℕ) → k < q → q ≤ n → χ q ≡ χ (part_of m q)

pub above-start : (n : ℕ) (χ : ℕ → ℕ) (m : List ℕ) → RegroupedAbove n χ n m m false
above-start n χ m = record {
  size = refl;
  within = omega arith;
  below = λ q h. refl;
  moved = λ q h l. absurd (omega arith);
  some = λ d. absurd (false≢true d);
  still = λ d. refl;
  none = λ d q h l. absurd (omega arith);
}

module _ {n : ℕ} {χ : ℕ → ℕ} {k : ℕ} {m m' : List ℕ} {b : Bool} (g : Grouped n m)
    (u : RegroupedAbove n χ k m m' b) where
  pub above-led : LedBelow k m'
  above-led p h = omega (arith, u.below p h, g.below p (omega (arith, u.within)))

  module _ {m'' : List ℕ} {r : Bool} (some : 0 < k) (t : Settled χ k m' m'' r) where
    here : part_of m' k ≡ part_of m k
    here = u.below k (omega arith)

    -- where k goes is said by the states up to k, which are where they were
    turned : (x : ℕ) → LeastOf m' χ k x → LeastOf m χ k x
    turned x l = record {
      within = l.within;
      part = sym (u.below x l.within) ∙ l.part ∙ here;
      key = l.key;
      least = λ p h e f. l.least p h (u.below p (omega (arith, l.within)) ∙ e ∙ sym here) f;
    }

    moved_here : Moved m χ k (part_of m'' k)
    moved_here = record {
      stays = λ e. t.moved.stays (e ∙ ap χ (sym here)) ∙ here;
      leaves = λ e. turned (part_of m'' k) (t.moved.leaves (λ d. e (d ∙ ap χ here)));
    }

    pub above-next : RegroupedAbove n χ (k - 1) m m'' (b || r)
    above-next = record {
      size = t.size ∙ u.size;
      within = omega (arith, u.within);
      below = λ q h. t.others q (λ e. omega arith) ∙ u.below q (omega arith);
      moved = λ q h l. go q h l (eqb q k) refl;
      some = λ e. one (or_cases b r e);
      still = λ e. t.still (or-none-right b r e) ∙ u.still (or-none-left b r e);
      none = λ e q h l. same q h l e (eqb q k) refl;
    }
      where
        go : (q : ℕ) → k - 1 < q → q ≤ n → (d : Bool) → eqb q k ≡ d → Moved m χ q (part_of m'' q)
        go q h l true e = subst (λ (x : ℕ). Moved m χ x (part_of m'' x)) (sym (eqb-true q k e)) moved_here
        go q h l false e =
            let ne : q ≢ k = eqb-false q k e in
            subst (Moved m χ q) (sym (t.others q ne)) (u.moved q (omega (arith, ne, h, some)) l)

        one : (b ≡ true) ⊎ (r ≡ true) → (q : ℕ) × (1 ≤ q) × (q ≤ n) × (χ q ≢ χ (part_of m q))
        one (inl e) = u.some e
        one (inr e) = (k, omega arith, u.within, λ d. t.some e (d ∙ ap χ (sym here)))

        same : (q : ℕ) → k - 1 < q → q ≤ n → (b || r) ≡ false → (d : Bool) → eqb q k ≡ d → χ q ≡ χ (part_of m q)
        same q h l f true e =
            subst (λ (x : ℕ). χ x ≡ χ (part_of m x)) (sym (eqb-true q k e))
            (t.none (or-none-right b r f) ∙ ap χ here)
        same q h l f false e =
            let ne : q ≢ k = eqb-false q k e in u.none (or-none-left b r f) q (omega (arith, ne, h, some)) l

  pub above-end : k ≡ 0 → Regrouped n χ m m' b
  above-end z = record {
    size = u.size;
    moved = λ q h. go q h (eqb q 0) refl;
    some = u.some;
    still = u.still;
    none = λ e q a h. u.none e q (omega arith) h;
  }
    where
      first : Moved m χ 0 (part_of m' 0)
      first = record {
        stays = λ e. u.below 0 (omega arith);
        leaves = λ e. absurd (e (ap χ (sym g.none)));
      }

      go : (q : ℕ) → q ≤ n → (d : Bool) → eqb q 0 ≡ d → Moved m χ q (part_of m' q)
      go q h true e = subst (λ (x : ℕ). Moved m χ x (part_of m' x)) (sym (eqb-true q 0 e)) first
      go q h false e = let ne : q ≢ 0 = eqb-false q 0 e in u.moved q (omega (arith, ne, z)) h

-- How two numbers compare by their digits.
use mathlib.Core.Bool.{Bool, false, true}
use mathlib.Core.List.{List, map}
use mathlib.Core.Path.{◌∙◌, ◌≡◌, ap, refl, sym}
use Prim.Native.Nat.{◌*◌, ◌+◌, ◌<◌, ◌≤◌, ◌^◌, suc, zero, ℕ}
use native.Mathlib.Omega.{arith}
use lib.Dec.{eqb, ltb}
use lib.Pow.{pow-add}
use borrow.Author.Tests.{eqb-false, eqb-true, le-ltb, lt-ltb, ltb-false, ltb-true}
use Rattle.automata.specs.Order.{lex}
use Rattle.format.specs.Format.{byte_values}
use Rattle.lists.specs.Positions.{up_from}
use Rattle.packed.specs.Packed.{digits}
use Rattle.fields.proofs.Searching.{lex-agrees, lex-differs}

-- one digit more
pub digit-more : (k : ℕ) → 2 ^ (8 * suc k) ≡ 2 ^ (8 * k) * byte_values
digit-more k = let e : 8 * suc k ≡ 8 * k + 8 = omega arith in ap (λ n. 2 ^ n) e ∙ pow-add 2 (8 * k) 8

pub digits_same : (f g : ℕ → ℕ) (k n v : ℕ) → ((j : ℕ) → k ≤ j → j < k + n → f j ≡ g j) →
    digits f k n v ≡ digits g k n v
digits_same f g k zero v h = refl
digits_same f g k (suc n) v h =
    digits_same f g (suc k) n (byte_values * v + f k) (λ j a b. h j (omega arith) (omega arith))
    ∙ ap (λ x. digits g (suc k) n (byte_values * v + x)) (h k (omega arith) (omega arith))

module _ (f g : ℕ → ℕ) (small : (j : ℕ) → f j < byte_values) (small' : (j : ℕ) → g j < byte_values) where
  -- a lower number stays lower
  pub digits-lower : (k n v w : ℕ) → v < w → digits f k n v < digits g k n w
  digits-lower k zero v w h = h
  digits-lower k (suc n) v w h =
      digits-lower (suc k) n (byte_values * v + f k) (byte_values * w + g k) (omega (arith, small k))

module _ (f g : ℕ → ℕ) (small : (j : ℕ) → f j < byte_values) (small' : (j : ℕ) → g j < byte_values) where
  -- the first digits that differ decide; those from k + m on are the same
  pub digits-lex : (m n k v : ℕ) → m ≤ n → ((j : ℕ) → k + m ≤ j → j < k + n → f j ≡ g j) →
      lex (map f (up_from k m)) (map g (up_from k m)) ≡ ltb (digits f k n v) (digits g k n v)
  digits-lex zero n k v h s =
      let e = digits_same f g k n v (λ j a b. s j (omega arith) b) in
      sym (le-ltb (digits f k n v) (digits g k n v) (omega arith))
  digits-lex (suc m) zero k v h s = absurd (omega arith)
  digits-lex (suc m) (suc n) k v h s =
      go (digits-lex m n (suc k) (byte_values * v + f k) (omega arith) (λ j a b. s j (omega arith) (omega arith)))
      (eqb (f k) (g k)) refl (ltb (f k) (g k)) refl
    where
      xs : List ℕ
      xs = map f (up_from (suc k) m)

      ys : List ℕ
      ys = map g (up_from (suc k) m)

      go : lex xs ys ≡ ltb (digits f (suc k) n (byte_values * v + f k)) (digits g (suc k) n (byte_values * v + f k)) →
          (b : Bool) → eqb (f k) (g k) ≡ b → (c : Bool) → ltb (f k) (g k) ≡ c →
          lex (map f (up_from k (suc m))) (map g (up_from k (suc m))) ≡
          ltb (digits f k (suc n) v) (digits g k (suc n) v)
      go ih true d c p =
          lex-agrees (f k) (g k) xs ys (eqb-true (f k) (g k) d) ∙ ih
          ∙ ap (λ x. ltb (digits f (suc k) n (byte_values * v + f k)) (digits g (suc k) n (byte_values * v + x)))
          (eqb-true (f k) (g k) d)
      go ih false d true p =
          lex-differs (f k) (g k) xs ys (eqb-false (f k) (g k) d) ∙ p
          ∙ sym (lt-ltb (digits f k (suc n) v) (digits g k (suc n) v)
          (digits-lower f g small small' (suc k) n (byte_values * v + f k) (byte_values * v + g k)
          (omega (arith, ltb-true (f k) (g k) p))))
      go ih false d false p =
          let a = ltb-false (f k) (g k) p in
          let b = eqb-false (f k) (g k) d in
          let l : g k < f k = other a b in
          let low = digits-lower g f small' small (suc k) n (byte_values * v + g k) (byte_values * v + f k) (omega arith) in
          lex-differs (f k) (g k) xs ys b ∙ p
          ∙ sym (le-ltb (digits f k (suc n) v) (digits g k (suc n) v) (omega arith))
        where
          other : g k ≤ f k → (f k ≡ g k → ⊥) → g k < f k
          other a b = omega arith

  -- equal numbers have equal digits
  pub digits-equal : (n k v : ℕ) → digits f k n v ≡ digits g k n v → (j : ℕ) → k ≤ j → j < k + n → f j ≡ g j
  digits-equal zero k v e j a b = absurd (omega arith)
  digits-equal (suc n) k v e j a b =
      first (λ d. digits-equal n (suc k) (byte_values * v + f k)
      (e ∙ ap (λ x. digits g (suc k) n (byte_values * v + x)) (sym d)) j) (eqb (f k) (g k)) refl (ltb (f k) (g k)) refl
    where
      first : (f k ≡ g k → suc k ≤ j → j < suc k + n → f j ≡ g j) → (b : Bool) → eqb (f k) (g k) ≡ b →
          (c : Bool) → ltb (f k) (g k) ≡ c → f j ≡ g j
      first ih true d c p = next (eqb j k) refl
        where
          next : (b : Bool) → eqb j k ≡ b → f j ≡ g j
          next true q = rw (eqb-true j k q) (eqb-true (f k) (g k) d)
          next false q = let z = eqb-false j k q in ih (eqb-true (f k) (g k) d) (omega arith) (omega arith)
      first ih false d true p =
          let l = digits-lower f g small small' (suc k) n (byte_values * v + f k) (byte_values * v + g k)
          (omega (arith, ltb-true (f k) (g k) p)) in
          absurd (omega arith)
      first ih false d false p =
          let a = ltb-false (f k) (g k) p in
          let b = eqb-false (f k) (g k) d in
          let l = digits-lower g f small' small (suc k) n (byte_values * v + g k) (byte_values * v + f k) (omega arith) in
          absurd (omega arith)

-- The digits of labels: what may follow a number, and the text of a number with one digit more.
use Rattle.std.proofs.Common.{◌≡◌, ℕ, ◌+◌, ◌-◌, ◌*◌, ◌/◌, ◌%◌, ◌<◌, ◌≤◌, Bool, true, false, ltb, leb, [], ◌∷◌, ◌++◌, sym, ◌∙◌, arith, ltb-true, lt-ltb, le-leb, leb-true}
use Rattle.format.specs.Format.{max_label}
use Rattle.lists.specs.Decimal.{digit}
use Rattle.text.specs.Grammar.{label_text}
use Rattle.text.specs.Reader.{extended, extends, is_digit}
use Rattle.lists.proofs.Decimal.{decimal_digit, decimal-more}
use Rattle.lists.proofs.Tests.{and_both, and_left, and_right}

pub digit-bounds : (b : ℕ) → is_digit b ≡ true → (digit 0 ≤ b) × (b ≤ digit 9)
digit-bounds b e =
    (leb-true (digit 0) b (and_left _ _ e), leb-true b (digit 9) (and_right (leb (digit 0) b) _ e))

pub digit-true : (d : ℕ) → d < 10 → is_digit (digit d) ≡ true
digit-true d h = and_both (le-leb (digit 0) (digit d) (omega arith)) (le-leb (digit d) (digit 9) (omega arith))

-- b is a digit, by what a test of it returned
pub digit_low : (b : ℕ) (r : Bool) → r ≡ is_digit b → r ≡ true → digit 0 ≤ b
digit_low b r e n = (digit-bounds b (sym e ∙ n)).0

pub record Extends (a b : ℕ) : Type 0 where
  pub low : digit 0 ≤ b
  pub high : b ≤ digit 9
  pub nonzero : 0 < a
  pub fits : extended a b ≤ max_label

pub extends-true : (a b : ℕ) → extends a b ≡ true → Extends a b
extends-true a b e =
    let d = digit-bounds b (and_left _ _ e) in
    let k = and_right (is_digit b) _ e in
    record {
      low = d.0;
      high = d.1;
      nonzero = ltb-true 0 a (and_left _ _ k);
      fits = leb-true (extended a b) max_label (and_right (ltb 0 a) _ k);
    }

pub true-extends : (a b : ℕ) → Extends a b → extends a b ≡ true
true-extends a b x =
    and_both (and_both (le-leb (digit 0) b x.low) (le-leb b (digit 9) x.high))
    (and_both (lt-ltb 0 a x.nonzero) (le-leb (extended a b) max_label x.fits))

-- the text of a number of one digit, and that of a number with one digit more
pub label-digit : (b : ℕ) → digit 0 ≤ b → b ≤ digit 9 → label_text (b - digit 0) ≡ b ∷ []
label-digit b low high =
    let d : digit (b - digit 0) ≡ b = omega arith in decimal_digit (b - digit 0) (omega arith) ∙ rw d

pub label-extended : (a b : ℕ) → Extends a b → label_text (extended a b) ≡ label_text a ++ (b ∷ [])
label-extended a b x =
    let p : extended a b / 10 ≡ a = omega arith in
    let q : digit (extended a b % 10) ≡ b = omega arith in
    decimal-more (extended a b) (omega arith) ∙ rw (p, q)

-- what `extends` returns, by its own tests
module _ (a b : ℕ) (r : Bool) (e : r ≡ is_digit b) where
  pub extends-other : r ≡ false → false ≡ extends a b
  extends-other n = let d = sym e ∙ n in rw d

  module _ (n : r ≡ true) where
    pub extends-zero : a ≡ 0 → false ≡ extends a b
    extends-zero z = let d = sym e ∙ n in rw (d, z)

    pub extends-small : (a ≡ 0 → ⊥) → (v : ℕ) → v ≡ b - digit 0 → leb (10 * a + v) max_label ≡ extends a b
    extends-small z v q = let d = sym e ∙ n in rw (d, lt-ltb 0 a (omega arith), q)

-- What `read_label` and `agreeing` return.
use Rattle.std.proofs.Common.{◌≡◌, ℕ, suc, ◌+◌, ◌-◌, ◌*◌, ◌<◌, ◌≤◌, Bool, true, false, cond, eqb, min, List, [], ◌∷◌, length, get_or, drop, sym, refl, ap, ◌∙◌, add-one, arith, drop-cons, take-suc, w16, Fits, eq-eqb, ne_eqb}
use lib.ListN.{get_or-eq_default, length-replicate}
use Rattle.format.specs.Format.{listing_bytes}
use Rattle.text.specs.Clauses.{LabelRead, LabelTo}
use Rattle.lists.specs.Decimal.{digit}
use Rattle.text.specs.Grammar.{label_text}
use Rattle.text.specs.Outcome.{no_listing}
use Rattle.text.specs.Reader.{agreed, extends, is_digit}
use Rattle.std.specs.Prelude.{None, Some}
use Rattle.text.proofs.Agreement.{agreed-within}
use Rattle.text.proofs.Labels.{Extends, digit-bounds, extends-true, label-digit, label-extended}

-- ---- labels: each law is what a search finds for a need of `read_label`

pub label-absent : (s : List ℕ) → length s < 1 → LabelRead s None
unfolding LabelRead
label-absent [] h = refl
label-absent (b ∷ s) h = absurd (omega arith)

-- r is what the test of the first byte returned
module _ (s : List ℕ) (r : Bool) (e : r ≡ is_digit (get_or s 0 0)) where
  pub label-other : r ≡ false → LabelRead s None
  unfolding LabelRead
  label-other n = sym e ∙ n

  pub label-first : 1 ≤ length s → r ≡ true → (a : ℕ) → a ≡ get_or s 0 0 - digit 0 → LabelTo s 1 a
  label-first h n a v = go s h (sym e ∙ n) v
    where
      go : (s : List ℕ) → 1 ≤ length s → is_digit (get_or s 0 0) ≡ true → a ≡ get_or s 0 0 - digit 0 → LabelTo s 1 a
      go [] h d v = absurd (omega arith)
      go (b ∷ s) h d v =
          let (low, high) = digit-bounds b d in
          record {
            nonempty = omega arith;
            within = h;
            fits = omega arith;
            text = sym (ap label_text v ∙ label-digit b low high);
          }

-- r is what the test of byte i returned, after the label a
module _ (s : List ℕ) (i a : ℕ) (r : Bool) (e : r ≡ extends a (get_or s i 0)) where
  pub label-stopped : LabelTo s i a → r ≡ false → LabelRead s (Some (record { value = a; len = i }))
  unfolding LabelRead
  label-stopped x n = (x, sym e ∙ n)

  module _ (n : r ≡ true) where
    more : Extends a (get_or s i 0)
    more = extends-true a (get_or s i 0) (sym e ∙ n)

    pub tenfold-fits : Fits w16 (10 * a)
    tenfold-fits = omega (arith, more.fits)

    pub label-low : digit 0 ≤ get_or s i 0
    label-low = more.low

    module _ (d : ℕ) (v : d ≡ get_or s i 0 - digit 0) where
      pub label-fits : Fits w16 (10 * a + d)
      label-fits = omega (arith, more.fits)

      pub label-next : LabelTo s i a → i < length s → LabelTo s (i + 1) (10 * a + d)
      label-next x h =
          record {
            nonempty = omega arith;
            within = omega arith;
            fits = omega (arith, more.fits);
            text = rw (v, add-one i, take-suc s i 0 h, x.text) (sym (label-extended a (get_or s i 0) more));
          }

pub label-last : (s : List ℕ) (i a : ℕ) → LabelTo s i a → length s ≤ i →
    LabelRead s (Some (record { value = a; len = length s }))
unfolding LabelRead
label-last s i a x h =
    let e : i ≡ length s = omega (arith, x.within) in
    (rw e at x, rw (get_or-eq_default s 0 {n = length s} (omega arith)))

-- ---- heads

-- a loop at i: what is agreed of the whole is i and what is agreed of the rest
pub record AgreedFrom (s w : List ℕ) (i : ℕ) : Type 0 where
  pub within : (i ≤ length s) × (i ≤ length w)
  pub left : agreed s w ≡ i + agreed (drop i s) (drop i w)

pub agreed-start : (s w : List ℕ) → AgreedFrom s w 0
agreed-start s w = record { within = (omega arith, omega arith); left = omega arith }

module _ (s w : List ℕ) (i : ℕ) (x : AgreedFrom s w i) where
  -- one of the two has no further byte
  pub agreed-end : (n : ℕ) → n ≡ min (length s) (length w) → n ≤ i → n ≡ agreed s w
  agreed-end n e h = omega (arith, x.within, x.left, agreed-within s w)

  agreed-step : i < length s → i < length w → agreed (drop i s) (drop i w) ≡
      cond (eqb (get_or s i 0) (get_or w i 0)) (suc (agreed (drop (suc i) s) (drop (suc i) w))) 0
  unfolding agreed
  agreed-step h k = rw (drop-cons s i 0 h, drop-cons w i 0 k)

  pub agreed-apart : i < length s → i < length w → (get_or s i 0 ≡ get_or w i 0 → ⊥) → i ≡ agreed s w
  agreed-apart h k e =
      let z : agreed (drop i s) (drop i w) ≡ 0 = agreed-step h k ∙ rw (ne_eqb (get_or s i 0) (get_or w i 0) e) in
      omega (arith, x.left)

  pub agreed-next : i < length s → i < length w → get_or s i 0 ≡ get_or w i 0 → AgreedFrom s w (i + 1)
  agreed-next h k e =
      let z : agreed (drop i s) (drop i w) ≡ suc (agreed (drop (suc i) s) (drop (suc i) w)) =
      agreed-step h k ∙ rw (eq-eqb (get_or s i 0) (get_or w i 0) e) in
      record { within = (omega arith, omega arith); left = rw (add-one i) (omega (arith, x.left)) }

-- ---- a table of zeros

pub length-blank : length no_listing ≡ listing_bytes
unfolding no_listing
length-blank = length-replicate {A = ℕ} listing_bytes 0

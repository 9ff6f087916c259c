-- A line of text for a host.
use mathlib.Core.Bool.{Bool, cond, false, true, true≢false}
use mathlib.Core.List.{List}
use mathlib.Core.Logic.{◌≢◌}
use mathlib.Core.Path.{◌∙◌, ◌≡◌, ap, refl, subst, sym}
use Prim.Native.Nat.{◌-◌, ◌≤◌, ℕ}
use native.Mathlib.Omega.{arith}
use lib.Dec.{eqb, leb}
use lib.ListN.{length, length-append, length-replicate, replicate}
use borrow.Author.Tests.{eq-eqb, leb-false, leb-true, ne_eqb}
use Rattle.format.specs.Format.{listing_bytes, max_line}
use Rattle.scalebench.specs.Typed.{Small, line_number}
use Rattle.text.specs.Grammar.{Command, to_add, to_ask, to_drop}
use Rattle.text.specs.Outcome.{listed, padded, parsed, parsed_as}
use Rattle.text.specs.Reader.{Line, form, formed, long, read_line, totalled}
use Rattle.std.specs.Prelude.{Ok, Result}
use Rattle.text.specs.declared.Command as read
use Rattle.text.specs.declared.Malformed.{Malformed}
use Rattle.text.proofs.Heads.{length-blank}
use Rattle.text.proofs.LineMeaning.{line-form, line-long}
use Rattle.text.proofs.Lines.{formed-size}

-- ---- numbers

abbrev is_long : Line → Bool
is_long (formed c l) = false
is_long totalled = false
is_long (form n) = false
is_long long = true

small-as : (c : Command) {n : ℕ} → n ≤ listing_bytes → Small (Ok (parsed_as c n))
small-as to_add h = omega arith
small-as to_drop h = omega arith
small-as to_ask h = omega arith

module _ (s : List ℕ) where
  short : {l : Line} → read_line s ≡ l → is_long l ≡ false → length s ≤ max_line
  short {l} e n = test (leb (length s) max_line) refl
    where
      test : (b : Bool) → leb (length s) max_line ≡ b → length s ≤ max_line
      test true h = leb-true (length s) max_line h
      test false h =
          absurd (true≢false (ap is_long (sym ((line-long s).1 (leb-false (length s) max_line h)) ∙ e) ∙ n))

  small_line : Small (parsed (read_line s))
  unfolding parsed
  small_line = go (read_line s) refl
    where
      go : (l : Line) → read_line s ≡ l → Small (parsed l)
      go (formed c l) e = small-as c (formed-size s c l (short e refl) e)
      go totalled e = tt
      go (form n) e = omega (arith, (line-form s n e).within.1, short e refl)
      go long e = tt

  -- the listing stands in a whole table
  pub listed-size : length (listed (read_line s)) ≡ listing_bytes
  unfolding listed padded
  listed-size = go (read_line s) refl
    where
      go : (l : Line) → read_line s ≡ l → length (listed l) ≡ listing_bytes
      go (formed c l) e =
          omega (
            arith,
            length-append l (replicate (listing_bytes - length l) 0),
            length-replicate {A = ℕ} (listing_bytes - length l) 0,
            formed-size s c l (short e refl) e,
          )
      go totalled e = length-blank
      go (form n) e = length-blank
      go long e = length-blank

-- ---- the answer

module _ (s : List ℕ) {p : Result read.Command Malformed} (e : p ≡ parsed (read_line s)) where
  pub read_small : Small p
  read_small = subst Small (sym e) (small_line s)

  pub read_number : {k : ℕ} → k ≡ line_number p → k ≡ line_number (parsed (read_line s))
  read_number d = d ∙ ap line_number e

-- a buffer of another size is left untouched
module _ (s l : List ℕ) where
  pub read-other : length l ≢ listing_bytes →
      (◌≡◌ {A = ℕ} 0 (cond (eqb (length l) listing_bytes) (line_number (parsed (read_line s))) 0)) ×
      (l ≡ cond (eqb (length l) listing_bytes) (listed (read_line s)) l)
  read-other n = rw (ne_eqb (length l) listing_bytes n) (refl, refl)

  pub read-listed : length l ≡ listing_bytes → {k : ℕ} {t : List ℕ} → k ≡ line_number (parsed (read_line s)) → t ≡ listed
      (read_line s) →
      (k ≡ cond (eqb (length l) listing_bytes) (line_number (parsed (read_line s))) 0) ×
      (t ≡ cond (eqb (length l) listing_bytes) (listed (read_line s)) l)
  read-listed h d e = rw (eq-eqb (length l) listing_bytes h) (d, e)

-- How a function shows `Spread`: nothing to do, one new mark, a loop of steps, another way to say the rule. And how
-- marks that spread until nothing changes come to be exactly a set.
use mathlib.Core.Bool.{Bool, ◌||◌, false, false≢true, true}
use mathlib.Core.List.{List}
use mathlib.Core.Path.{◌∙◌, ◌≡◌, ap, refl, subst, sym}
use Prim.Native.Nat.{◌+◌, ◌-◌, ◌<◌, ℕ}
use native.Mathlib.Omega.{arith}
use lib.ListN.{length, length-replicate, replicate, set}
use Rattle.marking.specs.Marks.{marked, marks, nonzero}
use Rattle.marking.specs.Spread.{Covers, Led, Rule, Spread, UpTo, from_last}
use Rattle.lists.proofs.Intervals.{get_d-zeros}
use Rattle.marking.proofs.Sweeps.{swept-closed, swept-less, swept-mark, swept-next, swept_none}

-- nothing to do: the rule holds of the marks
pub spread_none : {C : Rule} {m : List ℕ} → C (marked m) → Spread C m m false
spread_none c = record { swept = swept_none c; sound = λ p h w. w }

-- one new mark, which every closed set has that has the others
pub spread-mark : {C : Rule} {m : List ℕ} (i : ℕ) → i < length m → marked m i ≡ false →
    ((p : ℕ → Bool) → C p → Covers p m → p i ≡ true) → Spread C m (set m i 1) true
spread-mark {C} {m} i h e f = record {
  swept = swept-mark i h e (λ w. tt);
  sound = λ p c w.
      (swept-mark {P = λ q. p q ≡ true} {Closed = λ k. C (marked k)} {m = m} i h e (λ v. f p c v)).sound w;
}

-- another rule, which says the same of these marks
pub spread-if : {C D : Rule} {m m' : List ℕ} {r : Bool} → ((p : ℕ → Bool) → Covers p m → D p → C p) →
    (C (marked m) → D (marked m)) → Spread C m m' r → Spread D m m' r
spread-if f g s = record { swept = swept-closed g s.swept; sound = λ p d w. s.sound p (f p w d) w }

-- a loop of steps: it begins, and goes on by one
pub spread-begin : (C : ℕ → Rule) {m : List ℕ} → Spread (UpTo C 0) m m false
spread-begin C = spread_none (λ i h. absurd (omega arith))

pub spread-next : (C : ℕ → Rule) (i : ℕ) {m m' m'' : List ℕ} {x y : Bool} → Spread (UpTo C i) m m' x →
    Spread (C i) m' m'' y → Spread (UpTo C (i + 1)) m m'' (x || y)
spread-next C i s t = record {
  swept = swept-next (λ j k. C j (marked k)) i s.swept t.swept;
  sound = λ p h w. t.sound p (h i (omega arith)) (s.sound p (λ j l. h j (omega arith)) w);
}

-- a loop from the last step on
pub spread-back : (C : ℕ → Rule) (n : ℕ) {m m' : List ℕ} {r : Bool} → Spread (UpTo (from_last C n) n) m m' r →
    Spread (UpTo C n) m m' r
spread-back C n {m} s = spread-if (λ p w d j h. d (n - 1 - j) (omega arith)) turned s
  where
    turned : UpTo (from_last C n) n (marked m) → UpTo C n (marked m)
    turned u i h = let e : n - 1 - (n - 1 - i) ≡ i = omega arith in
        subst (λ (k : ℕ). C k (marked m)) e (u (n - 1 - i) (omega arith))

-- while marks are added, what is left to mark falls
pub growing-less : {C : Rule} {m m' : List ℕ} {r : Bool} → Spread C m m' r → r ≡ true →
    length m' - marks m' < length m - marks m
growing-less s e = swept-less s.swept e

-- at the end the rule holds of the marks
pub growing-closed : {C : Rule} {m m' : List ℕ} {r : Bool} → Spread C m m' r → r ≡ false → C (marked m')
growing-closed {C} s e = subst (λ (k : List ℕ). C (marked k)) (sym (s.swept.still e)) (s.swept.closed e)

-- ---- a pass with no claim to be complete

pub led-none : (C : Rule) (m : List ℕ) → Led C m m
led-none C m = record { size = refl; kept = λ i d. d; sound = λ p c h. h }

pub led-then : {C : Rule} {m m' m'' : List ℕ} → Led C m m' → Led C m' m'' → Led C m m''
led-then f g = record {
  size = g.size ∙ f.size;
  kept = λ i d. g.kept i (f.kept i d);
  sound = λ p c h. g.sound p c (f.sound p c h);
}

pub led-spread : {C : Rule} {m m' : List ℕ} {r : Bool} → Spread C m m' r → Led C m m'
led-spread s = record { size = s.swept.size; kept = s.swept.kept; sound = s.sound }

-- ---- n entries with marks that a closed set covers, and that grow until nothing changes

pub record Growing (n : ℕ) (p : ℕ → Bool) (m : List ℕ) : Type 0 where
  pub size : length m ≡ n
  pub within : Covers p m

pub unmarked : (k i : ℕ) → marked (replicate k 0) i ≡ false
unmarked k i = ap nonzero (get_d-zeros k i)

pub growing-none : {n : ℕ} {p : ℕ → Bool} → Growing n p (replicate n 0)
growing-none {n} = record {
  size = length-replicate {A = ℕ} n 0;
  within = λ i e. absurd (false≢true (sym (unmarked n i) ∙ e));
}

pub growing-led : {C : Rule} {n : ℕ} {p : ℕ → Bool} {m m' : List ℕ} → C p → Growing n p m → Led C m m' → Growing n p m'
growing-led {p = p} c g s = record { size = s.size ∙ g.size; within = s.sound p c g.within }

pub growing-more : {C : Rule} {n : ℕ} {p : ℕ → Bool} {m m' : List ℕ} {r : Bool} → C p → Growing n p m →
    Spread C m m' r → Growing n p m'
growing-more c g s = growing-led c g (led-spread s)

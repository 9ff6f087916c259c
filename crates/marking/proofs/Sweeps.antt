-- How a function shows `Swept`: nothing to do, one new mark, one sweep after another, a loop of sweeps.
use mathlib.Core.Bool.{Bool, ◌||◌, false, false≢true, true, true≢false}
use mathlib.Core.List.{List, [], ◌∷◌}
use mathlib.Core.Logic.{◌≢◌, ◌⊎◌, inl, inr}
use mathlib.Core.Path.{◌∙◌, ◌≡◌, refl, subst, sym}
use Prim.Native.Nat.{◌+◌, ◌-◌, ◌<◌, ◌≤◌, suc, zero, ℕ}
use native.Mathlib.Omega.{arith}
use lib.Dec.{eqb}
use lib.ListN.{length, length-set, set}
use lib.Seq.{get_or-set_other, get_or-set_same}
use borrow.Author.Tests.{eqb-false, eqb-true}
use Rattle.lists.specs.Tests.{bit}
use Rattle.marking.specs.Marks.{Below, Swept, Within, marked, marks, nonzero}
use Rattle.lists.proofs.Tests.{or_cases, or-none-left, or-none-right}

pub nonzero-false : (x : ℕ) → x ≡ 0 → nonzero x ≡ false
nonzero-false zero e = refl
nonzero-false (suc x) e = absurd (omega arith)

pub nonzero-true : (x : ℕ) → x ≢ 0 → nonzero x ≡ true
nonzero-true zero e = absurd (e refl)
nonzero-true (suc x) e = refl

pub nonzero-bit : (b : Bool) → nonzero (bit b) ≡ b
nonzero-bit true = refl
nonzero-bit false = refl

-- there are no more marks than entries
pub marks-length : (m : List ℕ) → marks m ≤ length m
marks-length [] = omega arith
marks-length (x ∷ m) = go (nonzero x) (marks-length m)
  where
    go : (b : Bool) → marks m ≤ length m → bit b + marks m ≤ suc (length m)
    go true h = omega arith
    go false h = omega arith

-- a new mark is one more
pub marks-set : (m : List ℕ) (i : ℕ) → i < length m → marked m i ≡ false → marks (set m i 1) ≡ suc (marks m)
marks-set [] i h e = absurd (omega arith)
marks-set (x ∷ m) zero h e = rw e (omega arith)
marks-set (x ∷ m) (suc i) h e = let r = marks-set m i (omega arith) e in omega arith

pub marked-here : (m : List ℕ) (i : ℕ) → i < length m → marked (set m i 1) i ≡ true
marked-here m i h = rw (get_or-set_same m i 1 0 h)

pub marked-there : (m : List ℕ) (i j : ℕ) → j ≢ i → marked (set m i 1) j ≡ marked m j
marked-there m i j n = rw (get_or-set_other m i j 1 0 n)

-- what is marked after a new mark was marked before, or is the new one
pub marked-set : (m : List ℕ) (i j : ℕ) → marked (set m i 1) j ≡ true → (j ≡ i) ⊎ (marked m j ≡ true)
marked-set m i j e = go (eqb j i) refl
  where
    go : (b : Bool) → eqb j i ≡ b → (j ≡ i) ⊎ (marked m j ≡ true)
    go true d = inl (eqb-true j i d)
    go false d = inr (sym (marked-there m i j (eqb-false j i d)) ∙ e)

pub set-marked : (m : List ℕ) (i j : ℕ) → i < length m → marked m j ≡ true → marked (set m i 1) j ≡ true
set-marked m i j h e = go (eqb j i) refl
  where
    go : (b : Bool) → eqb j i ≡ b → marked (set m i 1) j ≡ true
    go true d = rw (eqb-true j i d) (marked-here m i h)
    go false d = marked-there m i j (eqb-false j i d) ∙ e

-- nothing to do: what is to be closed is
pub swept_none : {Sound Closed : List ℕ → Type 0} {m : List ℕ} → Closed m → Swept Sound Closed m m false
swept_none c = record {
  size = refl;
  sound = λ s. s;
  kept = λ i e. e;
  grown = λ e. absurd (false≢true e);
  still = λ e. refl;
  closed = λ e. c;
}

-- one new mark, which has the property
pub swept-mark : {P : ℕ → Type 0} {Closed : List ℕ → Type 0} {m : List ℕ} (i : ℕ) → i < length m →
    marked m i ≡ false → (Within P m → P i) → Swept (Within P) Closed m (set m i 1) true
swept-mark {P} {Closed} {m} i h e p = record {
  size = length-set m i 1;
  sound = λ s j d. new s j (marked-set m i j d);
  kept = λ j d. set-marked m i j h d;
  grown = λ d. omega (arith, marks-set m i h e);
  still = λ d. absurd (true≢false d);
  closed = λ d. absurd (true≢false d);
}
  where
    new : Within P m → (j : ℕ) → (j ≡ i) ⊎ (marked m j ≡ true) → P j
    new s j (inl d) = subst P (sym d) (p s)
    new s j (inr d) = s j d

-- what is closed may be said in another way
pub swept-closed : {Sound Closed Other : List ℕ → Type 0} {m m' : List ℕ} {r : Bool} →
    (Closed m → Other m) → Swept Sound Closed m m' r → Swept Sound Other m m' r
swept-closed f s = record {
  size = s.size;
  sound = s.sound;
  kept = s.kept;
  grown = s.grown;
  still = s.still;
  closed = λ e. f (s.closed e);
}

-- one sweep after another
pub swept-then : {Sound C D : List ℕ → Type 0} {m m' m'' : List ℕ} {x y : Bool} →
    Swept Sound C m m' x → Swept Sound D m' m'' y → Swept Sound (λ k. C k × D k) m m'' (x || y)
swept-then {Sound} {C} {D} {m} {m'} {m''} {x} {y} s t = record {
  size = t.size ∙ s.size;
  sound = λ h. t.sound (s.sound h);
  kept = λ i e. t.kept i (s.kept i e);
  grown = λ e. more x y refl refl (or_cases x y e);
  still = λ e. t.still (or-none-right x y e) ∙ s.still (or-none-left x y e);
  closed = λ e.
      (s.closed (or-none-left x y e), subst D (s.still (or-none-left x y e)) (t.closed (or-none-right x y e)));
}
  where
    more : (a b : Bool) → x ≡ a → y ≡ b → (x ≡ true) ⊎ (y ≡ true) → marks m < marks m''
    more true true d e h = omega (arith, s.grown d, t.grown e)
    more true false d e h = subst (λ (k : List ℕ). marks m < marks k) (sym (t.still e)) (s.grown d)
    more false true d e h = subst (λ (k : List ℕ). marks k < marks m'') (s.still d) (t.grown e)
    more false false d e (inl h) = absurd (true≢false (sym h ∙ d))
    more false false d e (inr h) = absurd (true≢false (sym h ∙ e))

-- a loop of sweeps goes on by one
pub swept-next : {Sound : List ℕ → Type 0} (C : ℕ → List ℕ → Type 0) (i : ℕ) {m m' m'' : List ℕ} {x y : Bool} →
    Swept Sound (Below C i) m m' x → Swept Sound (C i) m' m'' y → Swept Sound (Below C (i + 1)) m m'' (x || y)
swept-next C i {m} {m'} {m''} {x} {y} s t = swept-closed up_to (swept-then s t)
  where
    up_to : Below C i m × C i m → Below C (i + 1) m
    up_to (b, c) j h = go (eqb j i) refl
      where
        go : (d : Bool) → eqb j i ≡ d → C j m
        go true e = subst (λ (k : ℕ). C k m) (sym (eqb-true j i e)) c
        go false e = let ne = eqb-false j i e in b j (omega arith)

-- the loop of sweeps: while marks are added, what is left to mark falls
pub swept-less : {Sound Closed : List ℕ → Type 0} {m m' : List ℕ} {r : Bool} → Swept Sound Closed m m' r → r ≡ true →
    length m' - marks m' < length m - marks m
swept-less {m = m} {m' = m'} s e = omega (arith, s.grown e, s.size, marks-length m, marks-length m')

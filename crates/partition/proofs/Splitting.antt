-- How a function shows `Split`: nothing to do, a split by shared keys, one after another, a loop of splits.
use mathlib.Core.Bool.{Bool, ◌||◌, false, false≢true, true, true≢false}
use mathlib.Core.List.{List}
use mathlib.Core.Logic.{◌⊎◌, inl, inr}
use mathlib.Core.Path.{◌∙◌, ◌≡◌, refl, subst, sym}
use Prim.Native.Nat.{◌+◌, ◌-◌, ◌<◌, suc, zero, ℕ}
use native.Mathlib.Numerals.{add-one}
use denote.Ref.{MutBor}
use native.Mathlib.Omega.{arith}
use lib.Dec.{eqb}
use borrow.Author.Tests.{eqb-false, eqb-true}
use Rattle.fields.specs.View.{viewed}
use Rattle.lists.specs.Positions.{up_from}
use Rattle.marking.specs.Marks.{Below}
use Rattle.marking.specs.Steps.{Made, Steps}
use Rattle.partition.specs.Parts.{Grouped, Parts, leaders, leads}
use Rattle.partition.specs.Splits.{Mates, Regrouped, Shared, Split}
use Rattle.fields.proofs.Views.{viewed-states}
use Rattle.lists.proofs.Positions.{up_from-length}
use Rattle.lists.proofs.Tests.{filter-length, or_cases, or-none-left, or-none-right}
use Rattle.partition.proofs.Regrouping.{regrouped-finer, regrouped-grouped, regrouped-more, regrouped-parts}

module _ {s : List ℕ} {n c : ℕ} where
  pub split-none : {C : List ℕ → Type 0} {m : List ℕ} → Grouped n m → C m → Split s n c C m m false
  split-none g e = record {
    grouped = g;
    kept = λ cl p. p;
    finer = λ p q h l d. d;
    grown = λ d. absurd (false≢true d);
    still = λ d. refl;
    closed = λ d. e;
  }

  -- keys that states that nothing separates share while the parts are sound
  pub split-keys : {C : List ℕ → Type 0} {m m' : List ℕ} {χ : ℕ → ℕ} {r : Bool} → Grouped n m →
      Regrouped n χ m m' r → ((cl : List ℕ) → Parts (viewed cl s n c) m → Shared (viewed cl s n c) χ) →
      (r ≡ false → C m) → Split s n c C m m' r
  split-keys g t share e = record {
    grouped = regrouped-grouped g t;
    kept = λ cl p. regrouped-parts g t (viewed cl s n c) (viewed-states cl s n c) (share cl p) p;
    finer = regrouped-finer g t;
    grown = regrouped-more g t;
    still = t.still;
    closed = e;
  }

  -- what is closed may be said in another way
  pub split-closed : {C D : List ℕ → Type 0} {m m' : List ℕ} {r : Bool} → (C m → D m) → Split s n c C m m' r →
      Split s n c D m m' r
  split-closed f t = record {
    grouped = t.grouped;
    kept = t.kept;
    finer = t.finer;
    grown = t.grown;
    still = t.still;
    closed = λ e. f (t.closed e);
  }

  -- one split after another
  pub split-then : {C D : List ℕ → Type 0} {m m' m'' : List ℕ} {x y : Bool} → Split s n c C m m' x →
      Split s n c D m' m'' y → Split s n c (λ k. C k × D k) m m'' (x || y)
  split-then {C} {D} {m} {m'} {m''} {x} {y} t u = record {
    grouped = u.grouped;
    kept = λ cl p. u.kept cl (t.kept cl p);
    finer = λ p q h l e. t.finer p q h l (u.finer p q h l e);
    grown = λ e. more x y refl refl (or_cases x y e);
    still = λ e. u.still (or-none-right x y e) ∙ t.still (or-none-left x y e);
    closed = λ e.
        (t.closed (or-none-left x y e), subst D (t.still (or-none-left x y e)) (u.closed (or-none-right x y e)));
  }
    where
      more : (a b : Bool) → x ≡ a → y ≡ b → (x ≡ true) ⊎ (y ≡ true) → leaders m n < leaders m'' n
      more true true d e h = omega (arith, t.grown d, u.grown e)
      more true false d e h = subst (λ (k : List ℕ). leaders m n < leaders k n) (sym (u.still e)) (t.grown d)
      more false true d e h = subst (λ (k : List ℕ). leaders k n < leaders m'' n) (t.still d) (u.grown e)
      more false false d e (inl h) = absurd (true≢false (sym h ∙ d))
      more false false d e (inr h) = absurd (true≢false (sym h ∙ e))

  -- a loop of splits: it begins, and goes on by one
  pub split-begin : (C : ℕ → List ℕ → Type 0) {m : List ℕ} → Grouped n m → Split s n c (Below C 0) m m false
  split-begin C g = split-none g (λ i h. absurd (omega arith))

  pub split-next : (C : ℕ → List ℕ → Type 0) (i : ℕ) {m m' m'' : List ℕ} {x y : Bool} →
      Split s n c (Below C i) m m' x → Split s n c (C i) m' m'' y → Split s n c (Below C (i + 1)) m m'' (x || y)
  split-next C i {m} t u = split-closed up_to (split-then t u)
    where
      up_to : Below C i m × C i m → Below C (i + 1) m
      up_to (b, e) j h = go (eqb j i) refl
        where
          go : (d : Bool) → eqb j i ≡ d → C j m
          go true f = subst (λ (k : ℕ). C k m) (sym (eqb-true j i f)) e
          go false f = let ne = eqb-false j i f in b j (omega arith)

  -- if each step splits parts, all do
  pub steps-split : {post : ℕ → MutBor (List ℕ) → Bool → MutBor (List ℕ) → Type 0} (C : ℕ → List ℕ → Type 0) (k : ℕ)
      {m m' : List ℕ} {r : Bool} → Grouped n m →
      ((i : ℕ) (p q : MutBor (List ℕ)) (x : Bool) → i < k → post i p x q → Split s n c (C i) p.now q.now x) →
      Steps (Made post) k m m' r → Split s n c (Below C k) m m' r
  steps-split C zero g f (e, d) = rw (e, d) (split-begin C g)
  steps-split C (suc k) g f (m, x, y, t, u, e) =
      let here = rw (u.shows, u.leaves) at (f k u.shown u.left y (omega arith) u.met) in
      rw (e, ← add-one) (split-next C k (steps-split C k g (λ i p q z h. f i p q z (omega arith)) t) here)

  -- states without mates stay so
  pub split-mates : {C : List ℕ → Type 0} {m m' f : List ℕ} {r : Bool} → Split s n c C m m' r → Mates n m f →
      Mates n m' f
  split-mates t a = record { alone = λ q x h e p l d. a.alone q x h e p l (t.finer p q l h d) }

  -- while parts are split, the leaders to come fall
  pub split-less : {C : List ℕ → Type 0} {m m' : List ℕ} {r : Bool} → Split s n c C m m' r → r ≡ true →
      n - leaders m' n < n - leaders m n
  unfolding leaders
  split-less {m' = m'} t e =
      omega (arith, t.grown e, filter-length (leads m') (up_from 1 n), up_from-length 1 n)

  -- at the end the parts are closed
  pub split-end : {C : List ℕ → Type 0} {m m' : List ℕ} {r : Bool} → Split s n c C m m' r → r ≡ false → C m'
  split-end {C} t e = subst C (sym (t.still e)) (t.closed e)

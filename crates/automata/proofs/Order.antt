-- Transition order is strict and total on keys; rising lists are determined by their members.
use mathlib.Core.Bool.{Bool, ◌&&◌, cond, false, false≢true, true, true≢false}
use mathlib.Core.List.{List, [], ◌∷◌}
use mathlib.Core.Logic.{◌⊎◌, inl, inr}
use mathlib.Core.Path.{◌∙◌, ◌≡◌, ap, refl, subst, sym}
use Prim.Native.Nat.{suc, ℕ}
use native.Mathlib.Omega.{arith}
use lib.Dec.{eqb, ltb}
use borrow.Author.Tests.{eq-eqb, eqb-false, eqb-true, lt-ltb, ltb-false, ltb-true}
use Rattle.automata.specs.Automaton.{Transition, lookup}
use Rattle.automata.specs.Numbered.{first_open, opens}
use Rattle.automata.specs.Order.{key, lex, precedes, rising, rising_from}
use Rattle.lists.specs.Tests.{◌∈◌}
use Rattle.automata.proofs.Steps.{lookup-in}
use Rattle.lists.proofs.Tests.{and_both, and_left, and_right, or_cases, or_left, or_right}

pub lex_irrefl : (xs : List ℕ) → lex xs xs ≡ true → ⊥
lex_irrefl [] e = false≢true e
lex_irrefl (x ∷ xs) e = go (λ h. lex_irrefl xs h) (or_cases (ltb x x) _ e)
  where
    go : (lex xs xs ≡ true → ⊥) → (ltb x x ≡ true) ⊎ ((eqb x x && lex xs xs) ≡ true) → ⊥
    go ih (inl h) = omega (arith, ltb-true)
    go ih (inr h) = ih (and_right (eqb x x) _ h)

pub lex-trans : (xs ys zs : List ℕ) → lex xs ys ≡ true → lex ys zs ≡ true → lex xs zs ≡ true
lex-trans [] [] zs d e = absurd (false≢true d)
lex-trans [] (y ∷ ys) [] d e = absurd (false≢true e)
lex-trans [] (y ∷ ys) (z ∷ zs) d e = refl
lex-trans (x ∷ xs) [] zs d e = absurd (false≢true d)
lex-trans (x ∷ xs) (y ∷ ys) [] d e = absurd (false≢true e)
lex-trans (x ∷ xs) (y ∷ ys) (z ∷ zs) d e =
    go (lex-trans xs ys zs) (or_cases (ltb x y) _ d) (or_cases (ltb y z) _ e)
  where
    go : (lex xs ys ≡ true → lex ys zs ≡ true → lex xs zs ≡ true) →
        (ltb x y ≡ true) ⊎ ((eqb x y && lex xs ys) ≡ true) →
        (ltb y z ≡ true) ⊎ ((eqb y z && lex ys zs) ≡ true) → lex (x ∷ xs) (z ∷ zs) ≡ true
    go ih (inl h) (inl k) = or_left (ltb x z) _ (lt-ltb x z (omega (arith, ltb-true)))
    go ih (inl h) (inr k) =
        or_left (ltb x z) _ (lt-ltb x z (omega (arith, ltb-true, eqb-true y z (and_left _ _ k))))
    go ih (inr h) (inl k) =
        or_left (ltb x z) _ (lt-ltb x z (omega (arith, ltb-true, eqb-true x y (and_left _ _ h))))
    go ih (inr h) (inr k) =
        or_right (ltb x z) _
        (and_both (eq-eqb x z (eqb-true x y (and_left _ _ h) ∙ eqb-true y z (and_left _ _ k)))
        (ih (and_right (eqb x y) _ h) (and_right (eqb y z) _ k)))

pub lex-cases : (xs ys : List ℕ) → (lex xs ys ≡ true) ⊎ ((xs ≡ ys) ⊎ (lex ys xs ≡ true))
lex-cases [] [] = inr (inl refl)
lex-cases [] (y ∷ ys) = inl refl
lex-cases (x ∷ xs) [] = inr (inr refl)
lex-cases (x ∷ xs) (y ∷ ys) = go (ltb x y) (eqb x y) refl refl (lex-cases xs ys)
  where
    go : (b c : Bool) → ltb x y ≡ b → eqb x y ≡ c → (lex xs ys ≡ true) ⊎ ((xs ≡ ys) ⊎ (lex ys xs ≡ true)) →
        (lex (x ∷ xs) (y ∷ ys) ≡ true) ⊎ (((x ∷ xs) ≡ (y ∷ ys)) ⊎ (lex (y ∷ ys) (x ∷ xs) ≡ true))
    go true c d e r = inl (or_left (ltb x y) _ d)
    go false true d e (inl h) = inl (or_right (ltb x y) _ (and_both e h))
    go false true d e (inr (inl h)) = inr (inl (cc (eqb-true x y e, h)))
    go false true d e (inr (inr h)) =
        inr (inr (or_right (ltb y x) _ (and_both (eq-eqb y x (sym (eqb-true x y e))) h)))
    go false false d e r =
        inr (inr (or_left (ltb y x) _ (lt-ltb y x (let ne = eqb-false x y e in omega (arith, ltb-false)))))

-- x < z and not y < z: x < y
pub lex-below : (xs ys zs : List ℕ) → lex xs zs ≡ true → lex ys zs ≡ false → lex xs ys ≡ true
lex-below xs ys zs d e = go (lex-cases ys zs)
  where
    go : (lex ys zs ≡ true) ⊎ ((ys ≡ zs) ⊎ (lex zs ys ≡ true)) → lex xs ys ≡ true
    go (inl h) = absurd (true≢false (sym h ∙ e))
    go (inr (inl h)) = rw h d
    go (inr (inr h)) = lex-trans xs zs ys d h

pub lex-asym : (xs ys : List ℕ) → lex xs ys ≡ true → lex ys xs ≡ false
lex-asym xs ys h = go (lex ys xs) refl
  where
    go : (b : Bool) → lex ys xs ≡ b → b ≡ false
    go true e = absurd (lex_irrefl xs (lex-trans xs ys xs h e))
    go false e = refl

pub lex-self : (xs : List ℕ) → lex xs xs ≡ false
lex-self xs = go (lex xs xs) refl
  where
    go : (b : Bool) → lex xs xs ≡ b → b ≡ false
    go true e = absurd (lex_irrefl xs e)
    go false e = refl

pub precedes-trans : (l m n : Transition) → precedes l m ≡ true → precedes m n ≡ true → precedes l n ≡ true
precedes-trans l m n = lex-trans (key l) (key m) (key n)

pub rising-tail : (l : Transition) (ls : List Transition) → rising_from l ls ≡ true → rising ls ≡ true
rising-tail l [] e = refl
rising-tail l (m ∷ ms) e = and_right (precedes l m) _ e

pub rising-head : (l : Transition) (ls : List Transition) → rising_from l ls ≡ true → (m : Transition) →
    m ∈ ls → precedes l m ≡ true
rising-head l [] e m x'' = elim x'' [ ]
rising-head l (k ∷ ls) e m (inl q) = rw q (and_left _ _ e)
rising-head l (k ∷ ls) e m (inr i) =
    precedes-trans l k m (and_left _ _ e) (rising-head k ls (and_right (precedes l k) _ e) m i)

-- strictly rising lists with the same members are equal
pub rising-unique : (ls ms : List Transition) → rising ls ≡ true → rising ms ≡ true →
    ((l : Transition) → l ∈ ls → l ∈ ms) → ((m : Transition) → m ∈ ms → m ∈ ls) → ls ≡ ms
rising-unique [] [] r s f g = refl
rising-unique [] (m ∷ ms) r s f g = absurd (g m (inl refl))
rising-unique (l ∷ ls) [] r s f g = absurd (f l (inl refl))
rising-unique (l ∷ ls) (m ∷ ms) r s f g =
    cc (
      heads,
      rising-unique ls ms (rising-tail l ls r) (rising-tail m ms s)
          (λ x i. down heads x i (f x (inr i))) (λ x i. shift heads x i (g x (inr i))),
    )
  where
    heads-go : (l ≡ m) ⊎ (l ∈ ms) → (m ≡ l) ⊎ (m ∈ ls) → l ≡ m
    heads-go (inl e) k = e
    heads-go (inr i) (inl e) = sym e
    heads-go (inr i) (inr j) =
        absurd (lex_irrefl (key l) (precedes-trans l m l (rising-head l ls r m j) (rising-head m ms s l i)))

    heads : l ≡ m
    heads = heads-go (f l (inl refl)) (g m (inl refl))

    down : l ≡ m → (x : Transition) → x ∈ ls → (x ≡ m) ⊎ (x ∈ ms) → x ∈ ms
    down h x i (inl e) = absurd (lex_irrefl (key l) (rw (e ∙ sym h) at (rising-head l ls r x i)))
    down h x i (inr j) = j

    shift : l ≡ m → (x : Transition) → x ∈ ms → (x ≡ l) ⊎ (x ∈ ls) → x ∈ ls
    shift h x i (inl e) = absurd (lex_irrefl (key m) (rw (e ∙ h) at (rising-head m ms s x i)))
    shift h x i (inr j) = j

-- the transition whose output gets the number k + 1
unfoldable pub Opening : ℕ → List Transition → Type 0
Opening k ls =
    (l : Transition) × (l ∈ ls) × (opens k l ≡ true) × (l.out ≡ suc k) ×
    ((m : Transition) → m ∈ ls → opens k m ≡ true → (m ≡ l) ⊎ (precedes l m ≡ true))

pub first_opening : (k : ℕ) (ls : List Transition) → rising ls ≡ true → first_open k ls ≡ suc k →
    Opening k ls
unfolding Opening
first_opening k [] r e = absurd (omega arith)
first_opening k (l ∷ ls) r e = go (first_opening k ls (rising-tail l ls r)) (opens k l) refl e
  where
    go : (first_open k ls ≡ suc k → Opening k ls) → (b : Bool) → opens k l ≡ b →
        cond b l.out (first_open k ls) ≡ suc k → Opening k (l ∷ ls)
    go ih true o e = (l, inl refl, o, e, λ m i p. least m i)
      where
        least : (m : Transition) → m ∈ (l ∷ ls) → (m ≡ l) ⊎ (precedes l m ≡ true)
        least m (inl q) = inl q
        least m (inr i) = inr (rising-head l ls r m i)
    go ih false o e = let u = ih e in (u.0, inr u.1, u.2, u.3, least u)
      where
        least : (u : Opening k ls) → (m : Transition) → m ∈ (l ∷ ls) → opens k m ≡ true →
            (m ≡ u.0) ⊎ (precedes u.0 m ≡ true)
        least u m (inl q) p = absurd (true≢false (sym p ∙ ap (opens k) q ∙ o))
        least u m (inr i) p = u.4 m i p

-- the first transition that opens, if some transition does
pub first-open : (k : ℕ) (ls : List Transition) → rising ls ≡ true → (x : Transition) → x ∈ ls →
    opens k x ≡ true →
    (m : Transition) × (m ∈ ls) × (opens k m ≡ true) × (first_open k ls ≡ m.out) ×
    ((x ≡ m) ⊎ (precedes m x ≡ true))
first-open k [] r x i o = elim i [ ]
first-open k (l ∷ ls) r x i o = go (λ j. first-open k ls (rising-tail l ls r) x j o) (opens k l) refl i
  where
    go : (x ∈ ls →
        (m : Transition) × (m ∈ ls) × (opens k m ≡ true) × (first_open k ls ≡ m.out) ×
        ((x ≡ m) ⊎ (precedes m x ≡ true))) → (b : Bool) → opens k l ≡ b → x ∈ (l ∷ ls) →
        (m : Transition) × (m ∈ (l ∷ ls)) × (opens k m ≡ true) ×
        (cond b l.out (first_open k ls) ≡ m.out) × ((x ≡ m) ⊎ (precedes m x ≡ true))
    go ih true e (inl z) = (l, inl refl, e, refl, inl z)
    go ih true e (inr j) = (l, inl refl, e, refl, inr (rising-head l ls r x j))
    go ih false e (inl z) = absurd (true≢false (sym o ∙ ap (opens k) z ∙ e))
    go ih false e (inr j) = let u = ih j in (u.0, inr u.1, u.2, u.3, u.4)

-- in a strictly rising list a key has one transition
pub rising-one : (ls : List Transition) → rising ls ≡ true → (l m : Transition) → l ∈ ls → m ∈ ls →
    key l ≡ key m → l ≡ m
rising-one [] r l m x4 _ e = elim x4 [ ]
rising-one (x ∷ ls) r l m (inl p) (inl q) e = cc
rising-one (x ∷ ls) r l m (inl p) (inr j) e =
    absurd (lex_irrefl (key m)
    (subst (λ (y : List ℕ). lex y (key m) ≡ true) (ap key (sym p) ∙ e) (rising-head x ls r m j)))
rising-one (x ∷ ls) r l m (inr i) (inl q) e =
    absurd (lex_irrefl (key l)
    (subst (λ (y : List ℕ). lex y (key l) ≡ true) (ap key (sym q) ∙ sym e) (rising-head x ls r l i)))
rising-one (x ∷ ls) r l m (inr i) (inr j) e = rising-one ls (rising-tail x ls r) l m i j e

-- label and arguments decide the key
pub key-equal : (l m : Transition) → l.label ≡ m.label → l.args ≡ m.args → key l ≡ key m
key-equal l m p q = λ i. key (record { label = p i; args = q i; out = 0 })

pub lookup-transition : (ls : List Transition) → rising ls ≡ true → (l : Transition) → l ∈ ls →
    lookup l.label l.args ls ≡ l.out
lookup-transition ls r l i = go (lookup-in ls l i)
  where
    go : (m : Transition) × (m ∈ ls) × (m.label ≡ l.label) × (m.args ≡ l.args) ×
        (lookup l.label l.args ls ≡ m.out) → lookup l.label l.args ls ≡ l.out
    go (m, j, p, q, e) =
        e ∙ ap (λ (x : Transition). x.out) (rising-one ls r m l j i (key-equal m l p q))

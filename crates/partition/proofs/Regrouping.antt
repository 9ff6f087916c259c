-- A split by keys that states that nothing separates share keeps the parts sound, and leaves more leaders.
use mathlib.Core.Bool.{Bool, false, true}
use mathlib.Core.List.{List}
use mathlib.Core.Logic.{◌≢◌, ◌⊎◌, inl, inr}
use mathlib.Core.Path.{◌∙◌, ◌≡◌, ap, refl, subst, sym}
use Prim.Native.Nat.{◌<◌, ◌≤◌, ℕ}
use native.Mathlib.Omega.{arith}
use lib.Dec.{eqb}
use lib.ListN.{length}
use borrow.Author.Tests.{eq-eqb, eqb-false, eqb-true}
use Rattle.automata.specs.Automaton.{Automaton, states}
use Rattle.automata.specs.Distinguishable.{distinguishable}
use Rattle.lists.specs.Positions.{up_from}
use Rattle.lists.specs.Tests.{◌∈◌, filter}
use Rattle.partition.specs.Parts.{Grouped, Parts, leaders, leads, part_of}
use Rattle.partition.specs.Splits.{LeastOf, Regrouped, Shared}
use Rattle.lists.proofs.Positions.{in-up_from, up_from-in}
use Rattle.lists.proofs.Tests.{filter-in, filter-weaker, in-filter}

-- two least states of one part and key are one
least-unique : {m : List ℕ} {χ : ℕ → ℕ} {p q x y : ℕ} → part_of m p ≡ part_of m q → χ p ≡ χ q → LeastOf m χ p x →
    LeastOf m χ q y → x ≡ y
least-unique {m} {χ} {p} {q} {x} {y} e f a b =
    let u : x < y → ⊥ = λ h. b.least x h (a.part ∙ e) (a.key ∙ f) in
    let v : y < x → ⊥ = λ h. a.least y h (b.part ∙ sym e) (b.key ∙ sym f) in
    omega (arith, u, v)

module _ {n : ℕ} {χ : ℕ → ℕ} {m m' : List ℕ} {b : Bool} (g : Grouped n m) (r : Regrouped n χ m m' b) where
  -- q has its leader's key, or not
  abbrev Keeps : ℕ → Type 0
  Keeps q = (χ q ≡ χ (part_of m q)) ⊎ (χ q ≢ χ (part_of m q))

  keeps : (q : ℕ) → Keeps q
  keeps q = go (eqb (χ q) (χ (part_of m q))) refl
    where
      go : (t : Bool) → eqb (χ q) (χ (part_of m q)) ≡ t → Keeps q
      go true e = inl (eqb-true _ _ e)
      go false e = inr (eqb-false _ _ e)

  -- a leader stays
  leader-stays : (q : ℕ) → q ≤ n → part_of m q ≡ q → part_of m' q ≡ q
  leader-stays q h e = (r.moved q h).stays (ap χ (sym e)) ∙ e

  -- the new leader is of the old part
  old-part : (q : ℕ) → q ≤ n → part_of m (part_of m' q) ≡ part_of m q
  old-part q h = go (keeps q)
    where
      go : Keeps q → part_of m (part_of m' q) ≡ part_of m q
      go (inl e) = ap (part_of m) ((r.moved q h).stays e) ∙ g.own q h
      go (inr e) = ((r.moved q h).leaves e).part

  new-below : (q : ℕ) → q ≤ n → part_of m' q ≤ q
  new-below q h = go (keeps q)
    where
      go : Keeps q → part_of m' q ≤ q
      go (inl e) = omega (arith, (r.moved q h).stays e, g.below q h)
      go (inr e) = ((r.moved q h).leaves e).within

  -- the least state of a part and key that is not the leader's leaves as well, to itself
  least-leads : (q x : ℕ) → q ≤ n → χ q ≢ χ (part_of m q) → LeastOf m χ q x → part_of m' x ≡ x
  least-leads q x h e l =
      least-unique l.part l.key ((r.moved x (omega (arith, l.within))).leaves away) l
    where
      away : χ x ≢ χ (part_of m x)
      away d = e (sym l.key ∙ d ∙ ap χ l.part)

  new-own : (q : ℕ) → q ≤ n → part_of m' (part_of m' q) ≡ part_of m' q
  new-own q h = go (keeps q)
    where
      go : Keeps q → part_of m' (part_of m' q) ≡ part_of m' q
      go (inl e) =
          let s = (r.moved q h).stays e in
          ap (part_of m') s ∙ leader-stays (part_of m q) (omega (arith, g.below q h)) (g.own q h) ∙ sym s
      go (inr e) = least-leads q (part_of m' q) h e ((r.moved q h).leaves e)

  new-some : (q : ℕ) → 1 ≤ q → q ≤ n → 1 ≤ part_of m' q
  new-some q a h = go (eqb (part_of m' q) 0) refl
    where
      go : (t : Bool) → eqb (part_of m' q) 0 ≡ t → 1 ≤ part_of m' q
      go true e =
          absurd (let z = sym (old-part q h) ∙ ap (part_of m) (eqb-true _ _ e) ∙ g.none in
          omega (arith, z, g.some q a h))
      go false e = let ne : part_of m' q ≢ 0 = eqb-false _ _ e in omega (arith, ne)

  pub regrouped-grouped : Grouped n m'
  regrouped-grouped = record {
    size = r.size ∙ g.size;
    few = g.few;
    none = leader-stays 0 (omega arith) g.none;
    some = new-some;
    below = new-below;
    own = new-own;
  }

  pub regrouped-finer : (p q : ℕ) → p ≤ n → q ≤ n → part_of m' p ≡ part_of m' q → part_of m p ≡ part_of m q
  regrouped-finer p q h l e = sym (old-part p h) ∙ ap (part_of m) e ∙ old-part q l

  -- states of a new part have one key
  pub regrouped-key : (q : ℕ) → q ≤ n → χ q ≡ χ (part_of m' q)
  regrouped-key q h = go (keeps q)
    where
      go : Keeps q → χ q ≡ χ (part_of m' q)
      go (inl e) = e ∙ ap χ (sym ((r.moved q h).stays e))
      go (inr e) = sym ((r.moved q h).leaves e).key

  -- what the old part and the key have in common, the new part has
  regrouped-same : (p q : ℕ) → p ≤ n → q ≤ n → part_of m p ≡ part_of m q → χ p ≡ χ q → part_of m' p ≡ part_of m' q
  regrouped-same p q h l e f = go (keeps p) (keeps q)
    where
      go : Keeps p → Keeps q → part_of m' p ≡ part_of m' q
      go (inl x) (inl y) = (r.moved p h).stays x ∙ e ∙ sym ((r.moved q l).stays y)
      go (inl x) (inr y) = absurd (y (sym f ∙ x ∙ ap χ e))
      go (inr x) (inl y) = absurd (x (f ∙ y ∙ ap χ (sym e)))
      go (inr x) (inr y) = least-unique e f ((r.moved p h).leaves x) ((r.moved q l).leaves y)

  pub regrouped-sound : (A : Automaton) → states A ≡ n → Shared A χ →
      ((p q : ℕ) → p ≤ states A → q ≤ states A → (distinguishable A p q ≡ true → ⊥) → part_of m p ≡ part_of m q) →
      (p q : ℕ) → p ≤ states A → q ≤ states A → (distinguishable A p q ≡ true → ⊥) → part_of m' p ≡ part_of m' q
  regrouped-sound A many share sound p q h l d =
      regrouped-same p q (omega (arith, many)) (omega (arith, many)) (sound p q h l d) (share p q h l d)

  pub regrouped-parts : (A : Automaton) → states A ≡ n → Shared A χ → Parts A m → Parts A m'
  regrouped-parts A many share parts = record {
    class = λ p q h l e.
        parts.class p q h l (regrouped-finer p q (omega (arith, many)) (omega (arith, many)) e);
    sound = regrouped-sound A many share parts.sound;
  }

  -- if a state leaves there is one leader more: the least that leaves with its key
  pub regrouped-more : b ≡ true → leaders m n < leaders m' n
  unfolding leaders
  regrouped-more y =
      go (filter-weaker (leads m) (leads m') (up_from 1 n)
      (λ x i e. eq-eqb _ _ (leader-stays x (omega (arith, up_from-in 1 n x i)) (eqb-true _ _ e))))
    where
      go : (filter (leads m) (up_from 1 n) ≡ filter (leads m') (up_from 1 n)) ⊎
          (length (filter (leads m) (up_from 1 n)) < length (filter (leads m') (up_from 1 n))) →
          length (filter (leads m) (up_from 1 n)) < length (filter (leads m') (up_from 1 n))
      go (inr h) = h
      go (inl e) =
          let (q, a, h, d) = r.some y in
          let l = (r.moved q h).leaves d in
          let x = part_of m' q in
          let there = in-filter (leads m') (up_from 1 n) (part_of m' q)
          (in-up_from 1 n (part_of m' q) (new-some q a h) (omega (arith, l.within)))
          (eq-eqb _ _ (least-leads q (part_of m' q) h d l)) in
          let back = filter-in (leads m) (up_from 1 n) (part_of m' q)
          (subst (λ (xs : List ℕ). part_of m' q ∈ xs) (sym e) there) in
          absurd (d (sym l.key ∙ ap χ (sym (eqb-true _ _ back.1) ∙ l.part)))

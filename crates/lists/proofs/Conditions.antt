-- No condition is broken exactly when all hold; of two lists, the first decides unless all of it holds.
use mathlib.Core.Bool.{Bool, cond, false, true}
use mathlib.Core.List.{List, [], ◌++◌, ◌∷◌}
use mathlib.Core.Logic.{◌≢◌}
use mathlib.Core.Path.{◌∙◌, ◌≡◌, refl, sym}
use Prim.Native.Nat.{◌≤◌, ℕ}
use native.Mathlib.Omega.{arith}
use lib.Dec.{eqb}
use borrow.Author.Tests.{eq-eqb, ne_eqb}
use Rattle.lists.specs.Conditions.{Condition, first_broken}

-- every condition holds
abbrev pub AllHold : List Condition → Type 0
AllHold [] = Unit {0}
AllHold (c ∷ cs) = (c.holds ≡ true) × AllHold cs

-- refusals are numbered from 1
abbrev pub FromOne : List Condition → Type 0
FromOne [] = Unit {0}
FromOne (c ∷ cs) = (1 ≤ c.refusal) × FromOne cs

pub hold-unbroken : (cs : List Condition) → AllHold cs → first_broken cs ≡ 0
hold-unbroken [] h = refl
hold-unbroken (c ∷ cs) h = rw h.0 (hold-unbroken cs h.1)

pub unbroken-hold : (cs : List Condition) → FromOne cs → first_broken cs ≡ 0 → AllHold cs
unbroken-hold [] n e = tt
unbroken-hold (c ∷ cs) n e = go c.holds refl (unbroken-hold cs n.1) e
  where
    go : (b : Bool) → c.holds ≡ b → (first_broken cs ≡ 0 → AllHold cs) →
        cond b (first_broken cs) c.refusal ≡ 0 → (c.holds ≡ true) × AllHold cs
    go true h ih e = (h, ih e)
    go false h ih e = absurd (omega (arith, n.0))

-- conditions that hold may be left out
pub hold-first : (cs ds : List Condition) → AllHold cs → first_broken (cs ++ ds) ≡ first_broken ds
hold-first [] ds h = refl
hold-first (c ∷ cs) ds h = rw h.0 (hold-first cs ds h.1)

-- a list and what follows it: the first decides unless all of it holds
pub first_broken-append : (cs ds : List Condition) → FromOne cs →
    first_broken (cs ++ ds) ≡ cond (eqb (first_broken cs) 0) (first_broken ds) (first_broken cs)
first_broken-append [] ds n = refl
first_broken-append (c ∷ cs) ds n = go c.holds (first_broken-append cs ds n.1)
  where
    go : (b : Bool) → first_broken (cs ++ ds) ≡ cond (eqb (first_broken cs) 0) (first_broken ds) (first_broken cs) →
        cond b (first_broken (cs ++ ds)) c.refusal ≡
        cond (eqb (cond b (first_broken cs) c.refusal) 0) (first_broken ds) (cond b (first_broken cs) c.refusal)
    go true ih = ih
    go false ih = rw (ne_eqb c.refusal 0 (λ e. omega (arith, n.0)))

-- conditions that hold may follow
pub hold-last : (cs ds : List Condition) → AllHold ds → first_broken (cs ++ ds) ≡ first_broken cs
hold-last [] ds h = hold-unbroken ds h
hold-last (c ∷ cs) ds h = rw (hold-last cs ds h)

-- only what is first broken of the second list matters
pub append-same : (cs ds es : List Condition) → first_broken ds ≡ first_broken es →
    first_broken (cs ++ ds) ≡ first_broken (cs ++ es)
append-same [] ds es e = e
append-same (c ∷ cs) ds es e = rw (append-same cs ds es e)

-- the first of two lists that hold together holds
pub hold-append : (cs ds : List Condition) → AllHold (cs ++ ds) → AllHold cs × AllHold ds
hold-append [] ds h = (tt, h)
hold-append (c ∷ cs) ds h = let r = hold-append cs ds h.1 in ((h.0, r.0), r.1)

pub from-one-append : (cs ds : List Condition) → FromOne cs → FromOne ds → FromOne (cs ++ ds)
from-one-append [] ds m n = n
from-one-append (c ∷ cs) ds m n = (m.0, from-one-append cs ds m.1 n)

-- ---- the number that two lists give

module _ (cs ds : List Condition) (from : FromOne cs) {r : ℕ} (e : r ≡ first_broken cs) where
  pub append-broken : r ≢ 0 → r ≡ first_broken (cs ++ ds)
  append-broken n =
      let z : eqb (first_broken cs) 0 ≡ false = ne_eqb (first_broken cs) 0 (λ d. n (e ∙ d)) in
      rw (first_broken-append cs ds from, z) e

  pub append-unbroken : r ≡ 0 → {q : ℕ} → q ≡ first_broken ds → q ≡ first_broken (cs ++ ds)
  append-unbroken z f =
      let y : eqb (first_broken cs) 0 ≡ true = eq-eqb (first_broken cs) 0 (sym e ∙ z) in
      rw (first_broken-append cs ds from, y) f

-- ---- numbers

-- refusals are numbered up to k
abbrev pub AtMost : ℕ → List Condition → Type 0
AtMost k [] = Unit {0}
AtMost k (c ∷ cs) = (c.refusal ≤ k) × AtMost k cs

pub at-most-append : (k : ℕ) (cs ds : List Condition) → AtMost k cs → AtMost k ds → AtMost k (cs ++ ds)
at-most-append k [] ds h l = l
at-most-append k (c ∷ cs) ds h l = (h.0, at-most-append k cs ds h.1 l)

pub broken-at-most : (k : ℕ) (cs : List Condition) → AtMost k cs → first_broken cs ≤ k
broken-at-most k [] h = omega arith
broken-at-most k (c ∷ cs) h = go c.holds (broken-at-most k cs h.1)
  where
    go : (b : Bool) → first_broken cs ≤ k → cond b (first_broken cs) c.refusal ≤ k
    go true l = l
    go false l = h.0

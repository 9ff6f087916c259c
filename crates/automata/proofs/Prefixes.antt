-- The first k of an order of states are those with numbers up to k.
use mathlib.Core.Bool.{Bool, false, false≢true, not, true}
use mathlib.Core.List.{List, [], ◌∷◌, map}
use mathlib.Core.Path.{◌∙◌, ◌≡◌, ap, refl, sym}
use Prim.Native.Nat.{ℕ}
use native.Mathlib.Omega.{arith}
use lib.Dec.{eqb, leb, ltb}
use lib.ListN.{take}
use borrow.Author.Tests.{le-leb, leb-true, ltb-false, ltb-true}
use Rattle.automata.specs.Automaton.{Transition}
use Rattle.automata.specs.Numbered.{opens}
use Rattle.automata.specs.Order.{key}
use Rattle.automata.specs.Renumber.{number_of, ready, renumber}
use Rattle.lists.specs.Closure.{elem}
use Rattle.lists.specs.Tests.{every}
use Rattle.automata.proofs.Numbers.{le-number, number-le, number-pos, number-prefix}
use Rattle.automata.proofs.Order.{key-equal}
use Rattle.lists.proofs.Tests.{and_both, and_left, and_right}

pub args-le : (O : List ℕ) (k : ℕ) (qs : List ℕ) → every (λ q. elem eqb q (take k O)) qs ≡ true →
    every (λ q. leb q k) (map (number_of O) qs) ≡ true
args-le O k [] e = refl
args-le O k (q ∷ qs) e =
    and_both (le-leb (number_of O q) k (number-le k O q (and_left _ _ e)))
    (args-le O k qs (and_right (elem eqb q (take k O)) _ e))

pub le-args : (O : List ℕ) (k : ℕ) (qs : List ℕ) → every (λ q. elem eqb q O) qs ≡ true →
    every (λ q. leb q k) (map (number_of O) qs) ≡ true → every (λ q. elem eqb q (take k O)) qs ≡ true
le-args O k [] d e = refl
le-args O k (q ∷ qs) d e =
    and_both (le-number k O q (number-pos O q (and_left _ _ d))
    (leb-true (number_of O q) k (and_left _ _ e)))
    (le-args O k qs (and_right (elem eqb q O) _ d) (and_right (leb (number_of O q) k) _ e))

pub args-same : (O : List ℕ) (k : ℕ) (qs : List ℕ) → every (λ q. elem eqb q (take k O)) qs ≡ true →
    map (number_of (take k O)) qs ≡ map (number_of O) qs
args-same O k [] e = refl
args-same O k (q ∷ qs) e =
    cc (number-prefix k O q (and_left _ _ e), args-same O k qs (and_right (elem eqb q (take k O)) _ e))

pub key-same : (O : List ℕ) (k : ℕ) (l : Transition) → ready (take k O) l ≡ true →
    key (renumber (take k O) l) ≡ key (renumber O l)
key-same O k l r =
    key-equal (renumber (take k O) l) (renumber O l) refl
    (args-same O k l.args
    (and_left (every (λ q. elem eqb q (take k O)) l.args) (not (elem eqb l.out (take k O))) r))

pub out-above : (O : List ℕ) (k q : ℕ) → elem eqb q O ≡ true → not (elem eqb q (take k O)) ≡ true →
    ltb k (number_of O q) ≡ true
out-above O k q m e = go (ltb k (number_of O q)) refl
  where
    go : (b : Bool) → ltb k (number_of O q) ≡ b → b ≡ true
    go true h = refl
    go false h =
        absurd (false≢true
        (sym (ap not (le-number k O q (number-pos O q m) (ltb-false k (number_of O q) h))) ∙ e))

pub above-out : (O : List ℕ) (k q : ℕ) → ltb k (number_of O q) ≡ true → not (elem eqb q (take k O)) ≡ true
above-out O k q h = go (elem eqb q (take k O)) refl
  where
    go : (b : Bool) → elem eqb q (take k O) ≡ b → not b ≡ true
    go true e = absurd (omega (arith, number-le k O q e, ltb-true k (number_of O q) h))
    go false e = refl

-- the transitions that open the number k + 1 are those that were ready at k
pub ready-opens : (O : List ℕ) (k : ℕ) (l : Transition) → elem eqb l.out O ≡ true → ready (take k O) l ≡ true →
    opens k (renumber O l) ≡ true
ready-opens O k l p r =
    and_both (args-le O k l.args (and_left _ _ r))
    (out-above O k l.out p (and_right (every (λ q. elem eqb q (take k O)) l.args) _ r))

pub opens-ready : (O : List ℕ) (k : ℕ) (l : Transition) → every (λ q. elem eqb q O) l.args ≡ true →
    opens k (renumber O l) ≡ true → ready (take k O) l ≡ true
opens-ready O k l p o =
    and_both (le-args O k l.args p (and_left _ (ltb k (number_of O l.out)) o))
    (above-out O k l.out (and_right (every (λ q. leb q k) (map (number_of O) l.args)) _ o))

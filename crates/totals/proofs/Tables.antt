-- Tables of numbers of states: what is read from one, and what a write leaves.
use mathlib.Core.Bool.{◌&&◌, Bool, false≢true, true}
use mathlib.Core.List.{List}
use mathlib.Core.Path.{◌∙◌, ◌≡◌, ap, refl, subst}
use Prim.Native.Nat.{◌+◌, ◌<◌, ◌≤◌, suc, zero, ℕ}
use native.Mathlib.Omega.{arith}
use lib.ListN.{drop, get_or, length, length-set, replicate, set, take}
use lib.Pointwise.{pointwise}
use lib.Seq.{drop-cons, get_or-set_other, get_or-set_same}
use borrow.Author.Tests.{eqb-true}
use Rattle.std.proofs.lemmas.List.{get_or-replicate}
use Rattle.std.specs.Option.{option_eq}
use Rattle.std.specs.Prelude.{nat_eq}
use Rattle.std.specs.declared.option.Option.{Option}
use Rattle.std.specs.declared.option.Option.TheVariants.{None, Some}
use Rattle.format.specs.Format.{byte_values}
use Rattle.lists.specs.Positions.{up_from}
use Rattle.lists.specs.Tests.{every}
use Rattle.totals.specs.Limited.{total_of, worth}
use Rattle.totals.specs.Numbers.{Added, Put, number_in, same_in}
use Rattle.totals.proofs.Limits.{worth-total}

pub number-at : (m : List (Option ℕ)) (q : ℕ) → worth (get_or m q None) ≡ number_in m q
unfolding number_in
number-at m q = refl

pub number-none : (q : ℕ) → q < byte_values → number_in (replicate byte_values (Some 0)) q ≡ 0
unfolding number_in
number-none q h = ap worth (get_or-replicate byte_values q (Some 0) None h)

-- v is written for state q
pub put-entry : (m : List (Option ℕ)) (q : ℕ) (v : Option ℕ) → length m ≡ byte_values → q < byte_values →
    Put q (worth v) m (set m q v)
unfolding number_in
put-entry m q v size h = record {
  size = length-set m q v ∙ size;
  here = ap worth (get_or-set_same m q v None (omega arith));
  elsewhere = λ p d. ap worth (get_or-set_other m q p v None d);
}

-- state q gets the sum of its number and y
pub put-sum : (y : ℕ) (m : List (Option ℕ)) (q : ℕ) {v : Option ℕ} → length m ≡ byte_values → q < byte_values →
    v ≡ total_of (number_in m q + y) → Added q y m (set m q v)
put-sum y m q {v} size h e =
    subst (λ (u : ℕ). Put q u m (set m q v)) (ap worth e ∙ worth-total (number_in m q + y)) (put-entry m q v size h)

pub same_numbers : (a b : List (Option ℕ)) (q : ℕ) → same_in a b q ≡ true → number_in a q ≡ number_in b q
unfolding number_in
same_numbers a b q e = same (get_or a q None) (get_or b q None) e
  where
    same : (r s : Option ℕ) → option_eq nat_eq r s ≡ true → worth r ≡ worth s
    same None None e = refl
    same None (Some y) e = absurd (false≢true e)
    same (Some x) None e = absurd (false≢true e)
    same (Some x) (Some y) e = eqb-true x y e

-- comparing the entries of two parts of a length from state k on compares the states one by one
pub same-part : (a b : List (Option ℕ)) (k n : ℕ) → k + n ≤ length a → k + n ≤ length b →
    pointwise (option_eq nat_eq) (take n (drop k a)) (take n (drop k b)) ≡ every (same_in a b) (up_from k n)
same-part a b k zero h g = refl
same-part a b k (suc n) h g =
    rw (drop-cons a k None (omega arith), drop-cons b k None (omega arith))
    (ap (λ (r : Bool). same_in a b k && r) (same-part a b (suc k) n (omega arith) (omega arith)))

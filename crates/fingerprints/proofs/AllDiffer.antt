-- What follows if all fingerprints differ.
use Rattle.std.proofs.Common.{◌≡◌, ℕ, ◌-◌, ◌<◌, ◌≤◌, Bool, true, false, not, ltb, ◌≢◌, List, sym, refl, ap, ◌∙◌, arith, ltb-false, ltb-true, eq-eqb}
use mathlib.Core.Bool.{false≢true}
use Rattle.fingerprints.specs.Fingerprints.{all_differ, differs, differs_below, print_of}
use Rattle.lists.proofs.Intervals.{every-at}

-- different states differ
module _ (m : List ℕ) (n : ℕ) (e : all_differ m n ≡ true) where
  above : (p q : ℕ) → 1 ≤ p → p < q → q ≤ n → print_of m p ≢ print_of m q
  unfolding all_differ
  above p q a b c f =
      let r = every-at (differs_below m) 1 n e q (omega arith) (omega arith) in
      let d = every-at (differs m q) 1 (q - 1) r p a (omega arith) in
      false≢true (sym (ap not (eq-eqb (print_of m q) (print_of m p) (sym f))) ∙ d)

  pub differ-apart : (p q : ℕ) → 1 ≤ p → p ≤ n → 1 ≤ q → q ≤ n → p ≢ q → print_of m p ≢ print_of m q
  differ-apart p q a b c d k = go (ltb p q) refl
    where
      go : (t : Bool) → ltb p q ≡ t → print_of m p ≢ print_of m q
      go true f = above p q a (ltb-true p q f) d
      go false f = λ g. above q p c (omega (arith, ltb-false p q f)) b (sym g)

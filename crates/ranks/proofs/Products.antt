-- Products over states, one more at the front at a time.
use mathlib.Core.List.{List, [], ◌∷◌, map}
use mathlib.Core.Path.{◌∙◌, ◌≡◌, ap, sym}
use Prim.Native.Nat.{◌*◌, ◌+◌, ◌-◌, ◌<◌, ◌≤◌, suc, zero, ℕ}
use native.Mathlib.Nat.{mul_comm}
use native.Mathlib.Omega.{arith}
use lib.ListN.{drop, drop_of_length-le, get_or, length}
use lib.Seq.{drop-cons}
use Rattle.std.specs.declared.option.Option.{Option}
use Rattle.std.specs.declared.option.Option.TheVariants.{Some}
use Rattle.automata.specs.Totals.{product_over}
use Rattle.lists.specs.Positions.{up_from}
use Rattle.lists.proofs.Loops.{up_from-next, up_from-none}
use Rattle.totals.specs.Limited.{total_of, worth}
use Rattle.totals.proofs.Limits.{total-is, total-times-by}

-- r is the product over some states
pub record Product (w : ℕ → ℕ) (qs : List ℕ) (r : Option ℕ) : Type 0 where
  pub is : r ≡ total_of (product_over w qs)

module _ {w : ℕ → ℕ} where
  none : {qs : List ℕ} → qs ≡ [] → Product w qs (Some 1)
  none e = record { is = total-is (ap (product_over w) (sym e)) (rw e (omega arith)) }

  -- t is the number of the state before them
  more : {qs ps : List ℕ} {q t : ℕ} {r r' : Option ℕ} → Product w qs r → ps ≡ q ∷ qs → t ≡ w q →
      r' ≡ total_of (t * worth r) → Product w ps r'
  more {qs} {ps} {q} {t} {r} x e f g = record {
    is =
        g ∙ ap total_of (mul_comm t (worth r)) ∙ total-times-by (product_over w qs) t x.is
        ∙ ap total_of (mul_comm (product_over w qs) t) ∙ ap (λ (n : ℕ). total_of (n * product_over w qs)) f
        ∙ ap (λ (l : List ℕ). total_of (product_over w l)) (sym e);
  }

-- ---- states by index, from k up to n

pub record ProductFrom (w f : ℕ → ℕ) (n k : ℕ) (r : Option ℕ) : Type 0 where
  pub within : k ≤ n
  pub product : Product w (map f (up_from k (n - k))) r

module _ {w f : ℕ → ℕ} {n : ℕ} where
  pub from_start : {k : ℕ} → k ≡ n → ProductFrom w f n k (Some 1)
  from_start {k} e = record { within = omega arith; product = none (ap (map f) (up_from-none k n (omega arith))) }

  -- t is the number of the state before place k
  pub from_next : {k t : ℕ} {r r' : Option ℕ} → ProductFrom w f n k r → 0 < k → t ≡ w (f (k - 1)) →
      r' ≡ total_of (t * worth r) → ProductFrom w f n (k - 1) r'
  from_next {k} x l e g =
      let z : k - 1 + 1 ≡ k = omega arith in
      record {
        within = omega (arith, x.within);
        product =
            more x.product (ap (map f) (up_from-next (k - 1) n (omega (arith, x.within)))
            ∙ ap (λ (j : ℕ). f (k - 1) ∷ map f (up_from j (n - j))) z)
            e g;
      }

  pub from_end : {k from : ℕ} {r : Option ℕ} → ProductFrom w f n k r → k ≡ from →
      r ≡ total_of (product_over w (map f (up_from from (n - from))))
  from_end x e = x.product.is ∙ ap (λ (k : ℕ). total_of (product_over w (map f (up_from k (n - k))))) e

-- the states on a stack from index k on, read one by one
on-stack : (stack : List ℕ) (k n : ℕ) → k + n ≡ length stack →
    map (λ (j : ℕ). get_or stack j 0) (up_from k n) ≡ drop k stack
on-stack stack k zero e = sym (drop_of_length-le stack {i = k} (omega arith))
on-stack stack k (suc n) e =
    ap (λ (l : List ℕ). get_or stack k 0 ∷ l) (on-stack stack (suc k) n (omega arith))
    ∙ sym (drop-cons stack k 0 (omega arith))

-- the product over states that are read one by one is the product over what the stack has from an index on
pub over-stack : (w : ℕ → ℕ) (stack : List ℕ) (k n : ℕ) {r : Option ℕ} →
    r ≡ total_of (product_over w (map (λ (j : ℕ). get_or stack j 0) (up_from k n))) → k + n ≡ length stack →
    r ≡ total_of (product_over w (drop k stack))
over-stack w stack k n f e = f ∙ ap (λ (qs : List ℕ). total_of (product_over w qs)) (on-stack stack k n e)

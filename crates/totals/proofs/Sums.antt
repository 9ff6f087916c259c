-- Products over arguments and sums over transitions, one more at a time.
use mathlib.Core.Bool.{Bool, cond, false, true}
use mathlib.Core.List.{List, [], ◌++◌, ◌∷◌, map}
use mathlib.Core.Path.{◌∙◌, ◌≡◌, ap, refl, subst, sym}
use Prim.Native.Nat.{◌*◌, ◌+◌, ◌<◌, ◌≤◌, min, suc, ℕ}
use native.Mathlib.Nat.{mul_assoc, mul-one, one-mul}
use native.Mathlib.Numerals.{add-one}
use native.Mathlib.Omega.{arith}
use lib.Dec.{eqb}
use lib.ListN.{length, length-replicate, replicate}
use borrow.Author.Tests.{eqb-false, eqb-true}
use Rattle.std.specs.declared.option.Option.{Option}
use Rattle.std.specs.declared.option.Option.TheVariants.{Some}
use Rattle.automata.specs.Automaton.{Transition}
use Rattle.automata.specs.Totals.{product_over, sum_into}
use Rattle.fields.proofs.Transitions.{transitions_in-suc}
use Rattle.format.specs.Format.{byte_values}
use Rattle.lists.specs.Positions.{up_from}
use Rattle.lists.proofs.Intervals.{tabulated-suc}
use Rattle.table.specs.Layout.{arg_of, arity_of, nth_transition, transition_at, transitions_in}
use Rattle.totals.specs.Limited.{limit, total_of, worth}
use Rattle.totals.specs.Numbers.{Added, Put, Sums, number_in}
use Rattle.totals.proofs.Limits.{total-is, total-times-by, worth-total}
use Rattle.totals.proofs.Tables.{number-none}

-- ---- the product over the arguments of a transition

product-last : (w : ℕ → ℕ) (qs : List ℕ) (q : ℕ) → product_over w (qs ++ (q ∷ [])) ≡ product_over w qs * w q
product-last w [] q = mul-one (w q) ∙ sym (one-mul (w q))
product-last w (p ∷ qs) q =
    ap (λ (x : ℕ). w p * x) (product-last w qs q) ∙ sym (mul_assoc (w p) (product_over w qs) (w q))

-- r is the product over the arguments before place k of the transition that starts at a byte
pub record ProductTo (w : ℕ → ℕ) (s : List ℕ) (at k : ℕ) (r : Option ℕ) : Type 0 where
  pub within : k ≤ arity_of s at
  pub so_far : r ≡ total_of (product_over w (map (arg_of s at) (up_from 0 k)))

module _ {w : ℕ → ℕ} {s : List ℕ} {at : ℕ} where
  pub product-start : ProductTo w s at 0 (Some 1)
  product-start = record { within = omega arith; so_far = total-is refl (omega arith) }

  -- t is the number of argument k
  pub product-next : {k t : ℕ} {r r' : Option ℕ} → ProductTo w s at k r → k < arity_of s at → t ≡ w (arg_of s at k) →
      r' ≡ total_of (worth r * t) → ProductTo w s at (k + 1) r'
  product-next {k} {t} {r} {r'} x h e g = record {
    within = omega arith;
    so_far =
        g ∙ total-times-by (product_over w (map (arg_of s at) (up_from 0 k))) t x.so_far
        ∙ ap (λ (y : ℕ). total_of (product_over w (map (arg_of s at) (up_from 0 k)) * y)) e
        ∙ ap total_of (sym (product-last w (map (arg_of s at) (up_from 0 k)) (arg_of s at k)))
        ∙ ap (λ (qs : List ℕ). total_of (product_over w qs)) (sym longer);
  }
    where
      longer : map (arg_of s at) (up_from 0 (k + 1)) ≡ map (arg_of s at) (up_from 0 k) ++ (arg_of s at k ∷ [])
      longer =
          let d : k + 1 ≡ suc k = omega arith in
          let z : 0 + k ≡ k = omega arith in
          ap (λ (n : ℕ). map (arg_of s at) (up_from 0 n)) d ∙ tabulated-suc (arg_of s at) 0 k
          ∙ ap (λ (j : ℕ). map (arg_of s at) (up_from 0 k) ++ (arg_of s at j ∷ [])) z

  pub product-end : {k : ℕ} {r : Option ℕ} → ProductTo w s at k r → arity_of s at ≤ k →
      r ≡ total_of (product_over w (transition_at s at).args)
  product-end {k} x h =
      let e : k ≡ arity_of s at = omega (arith, x.within) in
      x.so_far ∙ ap (λ (n : ℕ). total_of (product_over w (map (arg_of s at) (up_from 0 n)))) e

-- ---- the sums over transitions

sum-last : (w : ℕ → ℕ) (q : ℕ) (τs : List Transition) (τ : Transition) →
    sum_into w q (τs ++ (τ ∷ [])) ≡ sum_into w q τs + cond (eqb τ.out q) (product_over w τ.args) 0
sum-last w q [] τ = omega arith
sum-last w q (σ ∷ τs) τ = omega (arith, sum-last w q τs τ)

pub sums-start : {w : ℕ → ℕ} (s : List ℕ) {m : List (Option ℕ)} → m ≡ replicate byte_values (Some 0) →
    Sums w (transitions_in s 0) m
unfolding transitions_in
sums-start {w} s e = record {
  size = ap length e ∙ length-replicate {A = Option ℕ} byte_values (Some 0);
  each = λ q h. ap (λ m. number_in m q) e ∙ number-none q h;
}

-- t is the product x that is added to the sum of state o
pub put-product : (x : ℕ) {o q : ℕ} {t : Option ℕ} {m m' : List (Option ℕ)} → Added o (worth t) m m' →
    o ≡ q → t ≡ total_of x → Added q x m m'
put-product x {o} {q} {t} {m} {m'} p e f =
    subst (λ (o : ℕ). Added o x m m') e
    (subst (λ (v : ℕ). Put o v m m') (omega (arith, ap worth f, worth-total x)) p)

sums-more : {w : ℕ → ℕ} {τs : List Transition} {m m' : List (Option ℕ)} (τ : Transition) → Sums w τs m →
    Added τ.out (product_over w τ.args) m m' → Sums w (τs ++ (τ ∷ [])) m'
sums-more {w} {τs} {m} {m'} τ x p = record { size = p.size; each = λ q l. go q l (eqb τ.out q) refl }
  where
    go : (q : ℕ) → q < byte_values → (b : Bool) → eqb τ.out q ≡ b →
        number_in m' q ≡ min limit (sum_into w q (τs ++ (τ ∷ [])))
    go q l true e =
        let d = eqb-true τ.out q e in
        let f = x.each q l in
        let g : sum_into w q (τs ++ (τ ∷ [])) ≡ sum_into w q τs + product_over w τ.args = sum-last w q τs τ ∙ rw e in
        ap (number_in m') (sym d) ∙ p.here
        ∙ ap (λ (o : ℕ). min limit (number_in m o + product_over w τ.args)) d ∙ omega arith
    go q l false e =
        p.elsewhere q (λ d. eqb-false τ.out q e (sym d)) ∙ x.each q l
        ∙ ap (min limit) (sym (sum-last w q τs τ ∙ rw e (omega arith)))

-- the product of transition i is added
pub sums_next : (s : List ℕ) (i : ℕ) {w : ℕ → ℕ} {m m' : List (Option ℕ)} → Sums w (transitions_in s i) m →
    Added (nth_transition s i).out (product_over w (nth_transition s i).args) m m' → Sums w (transitions_in s (i + 1)) m'
sums_next s i {w} {m} {m'} x p =
    subst (λ (τs : List Transition). Sums w τs m')
    (sym (ap (transitions_in s) (add-one i) ∙ transitions_in-suc s i)) (sums-more (nth_transition s i) x p)

pub sums-end : (s : List ℕ) (i n : ℕ) {w : ℕ → ℕ} {m : List (Option ℕ)} → Sums w (transitions_in s i) m → i ≡ n →
    Sums w (transitions_in s n) m
sums-end s i n {w} {m} x e = subst (λ (n : ℕ). Sums w (transitions_in s n) m) e x

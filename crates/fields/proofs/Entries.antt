-- The fields of an entry: an argument put alone, and the transition that they make.
use mathlib.Core.Bool.{Bool, cond, false, true}
use mathlib.Core.List.{List, map}
use mathlib.Core.Path.{◌∙◌, ◌≡◌, ap, ap₂, refl}
use Prim.Native.Nat.{◌+◌, ◌<◌, ◌≤◌, suc, zero, ℕ}
use native.Mathlib.Omega.{arith}
use lib.Dec.{eqb}
use lib.ListN.{get_or, length, length-set, set}
use lib.Seq.{get_or-set_other, get_or-set_same}
use borrow.Author.Tests.{eq-eqb, eqb-false, eqb-true, ne_eqb}
use Rattle.fields.specs.Entries.{HasFields, put_at}
use Rattle.format.specs.Format.{args_at, arity_at, label_bytes, label_from, max_arity}
use Rattle.format.specs.Format.{out_at, transition_bytes}
use Rattle.lists.specs.Positions.{up_from}
use Rattle.table.specs.Layout.{arg_of, arity_of, label_of, out_of, transition_at}

pub map-up_from : (f g : ℕ → ℕ) (k n : ℕ) → ((i : ℕ) → k ≤ i → i < k + n → f i ≡ g i) →
    map f (up_from k n) ≡ map g (up_from k n)
map-up_from f g k zero h = refl
map-up_from f g k (suc n) h =
    cc (
      h k (omega arith) (omega arith),
      map-up_from f g (suc k) n (λ i a b. h i (omega arith) (omega arith)),
    )

-- ---- an argument put

module _ (e : List ℕ) (v : ℕ) (size : length e ≡ transition_bytes) where
  -- a field after the label is put
  label_kept : (j : ℕ) → label_bytes ≤ j → label_of (set e j v) 0 ≡ label_of e 0
  label_kept j m =
      ap₂ label_from (get_or-set_other e j 0 v 0 (λ d. omega arith)) (get_or-set_other e j 1 v 0 (λ d. omega arith))

  pub arg-put : (j : ℕ) → j < max_arity →
      HasFields (set e (args_at + j) v) (label_of e 0) (arity_of e 0) (put_at (arg_of e 0) j v) (out_of e 0)
  unfolding put_at
  arg-put j l = record {
    size = length-set e (args_at + j) v ∙ size;
    label = label_kept (args_at + j) (omega arith);
    arity = get_or-set_other e (args_at + j) arity_at v 0 (λ d. omega arith);
    arg = λ k h. go k h (eqb k j) refl;
    out = get_or-set_other e (args_at + j) out_at v 0 (λ d. omega arith);
  }
    where
      go : (k : ℕ) → k < max_arity → (b : Bool) → eqb k j ≡ b → arg_of (set e (args_at + j) v) 0 k ≡ put_at (arg_of e 0) j v k
      go k h true t =
          let d = eqb-true k j t in
          rw t (ap (λ i. get_or (set e (args_at + j) v) (args_at + i) 0) d ∙ get_or-set_same e (args_at + j) v 0 (omega arith))
      go k h false t =
          let d = eqb-false k j t in rw t (get_or-set_other e (args_at + j) (args_at + k) v 0 (λ z. d (omega arith)))

-- the place put, and the others
pub put_same : (f : ℕ → ℕ) (k q : ℕ) → put_at f k q k ≡ q
unfolding put_at
put_same f k q = rw (eq-eqb k k refl)

pub put_other : (f : ℕ → ℕ) (k q j : ℕ) → (j ≡ k → ⊥) → put_at f k q j ≡ f j
unfolding put_at
put_other f k q j h = rw (ne_eqb j k h)

-- a field put into an entry whose fields are known
module _ {e : List ℕ} {a n : ℕ} {f : ℕ → ℕ} {q : ℕ} (is : HasFields e a n f q) {e' : List ℕ} where
  pub then-arity : {x : ℕ} → HasFields e' (label_of e 0) x (arg_of e 0) (out_of e 0) → HasFields e' a x f q
  then-arity to = record {
    size = to.size;
    label = to.label ∙ is.label;
    arity = to.arity;
    arg = λ k h. to.arg k h ∙ is.arg k h;
    out = to.out ∙ is.out;
  }

  pub then-out : {x : ℕ} → HasFields e' (label_of e 0) (arity_of e 0) (arg_of e 0) x → HasFields e' a n f x
  then-out to = record {
    size = to.size;
    label = to.label ∙ is.label;
    arity = to.arity ∙ is.arity;
    arg = λ k h. to.arg k h ∙ is.arg k h;
    out = to.out;
  }

  pub then-arg : (j x : ℕ) → HasFields e' (label_of e 0) (arity_of e 0) (put_at (arg_of e 0) j x) (out_of e 0) →
      HasFields e' a n (put_at f j x) q
  unfolding put_at
  then-arg j x to = record {
    size = to.size;
    label = to.label ∙ is.label;
    arity = to.arity ∙ is.arity;
    arg = λ k h. to.arg k h ∙ ap (λ v. cond (eqb k j) x v) (is.arg k h);
    out = to.out ∙ is.out;
  }

-- ---- the transition of an entry

module _ {e : List ℕ} {a n : ℕ} {f : ℕ → ℕ} {q : ℕ} (is : HasFields e a n f q) (narrow : n ≤ max_arity) where
  pub fields-args : (transition_at e 0).args ≡ map f (up_from 0 n)
  fields-args =
      ap (λ i. map (arg_of e 0) (up_from 0 i)) is.arity ∙
      map-up_from (arg_of e 0) f 0 n (λ k h l. is.arg k (omega arith))

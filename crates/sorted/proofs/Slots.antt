-- A transition's arguments, split at a place.
use mathlib.Core.List.{List, [], ◌++◌, ◌∷◌, map}
use mathlib.Core.Path.{◌∙◌, ◌≡◌, ap, refl, sym}
use Prim.Native.Nat.{◌+◌, ◌-◌, ◌<◌, suc, zero, ℕ}
use native.Mathlib.Omega.{arith}
use lib.ListN.{length, length-append}
use Rattle.automata.specs.Distinguishable.{Slot}
use Rattle.sorted.specs.Steps.{slot_at}
use Rattle.fields.specs.Entries.{put_at}
use Rattle.lists.specs.Positions.{up_from}
use Rattle.table.specs.Layout.{arg_of, arity_of, label_of, transition_at}
use Rattle.fields.proofs.Entries.{map-up_from, put_other, put_same}
use Rattle.fields.proofs.Transitions.{args-length}
use Rattle.lists.proofs.Intervals.{length-tabulated}
use Rattle.lists.proofs.Heads.{head-same, tail-same}

-- the arguments around place k
pub split-up_from : (f : ℕ → ℕ) (j k n : ℕ) → k < n →
    map f (up_from j n) ≡ map f (up_from j k) ++ (f (j + k) ∷ map f (up_from (j + k + 1) (n - (k + 1))))
split-up_from f j k zero h = absurd (omega arith)
split-up_from f j zero (suc n) h =
    let a : j + 0 ≡ j = omega arith in
    let b : j + 1 ≡ suc j = omega arith in
    let d : suc n - (0 + 1) ≡ n = omega arith in
    rw (a, b, d)
split-up_from f j (suc k) (suc n) h =
    let a : j + suc k ≡ suc j + k = omega arith in
    let d : suc n - (suc k + 1) ≡ n - (k + 1) = omega arith in
    rw (a, d) (ap (λ (xs : List ℕ). f j ∷ xs) (split-up_from f (suc j) k n (omega arith)))

pub args-around : (s : List ℕ) (at k : ℕ) → k < arity_of s at →
    (transition_at s at).args ≡ (slot_at s at k).before ++ (arg_of s at k ∷ (slot_at s at k).after)
args-around s at k h =
    let a : 0 + k ≡ k = omega arith in
    let e = split-up_from (arg_of s at) 0 k (arity_of s at) h in
    rw a at e

-- with q for the argument there
pub args-put : (f : ℕ → ℕ) (k n q : ℕ) → k < n →
    map (put_at f k q) (up_from 0 n) ≡ map f (up_from 0 k) ++ (q ∷ map f (up_from (k + 1) (n - (k + 1))))
args-put f k n q h =
    let a : 0 + k ≡ k = omega arith in
    let around = split-up_from (put_at f k q) 0 k n h in
    let before = map-up_from (put_at f k q) f 0 k (λ i l m. put_other f k q i (λ z. omega arith)) in
    let after = map-up_from (put_at f k q) f (k + 1) (n - (k + 1)) (λ i l m. put_other f k q i (λ z. omega arith)) in
    (rw a at around) ∙ (λ i. before i ++ (put_same f k q i ∷ after i))

-- prefixes of the same length can be cancelled
cancel : (xs ys us vs : List ℕ) → length xs ≡ length ys → xs ++ us ≡ ys ++ vs → (xs ≡ ys) × (us ≡ vs)
cancel [] [] us vs h e = (refl, e)
cancel [] (y ∷ ys) us vs h e = absurd (omega arith)
cancel (x ∷ xs) [] us vs h e = absurd (omega arith)
cancel (x ∷ xs) (y ∷ ys) us vs h e =
    let a : x ≡ y = cc in
    let b : xs ++ us ≡ ys ++ vs = cc in
    let r = cancel xs ys us vs (omega arith) b in
    (cc (a, r.0), r.1)

-- a transition that is a slot filled with q has this slot and the argument q at one of its places
pub slot_is : (s : List ℕ) (at q : ℕ) (z : Slot) → label_of s at ≡ z.label →
    (transition_at s at).args ≡ z.before ++ (q ∷ z.after) →
    (length z.before < arity_of s at) × (slot_at s at (length z.before) ≡ z) × (arg_of s at (length z.before) ≡ q)
slot_is s at q z l e = (inside, (λ i. record { label = l i; before = r.0 i; after = t.1 i }), t.0)
  where
    k : ℕ
    k = length z.before

    inside : length z.before < arity_of s at
    inside =
        omega (arith, sym (args-length s at), ap length e, length-append z.before (q ∷ z.after))

    around : (slot_at s at k).before ++ (arg_of s at k ∷ (slot_at s at k).after) ≡ z.before ++ (q ∷ z.after)
    around = sym (args-around s at k inside) ∙ e

    r : ((slot_at s at k).before ≡ z.before) × (arg_of s at k ∷ (slot_at s at k).after ≡ q ∷ z.after)
    r = cancel (slot_at s at k).before z.before _ _ (length-tabulated (arg_of s at) 0 k) around

    t : (arg_of s at k ≡ q) × ((slot_at s at k).after ≡ z.after)
    t = (
      head-same (arg_of s at k) q (slot_at s at k).after z.after r.1,
      tail-same (arg_of s at k) q (slot_at s at k).after z.after r.1,
    )

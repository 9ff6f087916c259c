-- Choices of names for the arguments of a transition: the walk over all places goes through them in order, with the
-- names packed into one number.
use mathlib.Core.Bool.{Bool, ◌&&◌, and_assoc, and-true, true}
use mathlib.Core.List.{List, [], ◌∷◌, append-nil, map}
use mathlib.Core.Logic.{inl, inr}
use mathlib.Core.Path.{◌∙◌, ◌≡◌, ap, refl, subst, sym}
use Prim.Native.Nat.{◌*◌, ◌+◌, ◌-◌, ◌<◌, ◌^◌, ◌≤◌, suc, zero, ℕ}
use native.Mathlib.Nat.{add-zero, zero-add}
use native.Mathlib.Omega.{arith}
use lib.Dec.{ltb}
use lib.ListN.{get_or-eq_default, get_or, length}
use Rattle.automata.specs.Product.{concat_map}
use Rattle.automata.specs.Quotient.{choices}
use Rattle.format.specs.Format.{max_arity}
use Rattle.lists.specs.Positions.{Pair}
use Rattle.lists.specs.Tests.{◌∈◌, every}
use Rattle.packed.specs.Packed.{digits, packed, pad_to, padded}
use Rattle.automata.proofs.Nodes.{concat_map-in}
use Rattle.lists.proofs.Tests.{map-in}
use Rattle.packed.proofs.Digits.{digits_same}
use Rattle.packed.proofs.Shifts.{digits-cut, digits-none, digits-split}
use Rattle.quotient.specs.Making.{walk, with_name}
use Rattle.quotient.proofs.Concatenation.{concat_map-map, concat_map-nested, concat_map-same}

-- ---- names packed

-- names put after others that are packed
abbrev pub pack_onto : ℕ → List ℕ → ℕ
pack_onto v [] = v
pack_onto v (x ∷ xs) = pack_onto (with_name v x) xs

pack-digits : (f : ℕ → ℕ) (xs : List ℕ) (k v : ℕ) → ((i : ℕ) → i < length xs → f (k + i) ≡ get_or xs i 0) →
    pack_onto v xs ≡ digits f k (length xs) v
pack-digits f [] k v h = refl
pack-digits f (x ∷ xs) k v h =
    let e : f k ≡ x = ap f (sym (add-zero k)) ∙ h 0 (omega arith) in
    ap (λ (y : ℕ). pack_onto (with_name v y) xs) (sym e)
    ∙ pack-digits f xs (suc k) (with_name v (f k))
    (λ i l. let d : suc k + i ≡ k + suc i = omega arith in ap f d ∙ h (suc i) (omega arith))

-- with zeros after them they are the packed list
pub pack-padded : (xs : List ℕ) → length xs ≤ max_arity → pad_to (length xs) (pack_onto 0 xs) ≡ packed xs
unfolding packed
pack-padded xs h =
    sym (ap (λ (j : ℕ). digits f 0 j 0) (sym whole) ∙ digits-cut f a 0 n 0
    ∙ ap (λ (j : ℕ). digits f j n (digits f 0 a 0)) (zero-add a)
    ∙ ap (digits f a n) (sym (pack-digits f xs 0 0 (λ i l. ap f (zero-add i))))
    ∙ digits_same f (λ _. 0) a n (pack_onto 0 xs) (λ j i l. beyond j i)
    ∙ digits-split (λ _. 0) a n (pack_onto 0 xs)
    ∙ ap (λ (j : ℕ). pack_onto 0 xs * 2 ^ (8 * n) + j) (digits-none a n)
    ∙ add-zero (pack_onto 0 xs * 2 ^ (8 * n)))
  where
    f : ℕ → ℕ
    f = padded xs

    a : ℕ
    a = length xs

    n : ℕ
    n = max_arity - a

    whole : a + n ≡ max_arity
    whole = omega arith

    beyond : (j : ℕ) → a ≤ j → f j ≡ 0
    beyond j i = get_or-eq_default xs 0 i

-- ---- choices

pub choices-same : (K K' : ℕ → List ℕ) (qs : List ℕ) → ((q : ℕ) → q ∈ qs → K q ≡ K' q) →
    choices K qs ≡ choices K' qs
choices-same K K' [] h = refl
choices-same K K' (q ∷ qs) h =
    ap (λ (r : List (List ℕ)). concat_map (λ x. map (λ xs. x ∷ xs) r) (K q)) (choices-same K K' qs (λ p i. h p (inr i)))
    ∙ ap (concat_map (λ x. map (λ xs. x ∷ xs) (choices K' qs))) (h q (inl refl))

-- a choice has a name for each place
pub choices-each : (P : ℕ → Type 0) (K : ℕ → List ℕ) (qs : List ℕ) →
    ((q : ℕ) → q ∈ qs → (x : ℕ) → x ∈ K q → P x) → (xs : List ℕ) → xs ∈ choices K qs →
    (length xs ≡ length qs) × ((k : ℕ) → k < length xs → P (get_or xs k 0))
choices-each P K [] h xs (inr x3) = elim x3 [ ]
choices-each P K [] h xs (inl e) =
    subst (λ (l : List ℕ). (length l ≡ 0) × ((k : ℕ) → k < length l → P (get_or l k 0))) (sym e)
    (refl, λ k l. absurd (omega arith))
choices-each P K (q ∷ qs) h xs i =
    let (x, j, l) = concat_map-in (λ y. map (λ ys. y ∷ ys) (choices K qs)) (K q) xs i in
    let (ys, a, e) = map-in (λ zs. x ∷ zs) (choices K qs) xs l in
    go x j ys e (choices-each P K qs (λ p b. h p (inr b)) ys a)
  where
    go : (x : ℕ) → x ∈ K q → (ys : List ℕ) → xs ≡ x ∷ ys →
        (length ys ≡ length qs) × ((k : ℕ) → k < length ys → P (get_or ys k 0)) →
        (length xs ≡ length (q ∷ qs)) × ((k : ℕ) → k < length xs → P (get_or xs k 0))
    go x j ys e r =
        subst (λ (l : List ℕ). (length l ≡ length (q ∷ qs)) × ((k : ℕ) → k < length l → P (get_or l k 0))) (sym e)
        (ap suc r.0, each)
      where
        each : (k : ℕ) → k < length (x ∷ ys) → P (get_or (x ∷ ys) k 0)
        each zero l = h q (inl refl) x j
        each (suc k) l = r.1 k (omega arith)

-- the walk goes through all choices
pub walk-choices : (K : ℕ → List ℕ) (n : ℕ) (f : Bool → ℕ → List Pair) (qs : List ℕ) (own : Bool) (prefix : ℕ) →
    walk K n f qs own prefix ≡
    concat_map (λ xs. f (own && every (ltb n) xs) (pack_onto prefix xs)) (choices K qs)
walk-choices K n f [] own prefix =
    ap (λ (b : Bool). f b prefix) (sym (and-true own)) ∙ sym (append-nil (f (own && true) prefix))
walk-choices K n f (q ∷ qs) own prefix =
    concat_map-same (λ x. walk K n f qs (own && ltb n x) (with_name prefix x))
    (λ x. concat_map (λ xs. f (own && every (ltb n) xs) (pack_onto prefix xs)) (map (λ xs. x ∷ xs) (choices K qs)))
    (K q) (λ x i. one x (walk-choices K n f qs (own && ltb n x) (with_name prefix x)))
    ∙ sym (concat_map-nested (λ xs. f (own && every (ltb n) xs) (pack_onto prefix xs))
    (λ x. map (λ xs. x ∷ xs) (choices K qs)) (K q))
  where
    one : (x : ℕ) →
        walk K n f qs (own && ltb n x) (with_name prefix x) ≡
        concat_map (λ ys. f ((own && ltb n x) && every (ltb n) ys) (pack_onto (with_name prefix x) ys)) (choices K qs) →
        walk K n f qs (own && ltb n x) (with_name prefix x) ≡
        concat_map (λ xs. f (own && every (ltb n) xs) (pack_onto prefix xs)) (map (λ xs. x ∷ xs) (choices K qs))
    one x ih =
        ih
        ∙ concat_map-same (λ ys. f ((own && ltb n x) && every (ltb n) ys) (pack_onto (with_name prefix x) ys))
        (λ ys. f (own && (ltb n x && every (ltb n) ys)) (pack_onto (with_name prefix x) ys)) (choices K qs)
        (λ ys i. ap (λ (b : Bool). f b (pack_onto (with_name prefix x) ys)) (and_assoc own (ltb n x) (every (ltb n) ys)))
        ∙ sym (concat_map-map (λ xs. f (own && every (ltb n) xs) (pack_onto prefix xs)) (λ ys. x ∷ ys) (choices K qs))

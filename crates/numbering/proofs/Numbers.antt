-- Names replaced by their numbers.
use mathlib.Core.Bool.{Bool, ◌&&◌, false, not, true}
use mathlib.Core.List.{List, [], ◌++◌, ◌∷◌, map}
use mathlib.Core.Path.{◌∙◌, ◌≡◌, ap, refl, subst, sym}
use Prim.Native.Nat.{◌*◌, ◌+◌, ◌<◌, ◌^◌, ◌≤◌, suc, zero, ℕ}
use native.Mathlib.Numerals.{add-one}
use native.Mathlib.Omega.{arith}
use lib.Dec.{eqb}
use lib.ListN.{get_or, length, length-set, set, take}
use lib.Seq.{get_or-set_other, get_or-set_same, length-take-le, take-length, take-suc}
use borrow.Author.Count.{below_more}
use borrow.Author.Tests.{eqb-false, eqb-true, not-true}
use Rattle.automata.specs.Renumber.{number_of, renumber_by}
use Rattle.format.specs.Format.{byte_values, max_arity}
use Rattle.lists.specs.Closure.{elem}
use Rattle.lists.specs.Positions.{up_from}
use Rattle.minimize.specs.Renaming.{name_in, zeros}
use Rattle.packed.specs.Packed.{digits, pad_to}
use Rattle.packed.specs.Heads.{HoldsPacked, Packs, Room, head_arity, head_label, head_meta, head_out}
use Rattle.packed.specs.Heads.{nth_packed, packed_transition, place_of}
use Rattle.numbering.specs.Numbers.{number_at}
use Rattle.numbering.specs.Steps.{HasNumbers, Numbered, Renumbered}
use Rattle.automata.proofs.Numbers.{le-number, number-length, number-pos}
use Rattle.lists.proofs.Tests.{and_left, and_right}
use Rattle.minimize.proofs.Names.{zeros-at, zeros-length}
use Rattle.minimize.proofs.Ordering.{numbers-next}
use Rattle.numbering.proofs.Picks.{room-set}
use Rattle.packed.proofs.Heads.{digits_last, place-digits}
use Rattle.packed.proofs.Zeros.{digit-below, pad-digits}

-- ---- names in an order

-- a name with a number stands in the order
pub number-elem : (o : List ℕ) (q : ℕ) → 1 ≤ number_of o q → elem eqb q o ≡ true
number-elem o q h =
    ap (λ (l : List ℕ). elem eqb q l) (sym (take-length o)) ∙ le-number (length o) o q h (number-length o q)

not-elem : (o : List ℕ) (q : ℕ) → number_of o q ≡ 0 → elem eqb q o ≡ false
not-elem o q e = go (elem eqb q o) refl
  where
    go : (b : Bool) → elem eqb q o ≡ b → b ≡ false
    go true d = absurd (omega (arith, number-pos o q d))
    go false d = refl

pub numbered-start : (order : List ℕ) {numbers : List ℕ} → numbers ≡ zeros byte_values → Numbered order 0 numbers
numbered-start order e = rw e record {
  size = zeros-length byte_values;
  each = record { number = zeros-at byte_values };
  zero = zeros-at byte_values 0;
  small = λ k h. absurd (omega arith);
}

-- the next name gets the next number
pub numbered_next : {order numbers : List ℕ} {k : ℕ} → Numbered order k numbers → length order ≡ byte_values →
    k < 255 → {q : ℕ} → q ≡ name_in order k → q < byte_values → (q ≡ 0 → ⊥) → name_in numbers q ≡ 0 →
    Numbered order (k + 1) (set numbers q (k + 1))
numbered_next {order} {numbers} {k} inv long h {q} e byte some new = record {
  size = length-set numbers q (k + 1) ∙ inv.size;
  each = rw more (numbers-next inv.each inv.size byte
      (not-elem (take k order) q (sym (inv.each.number q) ∙ new)) (add-one k ∙ ap suc (sym size)));
  zero = get_or-set_other numbers q 0 (k + 1) 0 (λ z. some (sym z)) ∙ inv.zero;
  small = below_more (λ j. name_in order j < byte_values) k inv.small (subst (λ (x : ℕ). x < byte_values) e byte);
}
  where
    size : length (take k order) ≡ k
    size = length-take-le k order (omega arith)

    more : take (k + 1) order ≡ take k order ++ (q ∷ [])
    more =
        ap (λ n. take n order) (add-one k) ∙ take-suc order k 0 (omega arith)
        ∙ ap (λ x. take k order ++ (x ∷ [])) (sym e)

-- ---- one transition

map-map : (f g : ℕ → ℕ) (k n : ℕ) (p : ℕ → ℕ) → ((i : ℕ) → k ≤ i → i < k + n → p i ≡ f (g i)) →
    map p (up_from k n) ≡ map f (map g (up_from k n))
map-map f g k zero p h = refl
map-map f g k (suc n) p h =
    cc (h k (omega arith) (omega arith), map-map f g (suc k) n p (λ i a b. h i (omega arith) (omega arith)))

module _ (numbers : List ℕ) (small : (j : ℕ) → name_in numbers j < byte_values) {h a : ℕ} {g b : ℕ}
    (head : g ≡ byte_values * head_meta h + name_in numbers (head_out h))
    (args : b ≡ digits (number_at numbers a) 0 max_arity 0) (packs : Packs h a) where
  meta-same : head_meta g ≡ head_meta h
  meta-same = omega (arith, head, small (head_out h))

  place : (k : ℕ) → k < max_arity → place_of b k ≡ name_in numbers (place_of a k)
  place k l =
      ap (λ x. place_of x k) args ∙ place-digits (number_at numbers a) (λ j. small (place_of a j)) k l

  arity-same : head_arity g ≡ head_arity h
  arity-same = omega (arith, meta-same)

  label_same : head_label g ≡ head_label h
  label_same = omega (arith, meta-same)

  pub by_number : packed_transition g b ≡ renumber_by (name_in numbers) (packed_transition h a)
  by_number =
      let out : head_out g ≡ name_in numbers (head_out h) = omega (arith, head, small (head_out h)) in
      let qs = ap (λ n. map (place_of b) (up_from 0 n)) arity-same
      ∙ map-map (name_in numbers) (place_of a) 0 (head_arity h) (place_of b)
      (λ i _ l. place i (omega (arith, packs.narrow))) in
      λ i. record { label = label_same i; args = qs i; out = out i }

  pub packs-number : HasNumbers numbers h a → name_in numbers 0 ≡ 0 → Packs g b
  packs-number has none = record {
    label-some = omega (arith, label_same, packs.label-some);
    label = omega (arith, label_same, packs.label);
    narrow = omega (arith, arity-same, packs.narrow);
    some = λ k l.
        omega (arith, place k (omega (arith, arity-same, packs.narrow)), has.args k (omega (arith, arity-same)));
    rest = λ k l m. place k m ∙ ap (name_in numbers) (packs.rest k (omega (arith, arity-same)) m) ∙ none;
  }

pub positive : (x : ℕ) → (x ≡ 0 → ⊥) → 1 ≤ x
positive zero h = absurd (h refl)
positive (suc x) h = omega arith

-- w is v with one digit more, which is not 0
abbrev pub adds : ℕ → ℕ → Bool
adds v w = not (eqb w (256 * v))

-- v has the numbers of the first k of n arguments as digits; if `whole`, each of them has a number
pub record ArgsRenamed (numbers : List ℕ) (a n : ℕ) (whole : Bool) (v k : ℕ) : Type 0 where
  pub within : k ≤ n
  pub packed : v ≡ digits (number_at numbers a) 0 k 0
  pub below : v < 2 ^ (8 * k)
  pub has : whole ≡ true → (j : ℕ) → j < k → 1 ≤ number_at numbers a j

pub renamed-start : (numbers : List ℕ) (a n : ℕ) → ArgsRenamed numbers a n true 0 0
renamed-start numbers a n =
    record { within = omega arith; packed = refl; below = omega arith; has = λ e j h. absurd (omega arith) }

pub renamed-next : {numbers : List ℕ} {a n : ℕ} {whole : Bool} {v k : ℕ} → ArgsRenamed numbers a n whole v k → k < n →
    {w : ℕ} → w ≡ byte_values * v + number_at numbers a k → w < byte_values * v + byte_values →
    ArgsRenamed numbers a n (whole && adds v w) w (k + 1)
renamed-next {numbers} {a} {n} {whole} {v} {k} inv l {w} e small = record {
  within = omega arith;
  packed =
      let one : k + 1 ≡ suc k = omega arith in
      e ∙ ap (λ (x : ℕ). byte_values * x + number_at numbers a k) inv.packed ∙ sym (digits_last (number_at numbers a) k)
      ∙ ap (λ (j : ℕ). digits (number_at numbers a) 0 j 0) (sym one);
  below = digit-below k v w inv.below small;
  has = λ both. below_more (λ j. 1 ≤ number_at numbers a j) k (inv.has (and_left whole _ both))
      (omega (arith, e, eqb-false w (256 * v) (not-true (eqb w (256 * v)) (and_right whole _ both))));
}

-- conjunctions associate
pub in_a_row : (p q r s t : Bool) → (p && (((q && r) && s) && t)) ≡ true → ((((p && q) && r) && s) && t) ≡ true
in_a_row true q r s t e = e
in_a_row false q r s t e = e

-- the same for all n arguments
pub renamed-end : {numbers : List ℕ} {a n : ℕ} {whole : Bool} {v k : ℕ} → ArgsRenamed numbers a n whole v k → n ≤ k →
    ArgsRenamed numbers a n whole v n
renamed-end {numbers} {a} {n} {whole} {v} {k} inv h =
    let e : k ≡ n = omega (arith, inv.within) in
    subst (λ (j : ℕ). ArgsRenamed numbers a n whole v j) e inv

-- ---- the transitions of two lists

-- the first i of n transitions have numbers for names, the others are unchanged
pub record RenumberedTo (numbers hs us ts vs : List ℕ) (n i : ℕ) : Type 0 where
  pub within : i ≤ n
  pub room : Room ts vs
  pub size : length ts ≡ length hs
  pub packs : (j : ℕ) → j < i → Packs (get_or ts j 0) (get_or vs j 0)
  pub has : (j : ℕ) → j < i → HasNumbers numbers (get_or hs j 0) (get_or us j 0)
  pub each : (j : ℕ) → j < i → nth_packed ts vs j ≡ renumber_by (name_in numbers) (nth_packed hs us j)
  pub heads : (j : ℕ) → i ≤ j → get_or ts j 0 ≡ get_or hs j 0
  pub args : (j : ℕ) → i ≤ j → get_or vs j 0 ≡ get_or us j 0

pub renumbered-start : (numbers : List ℕ) {hs us : List ℕ} {n : ℕ} → HoldsPacked hs us n →
    RenumberedTo numbers hs us hs us n 0
renumbered-start numbers holds = record {
  within = omega arith;
  room = holds.room;
  size = refl;
  packs = λ j h. absurd (omega arith);
  has = λ j h. absurd (omega arith);
  each = λ j h. absurd (omega arith);
  heads = λ j h. refl;
  args = λ j h. refl;
}

module _ {numbers hs us ts vs : List ℕ} {n i : ℕ} (inv : RenumberedTo numbers hs us ts vs n i)
    (holds : HoldsPacked hs us n) where
  pub renumbered-end : n ≤ i → Renumbered numbers hs us ts vs n
  renumbered-end h = record {
    holds = record { room = inv.room; few = omega (arith, inv.size, holds.few); each = λ j l. inv.packs j (omega arith) };
    has = λ j l. inv.has j (omega arith);
    each = λ j l. inv.each j (omega arith);
  }

  module _ (l : i < n) (small : (j : ℕ) → name_in numbers j < byte_values) (none : name_in numbers 0 ≡ 0) where
    pub packs-next : Packs (get_or ts i 0) (get_or vs i 0)
    packs-next = rw (inv.heads i (omega arith), inv.args i (omega arith)) (holds.each i l)

    -- the numbers of the arguments are all digits, since the places beyond them are 0
    all_digits : {b : ℕ} → b ≡ pad_to (head_arity (get_or ts i 0)) (digits (number_at numbers (get_or vs i 0)) 0
        (head_arity (get_or ts i 0)) 0) → b ≡ digits (number_at numbers (get_or vs i 0)) 0 max_arity 0
    all_digits e =
        e ∙ pad-digits (number_at numbers (get_or vs i 0)) (head_arity (get_or ts i 0)) packs-next.narrow
        (λ k l m. ap (name_in numbers) (packs-next.rest k l m) ∙ none)

    pub renumbered-next : {g b : ℕ} → HasNumbers numbers (get_or ts i 0) (get_or vs i 0) →
        g ≡ byte_values * head_meta (get_or ts i 0) + name_in numbers (head_out (get_or ts i 0)) →
        b ≡ pad_to (head_arity (get_or ts i 0)) (digits (number_at numbers (get_or vs i 0)) 0 (head_arity (get_or ts i 0)) 0) →
        RenumberedTo numbers hs us (set ts i g) (set vs i b) n (i + 1)
    renumbered-next {g} {b} has head padded = record {
      within = omega arith;
      room = room-set inv.room i g b;
      size = length-set ts i g ∙ inv.size;
      packs = λ j m. packs j m (eqb j i) refl;
      has = λ j m. having j m (eqb j i) refl;
      each = λ j m. each j m (eqb j i) refl;
      heads = λ j m. get_or-set_other ts i j g 0 (λ z. omega arith) ∙ inv.heads j (omega arith);
      args = λ j m. get_or-set_other vs i j b 0 (λ z. omega arith) ∙ inv.args j (omega arith);
    }
      where
        arg : b ≡ digits (number_at numbers (get_or vs i 0)) 0 max_arity 0
        arg = all_digits padded

        here : get_or (set ts i g) i 0 ≡ g
        here = get_or-set_same ts i g 0 (omega (arith, inv.size, holds.few))

        here' : get_or (set vs i b) i 0 ≡ b
        here' = get_or-set_same vs i b 0 (omega (arith, inv.room.args, inv.size, holds.few))

        old : get_or ts i 0 ≡ get_or hs i 0
        old = inv.heads i (omega arith)

        old' : get_or vs i 0 ≡ get_or us i 0
        old' = inv.args i (omega arith)

        packs : (j : ℕ) → j < i + 1 → (c : Bool) → eqb j i ≡ c →
            Packs (get_or (set ts i g) j 0) (get_or (set vs i b) j 0)
        packs j m true e = rw (eqb-true j i e, here, here') (packs-number numbers small head arg packs-next has none)
        packs j m false e =
            let z = eqb-false j i e in
            rw (get_or-set_other ts i j g 0 z, get_or-set_other vs i j b 0 z) (inv.packs j (omega arith))

        having : (j : ℕ) → j < i + 1 → (c : Bool) → eqb j i ≡ c → HasNumbers numbers (get_or hs j 0) (get_or us j 0)
        having j m true e = rw (eqb-true j i e, ← old, ← old') has
        having j m false e = let z = eqb-false j i e in inv.has j (omega arith)

        each : (j : ℕ) → j < i + 1 → (c : Bool) → eqb j i ≡ c →
            nth_packed (set ts i g) (set vs i b) j ≡ renumber_by (name_in numbers) (nth_packed hs us j)
        each j m true e =
            rw (eqb-true j i e, here, here', ← old, ← old') (by_number numbers small head arg packs-next)
        each j m false e =
            let z = eqb-false j i e in
            rw (get_or-set_other ts i j g 0 z, get_or-set_other vs i j b 0 z) (inv.each j (omega arith))

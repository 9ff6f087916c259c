-- Transitions that differ only in the argument at one place: where a search for them starts and ends.
use mathlib.Core.Bool.{Bool, false, true}
use mathlib.Core.List.{List}
use mathlib.Core.Path.{◌∙◌, ◌≡◌, ap, ap₂, refl, subst, sym}
use Prim.Native.Nat.{◌*◌, ◌+◌, ◌-◌, ◌<◌, ◌≤◌, ◌^◌, suc, ℕ}
use native.Mathlib.Nat.{add-mul, mul-le-mul_right}
use native.Mathlib.Omega.{arith}
use lib.Dec.{eqb, ltb}
use lib.ListN.{get_or, length, set}
use lib.Seq.{get_or-set_other, get_or-set_same}
use borrow.Author.Tests.{eqb-false, eqb-true, ltb-false, ltb-true}
use Rattle.format.specs.Format.{AllBytes, args_at, byte_pairs, byte_values, max_arity, transition_bytes}
use Rattle.packed.specs.declared.slots.Slot.{Slot}
use Rattle.packed.specs.Packed.{HoldsPadded, Searchable, before, comes_before, digits, meta_at, packed, packed_at}
use Rattle.packed.specs.Packed.{padded}
use Rattle.packed.specs.Slots.{InSlot, SlotTakes}
use Rattle.table.specs.Layout.{arg_of, arity_of, out_of, transition_at, transitions_in}
use Rattle.automata.proofs.Steps.{Has}
use Rattle.fields.proofs.Transitions.{arg-at, args-length}
use Rattle.packed.proofs.Digits.{digits_same}
use Rattle.packed.proofs.Heads.{digits-after, digits_last}
use Rattle.packed.proofs.Order.{before-itself, before-trans, before-true, numbers-rise, packed-args}
use Rattle.packed.proofs.Order.{true-before}
use Rattle.table.proofs.Decoded.{transitions_in-in}

-- the numbers m and a come after those of every transition in the slot
abbrev Past : Slot → ℕ → ℕ → Type 0
Past z m a = (q : ℕ) → q < byte_values → before z.meta (z.args + q * 2 ^ (8 * (7 - z.place))) m a ≡ true

pub past-meta : (z : Slot) (m a : ℕ) → z.meta < m → Past z m a
past-meta z m a h q l = true-before z.meta (z.args + q * 2 ^ (8 * (7 - z.place))) m a (omega arith)
    (λ k. absurd (omega arith))

pub past-args : (z : Slot) (m a : ℕ) {x : ℕ} → m ≡ z.meta → z.args ≤ a → x ≡ 255 * 2 ^ (8 * (7 - z.place)) →
    x < a - z.args → Past z m a
past-args z m a e h d l q b =
    let less : q * 2 ^ (8 * (7 - z.place)) ≤ 255 * 2 ^ (8 * (7 - z.place)) =
    mul-le-mul_right (2 ^ (8 * (7 - z.place))) (omega arith) in
    true-before z.meta (z.args + q * 2 ^ (8 * (7 - z.place))) m a (omega arith) (λ k. omega arith)

-- if transition i comes after the slot, none from i on is in it
pub none-past : {s : List ℕ} {n : ℕ} (z : Slot) {m a i : ℕ} → AllBytes s → Searchable s n → Past z m a →
    m ≡ meta_at s (transition_bytes * i) → a ≡ packed_at s (transition_bytes * i) → (j : ℕ) → i ≤ j → j < n →
    InSlot s z j → ⊥
none-past {s} {n} z {m} {a} {i} bytes r past meta args j h l I = go (eqb i j) refl
  where
    x : ℕ → ℕ
    x k = meta_at s (transition_bytes * k)

    y : ℕ → ℕ
    y k = packed_at s (transition_bytes * k)

    first : before (x j) (y j) (x i) (y i) ≡ true
    first =
        let at = transition_bytes * j in
        ap₂ (λ m a. before (x j) (y j) m a) (sym meta) (sym args) ∙ ap₂ (λ m' a'. before m' a' m a) I.meta I.args
        ∙ past (arg_of s at z.place) (bytes (at + args_at + z.place))

    go : (c : Bool) → eqb i j ≡ c → ⊥
    go true d = before-itself (x j) (y j)
        (subst (λ (k : ℕ). before (x j) (y j) (x k) (y k) ≡ true) (eqb-true i j d) first)
    go false d = let ne = eqb-false i j d in
        before-itself (x i) (y i)
        (before-trans (x i) (y i) (x j) (y j) (x i) (y i) (numbers-rise bytes r i j (omega arith) l) first)

-- a search from `from` on that has met none in the slot before i
pub record SlotWalk (s : List ℕ) (z : Slot) (from i : ℕ) : Type 0 where
  pub none : (j : ℕ) → from ≤ j → j < i → InSlot s z j → ⊥

pub walk_start : (s : List ℕ) (z : Slot) (from : ℕ) → SlotWalk s z from from
walk_start s z from = record { none = λ j h l I. omega arith }

-- none is in the slot below the bound
pub walk-bound : {s : List ℕ} (z : Slot) {b : ℕ} → ((i : ℕ) → i < b → comes_before s z.meta z.args i ≡ true) →
    SlotWalk s z 0 b
walk-bound {s} z {b} below = record {
  none = λ i _ h I. let at = transition_bytes * i in
      let (_, less) = before-true (meta_at s at) (packed_at s at) z.meta z.args (below i h) in
      let l = less (omega (arith, I.meta)) in
      omega (arith, I.args);
}

pub walk-next : {s : List ℕ} {z : Slot} {from i : ℕ} → SlotWalk s z from i → (InSlot s z i → ⊥) →
    SlotWalk s z from (i + 1)
walk-next {s} {z} {from} {i} w other = record { none = λ j h l I. go j h l I (eqb j i) refl }
  where
    go : (j : ℕ) → from ≤ j → j < i + 1 → InSlot s z j → (c : Bool) → eqb j i ≡ c → ⊥
    go j h l I true d = other (subst (InSlot s z) (eqb-true j i d) I)
    go j h l I false d = let ne = eqb-false j i d in w.none j h (omega arith) I

-- the search is complete if none from i on is in the slot
pub walk-past : {s : List ℕ} {n : ℕ} {z : Slot} {from i : ℕ} → SlotWalk s z from i →
    ((j : ℕ) → i ≤ j → j < n → InSlot s z j → ⊥) → (j : ℕ) → from ≤ j → j < n → InSlot s z j → ⊥
walk-past {s} {n} {z} {from} {i} w past j h l I = go (ltb j i) refl
  where
    go : (c : Bool) → ltb j i ≡ c → ⊥
    go true d = w.none j h (ltb-true j i d) I
    go false d = past j (ltb-false j i d) l I

-- what the code read of transition i: its numbers m and a, and x, the summand of its argument at the slot's place
module _ {s : List ℕ} (z : Slot) (i : ℕ) {m a x : ℕ} (meta : m ≡ meta_at s (transition_bytes * i))
    (args : a ≡ packed_at s (transition_bytes * i)) (order : z.args ≤ a) {q : ℕ}
    (arg : q ≡ arg_of s (transition_bytes * i) z.place) (adds : x ≡ q * 2 ^ (8 * (7 - z.place))) where
  pub slot-found : m ≡ z.meta → out_of s (transition_bytes * i) ≡ z.out → a - z.args ≡ x → InSlot s z i
  slot-found d o e = record {
    meta = sym meta ∙ d;
    args = sym args ∙ more ∙ ap (λ y. z.args + y * 2 ^ (8 * (7 - z.place))) arg;
    out = o;
  }
    where
      more : a ≡ z.args + q * 2 ^ (8 * (7 - z.place))
      more = omega arith

  pub slot-other : (a - z.args ≡ x → ⊥) → InSlot s z i → ⊥
  slot-other e I =
      let same : a ≡ z.args + q * 2 ^ (8 * (7 - z.place)) =
      args ∙ I.args ∙ ap (λ y. z.args + y * 2 ^ (8 * (7 - z.place))) (sym arg) in
      e (omega arith)

-- ---- the summand of an argument at a place

-- digits f and g that differ only at k, at which g has 0
pub digit-adds : (f g : ℕ → ℕ) (k : ℕ) → k < max_arity → g k ≡ 0 → ((j : ℕ) → (j ≡ k → ⊥) → f j ≡ g j) →
    digits f 0 max_arity 0 ≡ digits g 0 max_arity 0 + f k * 2 ^ (8 * (7 - k))
digit-adds f g k h z same =
    let low : digits f (suc k) (7 - k) 0 ≡ digits g (suc k) (7 - k) 0 =
    digits_same f g (suc k) (7 - k) 0 (λ j a b. same j (λ e. omega arith)) in
    let top : digits f 0 k 0 ≡ digits g 0 k 0 = digits_same f g 0 k 0 (λ j a b. same j (λ e. omega arith)) in
    let first : digits f 0 (suc k) 0 ≡ digits g 0 (suc k) 0 + f k =
    omega (arith, digits_last f k, digits_last g k) in
    let raised : digits f 0 (suc k) 0 * 2 ^ (8 * (7 - k)) ≡
    digits g 0 (suc k) 0 * 2 ^ (8 * (7 - k)) + f k * 2 ^ (8 * (7 - k)) =
    ap (λ x. x * 2 ^ (8 * (7 - k))) first ∙ add-mul (digits g 0 (suc k) 0) (f k) (2 ^ (8 * (7 - k))) in
    omega (arith, digits-after f k h, digits-after g k h)

pub packed-put : (xs : List ℕ) (k x : ℕ) → k < length xs → k < max_arity →
    packed (set xs k x) ≡ packed (set xs k 0) + x * 2 ^ (8 * (7 - k))
unfolding packed
packed-put xs k x h l =
    digit-adds (padded (set xs k x)) (padded (set xs k 0)) k l (get_or-set_same xs k 0 0 h)
    (λ j d. get_or-set_other xs k j x 0 d ∙ sym (get_or-set_other xs k j 0 0 d))
    ∙ ap (λ y. packed (set xs k 0) + y * 2 ^ (8 * (7 - k))) (get_or-set_same xs k x 0 h)

-- a transition with the slot's numbers, apart from the argument at its place, is in the slot
pub slot-takes : {s : List ℕ} {n : ℕ} (z : Slot) (b : ℕ) (ys : List ℕ) → HoldsPadded s n → z.place < length ys →
    z.meta ≡ byte_pairs * length ys + b → packed ys ≡ z.args + get_or ys z.place 0 * 2 ^ (8 * (7 - z.place)) →
    Has (transitions_in s n) b ys z.out → SlotTakes s n z (get_or ys z.place 0)
slot-takes {s} {n} z b ys r inside meta args (τ, m, label, own, out) =
    let (i, l, e) = transitions_in-in s n τ m in
    let at = transition_bytes * i in
    let same : (transition_at s at).args ≡ ys = ap (λ σ. σ.args) (sym e) ∙ own in
    let width : arity_of s at ≡ length ys = sym (args-length s at) ∙ ap (λ (xs : List ℕ). length xs) same in
    let arg : arg_of s at z.place ≡ get_or ys z.place 0 =
    sym (arg-at s at z.place (omega arith)) ∙ ap (λ (xs : List ℕ). get_or xs z.place 0) same in (
      i,
      l,
      record {
        meta = ap₂ (λ x y. byte_pairs * x + y) width (ap (λ σ. σ.label) (sym e) ∙ label) ∙ sym meta;
        args = packed-args s at (r.each i l) ∙ ap packed same ∙ args
            ∙ ap (λ y. z.args + y * 2 ^ (8 * (7 - z.place))) (sym arg);
        out = ap (λ σ. σ.out) (sym e) ∙ out;
      },
      arg,
    )

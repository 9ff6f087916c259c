-- Search by two numbers. They order transitions as keys do, and different keys have different numbers.
use mathlib.Core.Bool.{Bool, false, true}
use mathlib.Core.List.{List, ◌∷◌, map}
use mathlib.Core.Logic.{◌⊎◌, inl, inr}
use mathlib.Core.Path.{◌∙◌, ◌≡◌, ap, ap₂, refl, subst, sym}
use Prim.Native.Nat.{◌*◌, ◌+◌, ◌-◌, ◌<◌, ◌≤◌, ℕ}
use native.Mathlib.Nat.{zero-add}
use native.Mathlib.Omega.{arith}
use lib.Dec.{eqb, ltb}
use lib.ListN.{get_or-eq_default, get_or, length, take}
use lib.Seq.{ext_get_or, get_or-take, length-take-le}
use borrow.Author.Tests.{eqb-false, eqb-true, ltb-false, ltb-true}
use Rattle.automata.specs.Automaton.{Transition, lookup}
use Rattle.automata.specs.Order.{key, lex, precedes}
use Rattle.format.specs.Format.{AllBytes, args_at, byte_pairs, byte_values, max_arity, transition_bytes}
use Rattle.lists.specs.Positions.{up_from}
use Rattle.packed.specs.Packed.{Searchable, before, comes_before, meta_at, packed, packed_at, padded}
use Rattle.packed.specs.Seeking.{Eight, Packs, Places, SoughtAt, sought}
use Rattle.sorted.specs.Sorted.{LowerBound}
use Rattle.std.specs.Prelude.{None, Option, Some}
use Rattle.table.specs.Layout.{arity_of, label_of, nth_transition, out_of, transitions_in}
use Rattle.automata.proofs.Order.{key-equal}
use Rattle.automata.proofs.Steps.{Has, lookup-view}
use Rattle.fields.proofs.Searching.{lex-agrees, lex-differs}
use Rattle.fields.proofs.Transitions.{arg-at, args-length}
use Rattle.lists.proofs.Intervals.{tabulated}
use Rattle.packed.proofs.Digits.{digits-equal, digits-lex, digits_same}
use Rattle.packed.proofs.Order.{before-trans, higher-decides, lower-decides, numbers-rise, packed-args, sorted}
use Rattle.sorted.proofs.Searched.{bound-between}
use Rattle.sorted.proofs.Searched.{key-args, key-label, key-nowhere, lookup-found}
use Rattle.table.proofs.Decoded.{transitions_in-in}

-- ---- order

-- lists of the same length are ordered as their numbers are
args-before : (xs ys : List ℕ) → Eight xs → Eight ys → length xs ≡ length ys → lex xs ys ≡ ltb (packed xs) (packed ys)
unfolding packed
args-before xs ys f g e =
    ap₂ lex (sym (whole xs)) (sym (whole ys) ∙ ap (λ n. map (padded ys) (up_from 0 n)) (sym e))
    ∙ digits-lex (padded xs) (padded ys) f.bytes g.bytes (length xs) max_arity 0 0 f.short
    (λ j h l. get_or-eq_default xs 0 (omega arith) ∙ sym (get_or-eq_default ys 0 (omega arith)))
  where
    whole : (zs : List ℕ) → map (padded zs) (up_from 0 (length zs)) ≡ zs
    whole zs = tabulated (padded zs) 0 (length zs) 0 zs refl (λ i h. ap (padded zs) (zero-add i))

-- lists of the same length with the same number are equal
args-same : (xs ys : List ℕ) → Eight xs → Eight ys → length xs ≡ length ys → packed xs ≡ packed ys → xs ≡ ys
unfolding packed
args-same xs ys f g e d =
    ext_get_or 0 xs ys e (λ k h. digits-equal (padded xs) (padded ys) f.bytes g.bytes max_arity 0 0 d k (omega arith)
    (omega (arith, f.short)))

-- a transition's child count and label as one number
abbrev meta_of : Transition → ℕ
meta_of τ = byte_pairs * length τ.args + τ.label

pub precedes-numbers : (σ τ : Transition) → Eight σ.args → Eight τ.args → σ.label < byte_pairs →
    τ.label < byte_pairs → precedes σ τ ≡ before (meta_of σ) (packed σ.args) (meta_of τ) (packed τ.args)
precedes-numbers σ τ f g small small' = by-arity (eqb n m) refl
  where
    n : ℕ
    n = length σ.args

    m : ℕ
    m = length τ.args

    x : ℕ
    x = packed σ.args

    y : ℕ
    y = packed τ.args

    by-label : n ≡ m → (c : Bool) → eqb σ.label τ.label ≡ c →
        lex (σ.label ∷ σ.args) (τ.label ∷ τ.args) ≡ before (meta_of σ) x (meta_of τ) y
    by-label e true d = let l = eqb-true σ.label τ.label d in
        lex-agrees σ.label τ.label σ.args τ.args l ∙ args-before σ.args τ.args f g e
        ∙ lower-decides (meta_of σ) (meta_of τ) x y (omega arith)
    by-label e false d = let l = eqb-false σ.label τ.label d in
        lex-differs σ.label τ.label σ.args τ.args l
        ∙ higher-decides σ.label τ.label (meta_of σ) (meta_of τ) x y l (λ h. omega arith) (λ h. omega arith)

    by-arity : (c : Bool) → eqb n m ≡ c → precedes σ τ ≡ before (meta_of σ) x (meta_of τ) y
    by-arity true d = let e = eqb-true n m d in
        lex-agrees n m (σ.label ∷ σ.args) (τ.label ∷ τ.args) e ∙ by-label e (eqb σ.label τ.label) refl
    by-arity false d = let l = eqb-false n m d in
        lex-differs n m (σ.label ∷ σ.args) (τ.label ∷ τ.args) l
        ∙ higher-decides n m (meta_of σ) (meta_of τ) x y l (λ h. omega arith) (λ h. omega arith)

-- ---- a transition among others

module _ {s : List ℕ} {n : ℕ} (bytes : AllBytes s) (r : Searchable s n) where
  args-eight : (i : ℕ) → i < n → Eight (nth_transition s i).args
  args-eight i h = let at = transition_bytes * i in record {
    short = omega (arith, args-length s at, (r.padded.each i h).narrow);
    bytes = λ k. byte k (ltb k (arity_of s at)) refl;
  }
    where
      byte : (k : ℕ) (c : Bool) → ltb k (arity_of s (transition_bytes * i)) ≡ c →
          get_or (nth_transition s i).args k 0 < byte_values
      byte k true d = let at = transition_bytes * i in
          rw (arg-at s at k (ltb-true k (arity_of s at) d)) (bytes (at + args_at + k))
      byte k false d =
          let at = transition_bytes * i in
          let z : get_or (nth_transition s i).args k 0 ≡ 0 = get_or-eq_default (nth_transition s i).args 0
          (omega (arith, args-length s at, ltb-false k (arity_of s at) d)) in
          omega arith

  module _ {m a b : ℕ} {qs : List ℕ} (p : Packs m a b qs) (i : ℕ) (h : i < n) {m' a' : ℕ}
      (meta : m' ≡ meta_at s (transition_bytes * i)) (args : a' ≡ packed_at s (transition_bytes * i)) where
    abbrev at : ℕ
    at = transition_bytes * i

    meta-is : m' ≡ meta_of (nth_transition s i)
    meta-is = meta ∙ ap (λ k. byte_pairs * k + label_of s at) (sym (args-length s at))

    args-is : a' ≡ packed (nth_transition s i).args
    args-is = args ∙ packed-args s at (r.padded.each i h)

    small : label_of s at < byte_pairs
    small = omega (arith, bytes at, bytes (at + 1))

    pub comes-precedes : before m' a' m a ≡ precedes (nth_transition s i) (sought b qs)
    comes-precedes =
        rw (meta-is, args-is, p.meta, p.args)
        (sym (precedes-numbers (nth_transition s i) (sought b qs) (args-eight i h) p.list small p.label))

    -- a transition with the key has both numbers
    pub same_numbers : key (nth_transition s i) ≡ key (sought b qs) → (m' ≡ m) × (a' ≡ a)
    same_numbers e =
        let l = key-label (nth_transition s i) (sought b qs) e in
        let q = key-args (nth_transition s i) (sought b qs) e in (
          meta-is ∙ ap₂ (λ xs x. byte_pairs * length xs + x) q l ∙ sym p.meta,
          args-is ∙ ap packed q ∙ sym p.args,
        )

    pub numbers-same : m' ≡ m → a' ≡ a → key (nth_transition s i) ≡ key (sought b qs)
    numbers-same d e =
        let z : byte_pairs * length (nth_transition s i).args + label_of s at ≡ byte_pairs * length qs + b =
        sym meta-is ∙ d ∙ p.meta in
        let n : length (nth_transition s i).args ≡ length qs = omega (arith, small, p.label) in
        let l : label_of s at ≡ b = omega arith in
        let q : (nth_transition s i).args ≡ qs = args-same (nth_transition s i).args qs (args-eight i h) p.list n
        (sym args-is ∙ e ∙ p.args) in
        key-equal (nth_transition s i) (sought b qs) l q

-- ---- binary search

-- the transition before r comes before the numbers m and a, and transition r does not
module _ {s : List ℕ} {n r : ℕ} (m a : ℕ) (bytes : AllBytes s) (searchable : Searchable s n) (within : r ≤ n)
    (before : 0 < r → comes_before s m a (r - 1) ≡ true) (here : r < n → comes_before s m a r ≡ false) where
  pub bound-sought : (b : ℕ) (qs : List ℕ) → Packs m a b qs → LowerBound s n (sought b qs) r
  bound-sought b qs p =
      bound-between (sorted searchable) within
      (λ h. sym (comes-precedes bytes searchable p (r - 1) (omega arith) refl refl) ∙ before h)
      (λ h. sym (comes-precedes bytes searchable p r h refl refl) ∙ here h)

  pub bound-below : (i : ℕ) → i < r → comes_before s m a i ≡ true
  bound-below i h = go (eqb i (r - 1)) refl
    where
      go : (c : Bool) → eqb i (r - 1) ≡ c → comes_before s m a i ≡ true
      go true e = rw (eqb-true i (r - 1) e) (before (omega arith))
      go false e = let ne = eqb-false i (r - 1) e in
          before-trans (meta_at s (transition_bytes * i)) (packed_at s (transition_bytes * i))
          (meta_at s (transition_bytes * (r - 1))) (packed_at s (transition_bytes * (r - 1))) m a
          (numbers-rise bytes searchable i (r - 1) (omega arith) (omega arith)) (before (omega arith))

-- ---- what is found

-- transition i has both numbers, so it has the key
pub sought-there : {s : List ℕ} {n m a i : ℕ} → AllBytes s → Searchable s n → i < n → {m' a' : ℕ} →
    m' ≡ meta_at s (transition_bytes * i) → a' ≡ packed_at s (transition_bytes * i) → m' ≡ m → a' ≡ a →
    (b : ℕ) (qs : List ℕ) → Packs m a b qs → SoughtAt s n b qs (Some i)
sought-there {s} {i = i} bytes r h meta args d e b qs p = record {
  there = λ j f. let same : j ≡ i = cc in
      subst (λ (k : ℕ). key (nth_transition s k) ≡ key (sought b qs)) (sym same)
      (numbers-same bytes r p i h meta args d e);
  none = λ f. absurd (cc);
}

module _ {s : List ℕ} {n m a i : ℕ} (bytes : AllBytes s) (r : Searchable s n)
    (bound : (b : ℕ) (qs : List ℕ) → Packs m a b qs → LowerBound s n (sought b qs) i) where
  -- a transition with this key can only be at the bound
  pub sought-none : ((b : ℕ) (qs : List ℕ) → Packs m a b qs → i < n → key (nth_transition s i) ≡ key (sought b qs) → ⊥) →
      (b : ℕ) (qs : List ℕ) → Packs m a b qs → SoughtAt s n b qs None
  sought-none h b qs p = record {
    there = λ j f. absurd (cc);
    none = λ _. key-nowhere (sorted r) (sought b qs) i (bound b qs p) (h b qs p);
  }

  module _ (h : i < n) {m' : ℕ} (meta : m' ≡ meta_at s (transition_bytes * i)) where
    pub other-meta : (m' ≡ m → ⊥) → (b : ℕ) (qs : List ℕ) → Packs m a b qs → SoughtAt s n b qs None
    other-meta d = sought-none (λ b qs p l e. d (same_numbers bytes r p i h meta refl e).0)

    pub other-args : {a' : ℕ} → a' ≡ packed_at s (transition_bytes * i) → (a' ≡ a → ⊥) → (b : ℕ) (qs : List ℕ) →
        Packs m a b qs → SoughtAt s n b qs None
    other-args args d = sought-none (λ b qs p l e. d (same_numbers bytes r p i h meta args e).1)

-- ---- the output of what is found

module _ {s : List ℕ} {n : ℕ} (bytes : AllBytes s) (r : Searchable s n) {b : ℕ} {qs : List ℕ} {found : Option ℕ}
    (f : SoughtAt s n b qs found) where
  pub sought-output : {i : ℕ} → found ≡ Some i → i < n →
      out_of s (transition_bytes * i) ≡ lookup b qs (transitions_in s n)
  sought-output {i} e l = lookup-found (sorted r) (sought b qs) i l (f.there i e)

  pub sought-nothing : found ≡ None → 0 ≡ lookup b qs (transitions_in s n)
  sought-nothing none = go (lookup-view b qs (transitions_in s n))
    where
      go : (lookup b qs (transitions_in s n) ≡ 0) ⊎ (Has (transitions_in s n) b qs (lookup b qs (transitions_in s n))) →
          0 ≡ lookup b qs (transitions_in s n)
      go (inl z) = sym z
      go (inr (σ, m, p, q, o)) = let (j, l, e) = transitions_in-in s n σ m in
          absurd (f.none none j l (ap key (sym e) ∙ key-equal σ (sought b qs) p q))

-- ---- eight bytes, of which the first n are taken

module _ {n : ℕ} {qs : List ℕ} (eight : length qs ≡ max_arity) (p : Places n qs) where
  taken-length : length (take n qs) ≡ n
  taken-length = length-take-le n qs (omega (arith, p.narrow))

  taken_at : (k : ℕ) → padded qs k ≡ padded (take n qs) k
  taken_at k = go (ltb k n) refl
    where
      go : (c : Bool) → ltb k n ≡ c → padded qs k ≡ padded (take n qs) k
      go true h = sym (get_or-take n qs k 0 (ltb-true k n h))
      go false h = let o = ltb-false k n h in
          p.beyond k o ∙ sym (get_or-eq_default (take n qs) 0 (omega (arith, taken-length)))

  -- the first n have the same number as all eight
  pub packed-taken : packed qs ≡ packed (take n qs)
  unfolding packed
  packed-taken = digits_same (padded qs) (padded (take n qs)) 0 max_arity 0 (λ k _ _. taken_at k)

  pub places-packs : {b : ℕ} → AllBytes qs → b < byte_pairs → {m a : ℕ} → m ≡ byte_pairs * n + b → a ≡ packed qs →
      Packs m a b (take n qs)
  places-packs {b} bytes l {m} {a} e d = record {
    meta = e ∙ ap (λ k. byte_pairs * k + b) (sym taken-length);
    args = d ∙ packed-taken;
    label = l;
    list = record {
      short = omega (arith, p.narrow, taken-length);
      bytes = λ k. omega (arith, bytes k, taken_at k);
    };
  }

-- Transitions compared by two numbers each, and lists of arguments distinguished by one.
use mathlib.Core.Bool.{Bool, ◌&&◌, ◌||◌, false, false≢true, true}
use mathlib.Core.List.{List}
use mathlib.Core.Path.{◌∙◌, ◌≡◌, refl, sym}
use Prim.Native.Nat.{◌*◌, ◌+◌, ◌-◌, ◌<◌, ◌≤◌, ℕ}
use native.Mathlib.Omega.{arith}
use lib.Dec.{eqb, ltb}
use lib.ListN.{drop, get_or-eq_default, get_or, length, take}
use lib.Seq.{ext_get_or, get_or-drop, get_or-take}
use borrow.Author.Tests.{eq-eqb, eqb-false, eqb-true, le-ltb, lt-ltb, ltb-false, ltb-true, ne_eqb}
use Rattle.automata.specs.Order.{lex, precedes}
use Rattle.fields.specs.Fields.{first_args}
use Rattle.format.specs.Format.{AllBytes, args_at, max_arity, max_label, out_at, transition_bytes}
use Rattle.lists.specs.Positions.{up_from}
use Rattle.lists.specs.Tests.{every}
use Rattle.packed.specs.Packed.{HoldsPadded, Padded, Searchable, before, comes_before, meta_at}
use Rattle.packed.specs.Packed.{packed, packed_at, padded}
use Rattle.sorted.specs.Sorted.{Sorted}
use Rattle.table.specs.Layout.{arg_of, arity_of, label_of, transition_at}
use Rattle.fields.proofs.Searching.{precedes-args, precedes-arity, precedes-label, precedes_next}
use Rattle.fields.proofs.Transitions.{arg-at, args-length}
use Rattle.format.proofs.Labels.{from-most}
use Rattle.lists.proofs.Loops.{EveryFrom}
use Rattle.packed.proofs.Digits.{digits-equal, digits-lex, digits_same}
use Rattle.sorted.proofs.Searched.{sorted-at}

-- ---- order

-- if x and y differ and m and n compare as they do, m and n decide
pub higher-decides : (x y m n a b : ℕ) → (x ≡ y → ⊥) → (x < y → m < n) → (y < x → n < m) → ltb x y ≡ before m a n b
higher-decides x y m n a b d f g = go (ltb x y) refl
  where
    go : (c : Bool) → ltb x y ≡ c → c ≡ before m a n b
    go true e = rw (lt-ltb m n (f (ltb-true x y e)))
    go false e = let l = ltb-false x y e in
        let h : n < m = g (omega arith) in
        rw (le-ltb m n (omega arith), ne_eqb m n (λ i. omega arith))

pub lower-decides : (m n a b : ℕ) → m ≡ n → ltb a b ≡ before m a n b
lower-decides m n a b e = rw (le-ltb m n (omega arith), eq-eqb m n e)

-- the order by two numbers, for each of them
pub before-true : (m a n b : ℕ) → before m a n b ≡ true → (m ≤ n) × (n ≤ m → a < b)
before-true m a n b e = go (ltb m n) refl (eqb m n) refl (ltb a b) refl e
  where
    go : (c : Bool) → ltb m n ≡ c → (d : Bool) → eqb m n ≡ d → (f : Bool) → ltb a b ≡ f → (c || (d && f)) ≡ true →
        (m ≤ n) × (n ≤ m → a < b)
    go true c d _ f _ e = let l = ltb-true m n c in (omega arith, λ h. absurd (omega arith))
    go false c true d true f e = let z = eqb-true m n d in (omega arith, λ h. ltb-true a b f)
    go false c true d false f e = absurd (false≢true e)
    go false c false d _ f e = absurd (false≢true e)

pub true-before : (m a n b : ℕ) → m ≤ n → (n ≤ m → a < b) → before m a n b ≡ true
true-before m a n b h f = go (ltb m n) refl
  where
    go : (c : Bool) → ltb m n ≡ c → (c || (eqb m n && ltb a b)) ≡ true
    go true c = refl
    go false c = let l = ltb-false m n c in rw (eq-eqb m n (omega arith), lt-ltb a b (f l))

pub before-itself : (m a : ℕ) → before m a m a ≡ true → ⊥
before-itself m a e = let l : a < a = (before-true m a m a e).1 (omega arith) in omega arith

pub before-trans : (m a n b o c : ℕ) → before m a n b ≡ true → before n b o c ≡ true → before m a o c ≡ true
before-trans m a n b o c d e =
    let (l, f) = before-true m a n b d in
    let (k, g) = before-true n b o c e in
    true-before m a o c (omega arith)
    (λ h. let x : a < b = f (omega arith) in
    let y : b < c = g (omega arith) in
    omega arith)

module _ (s : List ℕ) (bytes : AllBytes s) (a b : ℕ) (first : Padded s a) (second : Padded s b) where
  args-order : arity_of s a ≡ arity_of s b →
      ltb (packed_at s a) (packed_at s b) ≡ lex (first_args s a (arity_of s a)) (first_args s b (arity_of s a))
  unfolding packed_at
  args-order e = sym
      (digits-lex (arg_of s a) (arg_of s b) (λ j. bytes (a + args_at + j)) (λ j. bytes (b + args_at + j))
      (arity_of s a) max_arity 0 0 first.narrow
      (λ k h l. first.rest k (omega arith) (omega arith) ∙ sym (second.rest k (omega arith) (omega arith))))

  -- the order of transitions is that of their two numbers
  pub precedes-packed : precedes (transition_at s a) (transition_at s b) ≡
      before (meta_at s a) (packed_at s a) (meta_at s b) (packed_at s b)
  precedes-packed = by-arity (eqb (arity_of s a) (arity_of s b)) refl
    where
      small : label_of s a ≤ max_label
      small = from-most _ _ (bytes a) (bytes (a + 1))

      small' : label_of s b ≤ max_label
      small' = from-most _ _ (bytes b) (bytes (b + 1))

      by-label : arity_of s a ≡ arity_of s b → (c : Bool) → eqb (label_of s a) (label_of s b) ≡ c →
          precedes (transition_at s a) (transition_at s b) ≡
          before (meta_at s a) (packed_at s a) (meta_at s b) (packed_at s b)
      by-label e true d = let l = eqb-true (label_of s a) (label_of s b) d in
          sym (precedes-args s a b refl refl e refl refl l (args-order e))
          ∙ lower-decides (meta_at s a) (meta_at s b) (packed_at s a) (packed_at s b) (omega arith)
      by-label e false d = let l = eqb-false (label_of s a) (label_of s b) d in
          sym (precedes-label s a b refl refl e refl refl l)
          ∙ higher-decides (label_of s a) (label_of s b) (meta_at s a) (meta_at s b) (packed_at s a) (packed_at s b) l
          (λ h. omega arith) (λ h. omega arith)

      by-arity : (c : Bool) → eqb (arity_of s a) (arity_of s b) ≡ c →
          precedes (transition_at s a) (transition_at s b) ≡
          before (meta_at s a) (packed_at s a) (meta_at s b) (packed_at s b)
      by-arity true d = by-label (eqb-true (arity_of s a) (arity_of s b) d) (eqb (label_of s a) (label_of s b)) refl
      by-arity false d = let l = eqb-false (arity_of s a) (arity_of s b) d in
          sym (precedes-arity s a b refl refl l)
          ∙ higher-decides (arity_of s a) (arity_of s b) (meta_at s a) (meta_at s b) (packed_at s a) (packed_at s b) l
          (λ h. omega (arith, small)) (λ h. omega (arith, small'))

-- searchable transitions are sorted
pub sorted : {s : List ℕ} {n : ℕ} → Searchable s n → Sorted s n
sorted r = record { runs = r.padded.runs; rises = r.rises }

pub numbers-rise : {s : List ℕ} {n : ℕ} → AllBytes s → Searchable s n → (i j : ℕ) → i < j → j < n →
    comes_before s (meta_at s (transition_bytes * j)) (packed_at s (transition_bytes * j)) i ≡ true
numbers-rise {s} {n} bytes r i j h l =
    sym (precedes-packed s bytes (transition_bytes * i) (transition_bytes * j) (r.padded.each i (omega arith))
    (r.padded.each j l)) ∙ sorted-at (sorted r) i j h l

-- a loop at i over neighbours, which has read the two numbers m and a of transition i
pub record RisesFrom (s : List ℕ) (n m a i : ℕ) : Type 0 where
  pub passed : EveryFrom (every (precedes_next s) (up_from 0 (n - 1))) (precedes_next s) (n - 1) i
  pub meta : m ≡ meta_at s (transition_bytes * i)
  pub args : a ≡ packed_at s (transition_bytes * i)

-- the loop compares transition i with the next
pub compares-next : {s : List ℕ} {n m a i m' a' : ℕ} → AllBytes s → HoldsPadded s n → RisesFrom s n m a i →
    i + 1 < n → m' ≡ meta_at s (transition_bytes * (i + 1)) → a' ≡ packed_at s (transition_bytes * (i + 1)) →
    before m a m' a' ≡ precedes_next s i
compares-next {s} {i = i} bytes holds inv h e d =
    rw (inv.meta, inv.args, e, d)
    (sym (precedes-packed s bytes (transition_bytes * i) (transition_bytes * (i + 1)) (holds.each i (omega arith))
    (holds.each (i + 1) h)))

-- ---- lists of arguments

-- the bytes of the places as one number
pub packed-places : (s : List ℕ) (at : ℕ) → packed (take (at + out_at - (at + args_at)) (drop (at + args_at) s)) ≡ packed_at s at
unfolding packed packed_at
packed-places s at = let places = take (at + out_at - (at + args_at)) (drop (at + args_at) s) in
    digits_same (padded places) (arg_of s at) 0 max_arity 0
    (λ k _ l. get_or-take (at + out_at - (at + args_at)) (drop (at + args_at) s) k 0 (omega arith)
    ∙ get_or-drop (at + args_at) s k 0)

-- the number read from the places is that of the arguments
pub packed-args : (s : List ℕ) (at : ℕ) → Padded s at → packed_at s at ≡ packed (transition_at s at).args
unfolding packed_at packed
packed-args s at p =
    digits_same (arg_of s at) (padded (transition_at s at).args) 0 max_arity 0
    (λ k _ l. place k (omega arith) (ltb k (arity_of s at)) refl)
  where
    place : (k : ℕ) → k < max_arity → (c : Bool) → ltb k (arity_of s at) ≡ c →
        arg_of s at k ≡ padded (transition_at s at).args k
    place k l true d = sym (arg-at s at k (ltb-true k (arity_of s at) d))
    place k l false d = let h = ltb-false k (arity_of s at) d in
        p.rest k h l
        ∙ sym (get_or-eq_default (transition_at s at).args 0 (omega (arith, args-length s at)))

-- a list of at most eight bytes that are not 0
pub record Packable (xs : List ℕ) : Type 0 where
  pub short : length xs ≤ max_arity
  pub some : (k : ℕ) → k < length xs → 1 ≤ get_or xs k 0
  pub bytes : AllBytes xs

-- different lists of this kind have different numbers
pub packed-injective : (xs ys : List ℕ) → Packable xs → Packable ys → packed xs ≡ packed ys → xs ≡ ys
unfolding packed
packed-injective xs ys p q e = ext_get_or 0 xs ys (same (ltb (length xs) (length ys)) refl (ltb (length ys) (length xs))
    refl) (λ k l. each k (omega (arith, p.short)))
  where
    each : (k : ℕ) → k < max_arity → get_or xs k 0 ≡ get_or ys k 0
    each k l = digits-equal (padded xs) (padded ys) p.bytes q.bytes max_arity 0 0 e k (omega arith) (omega arith)

    same : (c : Bool) → ltb (length xs) (length ys) ≡ c → (d : Bool) → ltb (length ys) (length xs) ≡ d →
        length xs ≡ length ys
    same true c d _ = let h = ltb-true (length xs) (length ys) c in
        let z : get_or xs (length xs) 0 ≡ 0 = get_or-eq_default xs 0 (omega arith) in
        absurd (omega (arith, each (length xs) (omega (arith, q.short)), q.some (length xs) h))
    same false c true d = let h = ltb-true (length ys) (length xs) d in
        let z : get_or ys (length ys) 0 ≡ 0 = get_or-eq_default ys 0 (omega arith) in
        absurd (omega (arith, each (length ys) (omega (arith, p.short)), p.some (length ys) h))
    same false c false d = omega (arith, ltb-false (length xs) (length ys) c, ltb-false (length ys) (length xs) d)

-- Spans of parents: they are noted child by child, and tests of parents need not look outside them.
use mathlib.Core.Bool.{Bool, cond, false, true}
use mathlib.Core.List.{List}
use mathlib.Core.Logic.{◌≢◌, ◌⊎◌, inl, inr}
use mathlib.Core.Path.{◌∙◌, ◌≡◌, ap, ap₂, refl, sym}
use Prim.Native.Nat.{◌*◌, ◌+◌, ◌-◌, ◌<◌, ◌≤◌, ℕ}
use native.Mathlib.Omega.{arith}
use lib.Dec.{eqb, ltb}
use lib.ListN.{get_or, length, length-set, set}
use lib.Seq.{get_or-set_other, get_or-set_same}
use borrow.Author.Tests.{eqb-false, eqb-true, ltb-false, ltb-true}
use Rattle.format.specs.Format.{max_arity, max_nodes}
use Rattle.lists.specs.Positions.{up_from}
use Rattle.lists.specs.Tests.{any}
use Rattle.subtrees.specs.Parents.{ParentsWithin}
use Rattle.subtrees.specs.Store.{child_at}
use Rattle.uses.specs.Frames.{Shaped}
use Rattle.naming.specs.Parents.{ChildNoted, ParentsNoted, SpansOf, anchors, child_is, is_child, raises}
use Rattle.lists.proofs.Loops.{AnyFrom}
use Rattle.lists.proofs.Positions.{in-up_from, up_from-in}
use Rattle.lists.proofs.Tests.{and_right, any-in, in-any, same_test}

-- ---- the parents noted

module _ {r c : List ℕ} where
  -- the children of the subtree at index i are all noted
  pub noted-node : {m i p : ℕ} {froms tos : List ℕ} → Shaped m r c → i < m → get_or r i 0 ≤ p →
      ParentsNoted r c (i + 1) (max_arity * i + p) froms tos → ParentsNoted r c (i + 1) (max_arity * (i + 1)) froms tos
  noted-node {m} {i} {p} {froms} {tos} shaped h all noted = record {
    sizes = noted.sizes;
    low = noted.low;
    known = noted.known;
    above = λ x k g e. noted.above x k (before x k g e (eqb x i) refl) e;
    below = λ x k g e. noted.below x k (before x k g e (eqb x i) refl) e;
  }
    where
      before : (x k : ℕ) → max_arity * x + k < max_arity * (i + 1) → k < get_or r x 0 → (b : Bool) → eqb x i ≡ b →
          max_arity * x + k < max_arity * i + p
      before x k g e true d =
          let same = eqb-true x i d in let rows = ap (λ y. get_or r y 0) same in omega arith
      before x k g e false d =
          let other = eqb-false x i d in omega (arith, shaped.narrow x (omega arith))

  -- the next child is noted
  module _ {m i k j : ℕ} {froms tos froms' tos' : List ℕ} (shaped : Shaped m r c) (h : i < m) (g : k < get_or r i 0)
      (own : j ≡ child_at c i k) (noted : ParentsNoted r c (i + 1) (max_arity * i + k) froms tos)
      (new : ChildNoted i j froms tos froms' tos') where
    some : 1 ≤ j
    some = omega (arith, shaped.child-some i k h g)

    inside : j - 1 < max_nodes
    inside = omega (arith, shaped.child-before i k h g, shaped.few)

    -- an entry is kept or new
    abbrev To : ℕ → Type 0
    To x = ((get_or tos' x 0 ≡ get_or tos x 0) × (x ≢ j - 1)) ⊎ ((get_or tos' x 0 ≡ i + 1) × (x ≡ j - 1))

    abbrev From : ℕ → Type 0
    From x = (get_or froms' x 0 ≡ get_or froms x 0) ⊎ ((get_or froms' x 0 ≡ i) × (get_or tos x 0 ≡ 0) × (x ≡ j - 1))

    to_at : (x : ℕ) → To x
    to_at x = go (eqb x (j - 1)) refl
      where
        go : (b : Bool) → eqb x (j - 1) ≡ b → To x
        go true d =
            let e = eqb-true x (j - 1) d in
            inr (
              rw (new.last, e) (get_or-set_same tos (j - 1) (i + 1) 0 (omega (arith, inside, noted.sizes.1))),
              e,
            )
        go false d =
            let e = eqb-false x (j - 1) d in
            inl (rw new.last (get_or-set_other tos (j - 1) x (i + 1) 0 e), e)

    from_at : (x : ℕ) → From x
    from_at x = go (eqb (get_or tos (j - 1) 0) 0) refl new.first (eqb x (j - 1)) refl
      where
        go : (a : Bool) → eqb (get_or tos (j - 1) 0) 0 ≡ a → froms' ≡ cond a (set froms (j - 1) i) froms → (b : Bool) →
            eqb x (j - 1) ≡ b → From x
        go true f z true d =
            let e = eqb-true x (j - 1) d in
            inr (
              rw (z, e) (get_or-set_same froms (j - 1) i 0 (omega (arith, inside, noted.sizes.0))),
              rw e (eqb-true (get_or tos (j - 1) 0) 0 f),
              e,
            )
        go true f z false d = inl (rw z (get_or-set_other froms (j - 1) x i 0 (eqb-false x (j - 1) d)))
        go false f z b d = inl (ap (λ xs. get_or xs x 0) z)

    size : length froms' ≡ max_nodes
    size = go (eqb (get_or tos (j - 1) 0) 0) new.first
      where
        go : (a : Bool) → froms' ≡ cond a (set froms (j - 1) i) froms → length froms' ≡ max_nodes
        go true z = ap length z ∙ length-set froms (j - 1) i ∙ noted.sizes.0
        go false z = ap length z ∙ noted.sizes.0

    last : (x : ℕ) → get_or froms' x 0 ≤ get_or tos' x 0 - 1
    last x = go (to_at x) (from_at x)
      where
        go : To x →
            From x →
            get_or froms' x 0 ≤ get_or tos' x 0 - 1
        go (inl (e, _)) (inl f) = omega (arith, noted.low x)
        go (inl (e, d)) (inr (f, _, z)) = absurd (d z)
        go (inr (e, _)) (inl f) = omega (arith, noted.low x, noted.known x)
        go (inr (e, _)) (inr (f, _, _)) = omega arith

    within : (x : ℕ) → get_or tos' x 0 ≤ i + 1
    within x = go (to_at x)
      where
        go : To x →
            get_or tos' x 0 ≤ i + 1
        go (inl (e, _)) = omega (arith, noted.known x)
        go (inr (e, _)) = omega arith

    -- what was noted of a parent stays so
    kept-to : (x y : ℕ) → y ≤ i → y < get_or tos x 0 → y < get_or tos' x 0
    kept-to x y l u = go (to_at x)
      where
        go : To x → y < get_or tos' x 0
        go (inl (e, _)) = omega arith
        go (inr (e, _)) = omega arith

    kept_from : (x y : ℕ) → y < get_or tos x 0 → get_or froms x 0 ≤ y → get_or froms' x 0 ≤ y
    kept_from x y u l = go (from_at x)
      where
        go : From x →
            get_or froms' x 0 ≤ y
        go (inl e) = omega arith
        go (inr (e, z, _)) = omega arith

    -- a child was noted before, or is the new one
    abbrev Place : ℕ → ℕ → Type 0
    Place x y = (max_arity * x + y < max_arity * i + k) ⊎ ((x ≡ i) × (y ≡ k))

    place : (x y : ℕ) → max_arity * x + y < max_arity * i + (k + 1) → y < get_or r x 0 →
        Place x y
    place x y u v = go (ltb (max_arity * x + y) (max_arity * i + k)) refl
      where
        go : (b : Bool) → ltb (max_arity * x + y) (max_arity * i + k) ≡ b →
            Place x y
        go true d = inl (ltb-true (max_arity * x + y) (max_arity * i + k) d)
        go false d =
            let e = ltb-false (max_arity * x + y) (max_arity * i + k) d in
            let wide = shaped.narrow i h in
            let narrow = shaped.narrow x (omega arith) in
            inr (omega arith, omega arith)

    pub noted-child : ParentsNoted r c (i + 1) (max_arity * i + (k + 1)) froms' tos'
    noted-child = record {
      sizes = (size, rw new.last (length-set tos (j - 1) (i + 1) ∙ noted.sizes.1));
      low = last;
      known = within;
      above = λ x y u v. above x y v (place x y u v);
      below = λ x y u v. below x y v (place x y u v);
    }
      where
        above : (x y : ℕ) → y < get_or r x 0 → Place x y →
            get_or froms' (child_at c x y - 1) 0 ≤ x
        above x y v (inl u) = kept_from (child_at c x y - 1) x (noted.below x y u v) (noted.above x y u v)
        above x y v (inr (e, f)) =
            omega (arith, last (child_at c x y - 1), within (child_at c x y - 1))

        below : (x y : ℕ) → y < get_or r x 0 → Place x y →
            x < get_or tos' (child_at c x y - 1) 0
        below x y v (inl u) =
            kept-to (child_at c x y - 1) x (omega (arith, shaped.narrow i h)) (noted.below x y u v)
        below x y v (inr (e, f)) = go (to_at (child_at c x y - 1))
          where
            same : child_at c x y - 1 ≡ j - 1
            same = ap₂ (λ a b. child_at c a b - 1) e f ∙ ap (λ a. a - 1) (sym own)

            go : To (child_at c x y - 1) → x < get_or tos' (child_at c x y - 1) 0
            go (inl (_, d)) = absurd (d same)
            go (inr (d, _)) = omega arith

-- ---- the spans

pub noted-spans : {m i : ℕ} {r c froms tos : List ℕ} → Shaped m r c → i ≤ m → m ≤ i →
    ParentsNoted r c i (max_arity * i) froms tos → SpansOf m r c froms tos
noted-spans shaped low high noted = record {
  each = λ j a b. record {
    known = omega (arith, noted.known (j - 1));
    above = λ i k h g e. rw e at (noted.above i k (omega (arith, shaped.narrow i h)) g);
    below = λ i k h g e. rw e at (noted.below i k (omega (arith, shaped.narrow i h)) g);
  };
}

-- the entries of one subtree
pub spanned : {m j f t : ℕ} {r c froms tos : List ℕ} → SpansOf m r c froms tos → 1 ≤ j → j ≤ m →
    f ≡ get_or froms (j - 1) 0 → t ≡ get_or tos (j - 1) 0 → ParentsWithin m r c j f t
spanned spans some known e d = rw (e, d) (spans.each _ some known)

-- a span may be wider
pub wider : {m j f t f' t' : ℕ} {r c : List ℕ} → ParentsWithin m r c j f t → f' ≤ f → t ≤ t' → t' ≤ m →
    ParentsWithin m r c j f' t'
wider within a b l = record {
  known = l;
  above = λ i k h g e. omega (arith, within.above i k h g e);
  below = λ i k h g e. omega (arith, within.below i k h g e);
}

-- a span that covers those of two subtrees
pub joined : {m i j f t : ℕ} {r c froms tos : List ℕ} → SpansOf m r c froms tos → 1 ≤ i → i < j → j ≤ m →
    f ≤ get_or froms (i - 1) 0 → f ≤ get_or froms (j - 1) 0 → get_or tos (i - 1) 0 ≤ t → get_or tos (j - 1) 0 ≤ t → t ≤ m →
    ParentsWithin m r c i f t × ParentsWithin m r c j f t
joined {m} {i} {j} spans some less known a b d e l = (
  wider (spans.each i some (omega arith)) a d l,
  wider (spans.each j (omega arith) known) b e l,
)

-- ---- tests of parents

module _ {m j from to : ℕ} {r c : List ℕ} (shaped : Shaped m r c) (within : ParentsWithin m r c j from to)
    {p : ℕ → Bool} (child : (i : ℕ) → p i ≡ true → is_child r c i j ≡ true) where
  child-place : (i : ℕ) → is_child r c i j ≡ true → (k : ℕ) × (k < get_or r (i - 1) 0) × (child_at c (i - 1) k ≡ j)
  unfolding is_child
  child-place i e =
      let (k, w, d) = any-in (child_is c i j) (up_from 0 (get_or r (i - 1) 0)) e in
      let (_, s) = up_from-in 0 (get_or r (i - 1) 0) k w in
      (k, omega arith, eqb-true (child_at c (i - 1) k) j d)

  -- the parents have numbers above j, and lie within the span
  pub parents-tested : AnyFrom (any p (up_from (j + 1) (m - j))) p (from + 1 + (to - from)) (from + 1)
  parents-tested = record {
    within = omega arith;
    left = same_test (any p (up_from (j + 1) (m - j))) (any p (up_from (from + 1) (from + 1 + (to - from) - (from + 1))))
        inwards outwards;
  }
    where
      inwards : any p (up_from (j + 1) (m - j)) ≡ true →
          any p (up_from (from + 1) (from + 1 + (to - from) - (from + 1))) ≡ true
      inwards e =
          let (i, w, d) = any-in p (up_from (j + 1) (m - j)) e in
          let (low, high) = up_from-in (j + 1) (m - j) i w in
          let (k, g, own) = child-place i (child i d) in
          let first = within.above (i - 1) k (omega arith) g own in
          let last = within.below (i - 1) k (omega arith) g own in
          in-any p (up_from (from + 1) (from + 1 + (to - from) - (from + 1))) i
          (in-up_from (from + 1) (from + 1 + (to - from) - (from + 1)) i (omega arith) (omega arith)) d

      outwards : any p (up_from (from + 1) (from + 1 + (to - from) - (from + 1))) ≡ true →
          any p (up_from (j + 1) (m - j)) ≡ true
      outwards e =
          let (i, w, d) = any-in p (up_from (from + 1) (from + 1 + (to - from) - (from + 1))) e in
          let (low, high) = up_from-in (from + 1) (from + 1 + (to - from) - (from + 1)) i w in
          let (k, g, own) = child-place i (child i d) in
          let known = within.known in
          let after = shaped.child-before (i - 1) k (omega arith) g in
          in-any p (up_from (j + 1) (m - j)) i (in-up_from (j + 1) (m - j) i (omega arith) (omega arith)) d

pub anchor-child : (n : ℕ) (r c names shared : List ℕ) (j i : ℕ) → anchors n r c names shared j i ≡ true →
    is_child r c i j ≡ true
unfolding anchors
anchor-child n r c names shared j i e =
    and_right (eqb (get_or shared (i - 1) 0) 0) _ (and_right (eqb (get_or names (i - 1) 0) (n + i)) _ e)

pub raiser-child : (n : ℕ) (r c names : List ℕ) (j i : ℕ) → raises n r c names j i ≡ true → is_child r c i j ≡ true
unfolding raises
raiser-child n r c names j i e = and_right (ltb n (get_or names (i - 1) 0)) _ e

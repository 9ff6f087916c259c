-- What `read_form` and `close_line` return and what their calls ask, each as a law that a search finds.
use Rattle.std.specs.Prelude.{Err, Ok, Result}
use Rattle.std.proofs.Common.{◌≡◌, ℕ, zero, suc, ◌+◌, ◌-◌, ◌<◌, ◌≤◌, true, false, cond, eqb, ◌⊎◌, List, [], ◌∷◌, ◌++◌, length, get_or, drop, replicate, refl, ap, ◌∙◌, subst, inl, inr, add-zero, zero-add, arith, length-append, drop_of_length-le, eq-eqb, ne_eqb}
use native.Mathlib.Nat.{sub-zero}
use lib.ListN.{length-replicate}
use lib.Seq.{length-sets, sets, sets-eq}
use Rattle.format.specs.Format.{listing_bytes, max_line}
use Rattle.text.specs.Clauses.{FormRead, LineEnd, ReaderAt, TreeRead, TreeText, read_from}
use Rattle.text.specs.Clauses.{shortest_head}
use Rattle.text.specs.Columns.{Ahead, OnLine, advanced, line_start}
use Rattle.text.specs.Grammar.{close_bracket, open_bracket, tree_text}
use Rattle.text.specs.Outcome.{no_listing, padded}
use Rattle.text.specs.Reader.{Open, agreed, bad, ending, expecting, line_read, next, read_form, scan, stuck}
use Rattle.text.specs.Reader.{tree_read, whole}
use Rattle.text.specs.declared.cursor.Cursor.{Cursor}
use Rattle.text.specs.declared.Trees.{Trees}
use Rattle.trees.specs.Listing.{listing}
use Rattle.trees.specs.Tree.{Tree}
use Rattle.lists.proofs.Tests.{test}
use Rattle.text.proofs.Agreement.{agreed-whole, agreed-within}
use Rattle.text.proofs.Cursors.{ahead, ahead-on-line, read_byte, read-end, read-on, read-stuck, start-on-line}
use Rattle.text.proofs.Forms.{form_start, scan-expected, whole-form}
use Rattle.text.proofs.Heads.{length-blank}
use Rattle.text.proofs.Scan.{ending-stuck}
use Rattle.text.proofs.Sizes.{tree-bounds, tree-size}
use Rattle.text.proofs.Text.{scan-tree}

-- ---- the end of a line

module _ (s : List ℕ) (c : Cursor) (u : ℕ) (o : OnLine s c) where
  pub line-cut : length s ≤ c.place → LineEnd s c u (Err c)
  unfolding LineEnd ending
  line-cut h = λ t. read-end o h (tree_read t) (λ n. refl)

  module _ (h : c.place < length s) where
    pub line-unclosed : (get_or s c.place 0 ≡ close_bracket → ⊥) → LineEnd s c u (Err c)
    unfolding LineEnd next
    line-unclosed k = λ t. read-stuck o h (tree_read t) (rw (ne_eqb (get_or s c.place 0) close_bracket k))

    module _ (k : get_or s c.place 0 ≡ close_bracket) (d : Cursor) (p : d ≡ advanced c 1) where
      past : Ahead c 1 d
      past = ahead o 1 d p (omega arith)

      past-on-line : OnLine s d
      past-on-line = ahead-on-line o past (omega (arith, past))

      closed : (t : Tree) → read_from s c (tree_read t) ≡ read_from s d (line_read t)
      unfolding next
      closed t = read_byte o h (tree_read t) past ∙ rw (eq-eqb (get_or s c.place 0) close_bracket k)

      pub line-more : d.place < length s → LineEnd s c u (Err d)
      unfolding LineEnd next
      line-more g = λ t. closed t ∙ read-stuck past-on-line g (line_read t) refl

      pub line-closed : length s ≤ d.place → LineEnd s c u (Ok u)
      unfolding LineEnd scan ending
      line-closed g = (refl, λ t. closed t ∙ rw (drop_of_length-le s {i = d.place} g))

-- ---- the head of a form

-- a line that leaves its head is not allowed from there on
head-broken : (s w u : List ℕ) (n : ℕ) (os : List Open) → agreed s w < length w →
    ending (n + length s) (scan s n (expecting (w ++ u) os)) ≡ bad (n + agreed s w)
unfolding agreed scan ending next
head-broken [] [] u n os h = absurd (omega arith)
head-broken [] (v ∷ w) u n os h = refl
head-broken (b ∷ s) [] u n os h = absurd (omega arith)
head-broken (b ∷ s) (v ∷ w) u n os h = go (λ k. head-broken s w u (suc n) os k) (test (eqb b v))
  where
    go : (agreed s w < length w →
        ending (suc n + length s) (scan s (suc n) (expecting (w ++ u) os)) ≡ bad (suc n + agreed s w)) →
        (eqb b v ≡ true) ⊎ (eqb b v ≡ false) →
        ending (n + suc (length s)) (scan s (suc n) (cond (eqb b v) (expecting (w ++ u) os) (stuck n))) ≡
        bad (n + cond (eqb b v) (suc (agreed s w)) 0)
    go ih (inl e) =
        let k = rw e at h in
        let p : suc n + length s ≡ n + suc (length s) = omega arith in
        let q : suc n + agreed s w ≡ n + suc (agreed s w) = omega arith in
        rw (e, ← p, ← q) (ih (omega arith))
    go ih (inr e) = rw (e, add-zero n) (ending-stuck (n + suc (length s)) s (suc n) n)

-- ---- a form

drop-replicate : (k n : ℕ) → drop {A = ℕ} k (replicate n 0) ≡ replicate (n - k) 0
drop-replicate zero n = rw (sub-zero n)
drop-replicate (suc k) zero = let e : 0 - suc k ≡ 0 = omega arith in rw e
drop-replicate (suc k) (suc n) = let e : suc n - suc k ≡ n - k = omega arith in rw e (drop-replicate k n)

-- a listing that was written to zeros
sets-blank : (v : List ℕ) → length v ≤ listing_bytes → sets no_listing 0 v ≡ padded v
unfolding no_listing padded
sets-blank v h =
    sets-eq v (replicate listing_bytes 0) 0 (rw (length-replicate {A = ℕ} listing_bytes 0, zero-add (length v)) h) ∙
    rw (zero-add (length v), drop-replicate (length v) listing_bytes)

module _ (w s : List ℕ) (n : length s ≤ max_line) (k : ℕ) (a : k ≡ agreed s w) (b d : Cursor) (e : b ≡ line_start)
    (f : d ≡ advanced b k) where
  -- the bytes in which the line agrees with the head are read
  pub agreed-ahead : Ahead line_start k d
  agreed-ahead =
      ahead (start-on-line s n) k d (f ∙ ap (λ (x : Cursor). advanced x k) e) (omega (arith, (agreed-within s w).0))

  pub form-headless : (l : List ℕ) → k < length w → length l ≡ listing_bytes → FormRead w s l (Err d)
  unfolding read_form FormRead
  form-headless l h z =
      let p : 1 + length s ≡ suc (length s) = omega arith in
      let q : 1 + agreed s w ≡ d.column = omega (arith, agreed-ahead) in
      (rw (← p) (head-broken s w (open_bracket ∷ []) 1 [] (omega arith) ∙ ap bad q), z)

  module _ (h : length w ≤ k) where
    head-on-line : OnLine s d
    head-on-line =
        ahead-on-line (start-on-line s n) agreed-ahead (omega (arith, agreed-ahead, (agreed-within s w).0))

    head_read : read_form w s ≡ read_from s d (expecting (open_bracket ∷ []) [])
    unfolding read_form
    head_read =
        let i : k ≡ length w = omega (arith, (agreed-within s w).1) in
        let j : d.place ≡ length w = omega (arith, agreed-ahead) in
        let g : Ahead line_start (length w) d = rw (← i) agreed-ahead in
        read-on (start-on-line s n) w (form_start w) (expecting (open_bracket ∷ []) [])
        (agreed-whole s w (omega arith) ∙ rw j)
        g (λ m. scan-expected w (open_bracket ∷ []) (drop d.place s) m [])

    -- the tree was looked for after the head
    module _ (l : List ℕ) (c : l ≡ no_listing) where
      pub form-ready : ReaderAt s d l 0
      form-ready = record { line = head-on-line; size = ap length c ∙ length-blank; room = omega arith }

      module _ (m : List ℕ) where
        pub form-refused : (g : Cursor) → TreeRead s d l 0 m (Err g) → FormRead w s m (Err g)
        unfolding FormRead TreeRead
        form-refused g v = (head_read ∙ v.refused [], v.size ∙ form-ready.size)

        module _ (o : Trees) (x : TreeRead s d l 0 m (Ok o)) where
          abbrev pub g : Cursor
          g = o.end

          abbrev pub u : ℕ
          u = o.filled

          form-tree : TreeText s d no_listing 0 m g u
          unfolding TreeRead
          form-tree = subst (λ y. TreeText s d y 0 m g u) c x

          pub form-tree-on-line : OnLine s g
          form-tree-on-line = (tree-bounds head-on-line form-tree).line

          after-tree : read_form w s ≡ read_from s g (tree_read form-tree.tree)
          after-tree =
              let t = form-tree.tree in
              head_read ∙
              read-on head-on-line (tree_text t) (expecting (open_bracket ∷ []) []) (tree_read t) form-tree.text
              form-tree.after (λ i. scan-tree t (drop g.place s) i [] form-tree.labels)

          pub form-closed : shortest_head ≤ length w → (q : Result ℕ Cursor) → LineEnd s g u q → FormRead w s m q
          unfolding FormRead LineEnd
          form-closed i (Ok v) (p, y) =
              let t = form-tree.tree in
              let o : read_form w s ≡ whole t = after-tree ∙ y t in
              let q = ap length (whole-form w s t o).0 ∙ length-append w (tree_text t ++ (close_bracket ∷ [])) in
              let z' = length-append (tree_text t) (close_bracket ∷ []) in
              let a' = tree-size t in
              let p' : length (listing t) ≤ listing_bytes = omega (arith, q, z', a'.listed, a'.text) in
              (t, o, p ∙ form-tree.end ∙ zero-add (length (listing t)), form-tree.written ∙ sets-blank (listing t) p')
          form-closed i (Err v) y = (
            after-tree ∙ y form-tree.tree,
            ap length form-tree.written ∙ length-sets no_listing 0 (listing form-tree.tree) ∙ length-blank,
          )

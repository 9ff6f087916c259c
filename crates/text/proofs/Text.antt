-- Scanning and the grammar: the text of a tree is scanned to its end, and what was scanned up to a place is the text
-- that stands before it.
use Rattle.std.proofs.Common.{◌≡◌, ℕ, zero, suc, ◌+◌, ◌-◌, ◌/◌, ◌%◌, ◌<◌, ◌≤◌, true, false, ltb, ◌⊎◌, List, [], ◌∷◌, ◌++◌, length, refl, ◌∙◌, subst, inl, inr, append_assoc, add-zero, add-one, arith, length-append, ltb-false, ltb-true}
use Rattle.format.specs.Format.{max_label}
use Rattle.lists.specs.Decimal.{digit}
use Rattle.text.specs.Grammar.{AllLabelled, Labelled, children_text, close_bracket, label_text}
use Rattle.text.specs.Grammar.{open_bracket, tree_text}
use Rattle.text.specs.Reader.{Open, among, after_tree, expecting, extended, naming, next, onward, scan}
use Rattle.trees.specs.Tree.{Forest, Tree, ◌⧺◌, cons, nil, node}
use Rattle.lists.proofs.Decimal.{decimal_digit}
use Rattle.lists.proofs.Tests.{test}
use Rattle.text.proofs.Labels.{Extends, digit-true, label-extended, true-extends}
use Rattle.trees.proofs.Trees.{snoc-append}
use Rattle.trees.proofs.Forests.{append-none}

-- ---- the text of a tree is scanned to its end

module _ (os : List Open) where
  -- the text of a label is scanned
  abbrev pub Scanned : ℕ → Type 0
  Scanned a = (s : List ℕ) (n : ℕ) →
      scan (label_text a ++ s) n (expecting [] os) ≡ scan s (n + length (label_text a)) (naming a os)

  scanned-digit : (a : ℕ) → a < 10 → Scanned a
  unfolding scan next
  scanned-digit a h s n =
      let e : digit a - digit 0 ≡ a = omega arith in
      let p : scan (digit a ∷ s) n (expecting [] os) ≡ scan s (n + 1) (naming a os) =
      rw (digit-true a h, e, add-one n) in
      rw (decimal_digit a h) p

  scanned-more : (a b : ℕ) → Extends a b → Scanned a → Scanned (extended a b)
  unfolding scan next
  scanned-more a b x ih s n =
      let e : n + (length (label_text a) + 1) ≡ suc (n + length (label_text a)) = omega arith in
      rw (label-extended a b x, append_assoc (label_text a) (b ∷ []) s, length-append (label_text a) (b ∷ []), e)
      (ih (b ∷ s) n ∙ rw (true-extends a b x))

  last-digit : (a : ℕ) → 10 ≤ a → a ≤ max_label → Extends (a / 10) (digit (a % 10)) × (extended (a / 10) (digit
      (a % 10)) ≡ a)
  last-digit a h k =
      let e : extended (a / 10) (digit (a % 10)) ≡ a = omega arith in
      (record { low = omega arith; high = omega arith; nonzero = omega arith; fits = omega arith }, e)

  -- a number is scanned if that without its last digit is
  scanned-last : (a : ℕ) → 10 ≤ a → a ≤ max_label → Scanned (a / 10) → Scanned a
  scanned-last a h k ih =
      let d = last-digit a h k in
      subst Scanned d.1 (scanned-more (a / 10) (digit (a % 10)) d.0 ih)

  scan-label-below : (k a : ℕ) → a < k → a ≤ max_label → Scanned a
  scan-label-below zero a h l = absurd (omega arith)
  scan-label-below (suc k) a h l = go (test (ltb a 10)) (λ p q. scan-label-below k (a / 10) p q)
    where
      go : (ltb a 10 ≡ true) ⊎ (ltb a 10 ≡ false) → (a / 10 < k → a / 10 ≤ max_label → Scanned (a / 10)) → Scanned a
      go (inl e) ih = scanned-digit a (ltb-true a 10 e)
      go (inr e) ih =
          let m : 10 ≤ a = ltb-false a 10 e in scanned-last a m l (ih (omega arith) (omega arith))

  pub scan-label : (a : ℕ) → a ≤ max_label → Scanned a
  scan-label a l = scan-label-below (suc a) a (omega arith) l

-- after a label children are read as after a child
naming-children : (f : Forest) (s : List ℕ) (n a : ℕ) (os : List Open) →
    scan (children_text f ++ (close_bracket ∷ s)) n (naming a os) ≡
    scan (children_text f ++ (close_bracket ∷ s)) n (among a nil os)
unfolding scan next
naming-children nil s n a os = refl
naming-children (cons t f) s n a os = refl

-- after a whole tree the nodes around it go on
mutual
  unfolding scan next onward

  pub scan-tree : (t : Tree) (s : List ℕ) (n : ℕ) (os : List Open) → Labelled t →
      scan (tree_text t ++ s) n (expecting (open_bracket ∷ []) os) ≡ scan s (n + length (tree_text t)) (after_tree t os)
  scan-tree (node a f) s n os h = go (λ m. scan-children f (close_bracket ∷ s) m a nil os h.1)
    where
      go : ((m : ℕ) → scan (children_text f ++ (close_bracket ∷ s)) m (among a nil os) ≡
          scan (close_bracket ∷ s) (m + length (children_text f)) (among a f os)) →
          scan ((label_text a ++ (children_text f ++ (close_bracket ∷ []))) ++ s) (suc n) (expecting [] os) ≡
          scan s (n + suc (length (label_text a ++ (children_text f ++ (close_bracket ∷ []))))) (after_tree (node a f) os)
      go ih =
          let l = label_text a in
          let k = suc n + length l in
          let e : n + suc (length l + (length (children_text f) + 1)) ≡ suc (k + length (children_text f)) =
          omega arith in
          rw (
            append_assoc l (children_text f ++ (close_bracket ∷ [])) s,
            append_assoc (children_text f) (close_bracket ∷ []) s,
            length-append l (children_text f ++ (close_bracket ∷ [])),
            length-append (children_text f) (close_bracket ∷ []),
            e,
          )
          (scan-label os a h.0 (children_text f ++ (close_bracket ∷ s)) (suc n) ∙ naming-children f s k a os ∙ ih k)

  pub scan-children : (f : Forest) (s : List ℕ) (n a : ℕ) (g : Forest) (os : List Open) → AllLabelled f →
      scan (children_text f ++ s) n (among a g os) ≡ scan s (n + length (children_text f)) (among a (g ⧺ f) os)
  scan-children nil s n a g os h = rw (add-zero n, append-none g)
  scan-children (cons t f) s n a g os h =
      go (scan-tree t (children_text f ++ s) (suc n) (record { label = a; children = g } ∷ os) h.0)
      (λ m. scan-children f s m a (g ⧺ cons t nil) os h.1)
    where
      go : scan (tree_text t ++ (children_text f ++ s)) (suc n)
          (expecting (open_bracket ∷ []) (record { label = a; children = g } ∷ os)) ≡
          scan (children_text f ++ s) (suc n + length (tree_text t)) (among a (g ⧺ cons t nil) os) →
          ((m : ℕ) → scan (children_text f ++ s) m (among a (g ⧺ cons t nil) os) ≡
          scan s (m + length (children_text f)) (among a ((g ⧺ cons t nil) ⧺ f) os)) →
          scan ((tree_text t ++ children_text f) ++ s) (suc n)
          (expecting (open_bracket ∷ []) (record { label = a; children = g } ∷ os)) ≡
          scan s (n + suc (length (tree_text t ++ children_text f))) (among a (g ⧺ cons t f) os)
      go d ih =
          let k = suc n + length (tree_text t) in
          let e : n + suc (length (tree_text t) + length (children_text f)) ≡ k + length (children_text f) =
          omega arith in
          rw (
            append_assoc (tree_text t) (children_text f) s,
            length-append (tree_text t) (children_text f),
            e,
            ← snoc-append g t f,
          ) (d ∙ ih k)

-- The text before a place: what was scanned on the way to it.
use Rattle.std.proofs.Common.{◌≡◌, ℕ, suc, ◌≤◌, true, false, eqb, ◌⊎◌, List, [], ◌∷◌, ◌++◌, sym, refl, ap, ◌∙◌, subst, inl, inr, append_assoc, append-nil, arith, eqb-true}
use Rattle.format.specs.Format.{max_label}
use Rattle.text.specs.Grammar.{AllLabelled, Labelled, children_text, close_bracket, label_text, open_bracket}
use Rattle.text.specs.Grammar.{space, tree_text}
use Rattle.text.specs.Reader.{Open, Place, among, after_tree, expecting, extends, is_digit, line_read, naming, next}
use Rattle.text.specs.Reader.{onward, scan, stuck, tree_read}
use Rattle.trees.specs.Tree.{Forest, Tree, ◌⧺◌, cons, nil, node}
use Rattle.lists.proofs.Tests.{test}
use Rattle.text.proofs.Labels.{digit-bounds, extends-true, label-digit, label-extended}

-- the text of a node up to where it is read
node_start : ℕ → Forest → List ℕ
node_start a f = open_bracket ∷ (label_text a ++ children_text f)

-- The text before a tree, by the nodes around it; w is what stands before them all
abbrev open_text : List ℕ → List Open → List ℕ
open_text w [] = w
open_text w (o ∷ os) = open_text w os ++ (node_start o.label o.children ++ (space ∷ []))

abbrev After : List ℕ → Place → List ℕ → Type 0
After w (expecting v os) s = s ++ v ≡ open_text w os ++ (open_bracket ∷ [])
After w (naming a os) s = s ≡ open_text w os ++ (open_bracket ∷ label_text a)
After w (among a f os) s = s ≡ open_text w os ++ node_start a f
After w (tree_read t) s = s ≡ w ++ tree_text t
After w (line_read t) s = s ≡ w ++ (tree_text t ++ (close_bracket ∷ []))
After w (stuck m) s = Unit {0}

abbrev FitOpen : List Open → Type 0
FitOpen [] = Unit {0}
FitOpen (o ∷ os) = (o.label ≤ max_label) × AllLabelled o.children × FitOpen os

-- every label read is up to the largest
abbrev Fit : Place → Type 0
Fit (expecting v os) = FitOpen os
Fit (naming a os) = (a ≤ max_label) × FitOpen os
Fit (among a f os) = (a ≤ max_label) × AllLabelled f × FitOpen os
Fit (tree_read t) = Labelled t
Fit (line_read t) = Labelled t
Fit (stuck m) = Unit {0}

children-append : (f g : Forest) → children_text (f ⧺ g) ≡ children_text f ++ children_text g
children-append nil g = refl
children-append (cons t f) g =
    rw (children-append f g) (ap (λ x. space ∷ x) (sym (append_assoc (tree_text t) (children_text f) (children_text g))))

all-labelled-append : (f : Forest) (t : Tree) → AllLabelled f → Labelled t → AllLabelled (f ⧺ cons t nil)
all-labelled-append nil t h k = (k, tt)
all-labelled-append (cons u f) t h k = (h.0, all-labelled-append f t h.1 k)

-- what is known of a place: the text before it, and that its labels fit
Known : List ℕ → Place → List ℕ → Type 0
Known w p s = After w p s × Fit p

node-text : (a : ℕ) (f : Forest) → node_start a f ++ (close_bracket ∷ []) ≡ tree_text (node a f)
unfolding node_start
node-text a f = ap (λ x. open_bracket ∷ x) (append_assoc (label_text a) (children_text f) (close_bracket ∷ []))

known-after : (w : List ℕ) (a : ℕ) (f : Forest) (os : List Open) (s : List ℕ) → a ≤ max_label → AllLabelled f →
    FitOpen os → s ≡ open_text w os ++ node_start a f → Known w (after_tree (node a f) os) (s ++ (close_bracket ∷ []))
unfolding Known node_start
known-after w a f [] s h k l e =
    (rw (e, append_assoc w (node_start a f) (close_bracket ∷ [])) (ap (λ x. w ++ x) (node-text a f)), (h, k))
known-after w a f (o ∷ os) s h k l e =
    let b = open_text w os in
    let l' = label_text o.label in
    let c = children_text o.children in
    let v = node_start a f in
    let z = close_bracket ∷ [] in
    let p : ((b ++ (node_start o.label o.children ++ (space ∷ []))) ++ v) ++ z ≡
    b ++ (open_bracket ∷ (l' ++ (c ++ (space ∷ (v ++ z))))) = simp append_assoc in (
      rw (
        e,
        p,
        node-text a f,
        children-append o.children (cons (node a f) nil),
        append-nil (tree_text (node a f)),
      ),
      (l.0, all-labelled-append o.children (node a f) l.1 (h, k), l.2),
    )

known-onward : (w : List ℕ) (n a : ℕ) (f : Forest) (os : List Open) (b : ℕ) (s : List ℕ) → a ≤ max_label →
    AllLabelled f → FitOpen os → s ≡ open_text w os ++ node_start a f → Known w (onward n a f os b) (s ++ (b ∷ []))
unfolding Known onward
known-onward w n a f os b s h k l e = go (test (eqb b close_bracket)) (test (eqb b space))
  where
    go : (eqb b close_bracket ≡ true) ⊎ (eqb b close_bracket ≡ false) → (eqb b space ≡ true) ⊎ (eqb b space ≡ false) →
        Known w (onward n a f os b) (s ++ (b ∷ []))
    go (inl p) r = rw (p, eqb-true b close_bracket p) (known-after w a f os s h k l e)
    go (inr p) (inl q) =
        rw (p, q, eqb-true b space q) (
          ap (λ x. (x ++ (space ∷ [])) ++ (open_bracket ∷ [])) e ∙ ap (λ x. x ++ (open_bracket ∷ []))
              (append_assoc (open_text w os) (node_start a f) (space ∷ [])),
          (h, k, l),
        )
    go (inr p) (inr q) = rw (p, q) (tt, tt)

known_next : (w : List ℕ) (n : ℕ) (p : Place) (b : ℕ) (s : List ℕ) → Known w p s →
    Known w (next n p b) (s ++ (b ∷ []))
unfolding Known next node_start
known_next w n (expecting [] os) b s (e, l) = go (test (is_digit b))
  where
    go : (is_digit b ≡ true) ⊎ (is_digit b ≡ false) → Known w (next n (expecting [] os) b) (s ++ (b ∷ []))
    go (inl d) =
        let (low, high) = digit-bounds b d in
        rw (d, label-digit b low high) (
          ap (λ x. x ++ (b ∷ [])) (sym (append-nil s) ∙ e) ∙ append_assoc (open_text w os) (open_bracket ∷ []) (b ∷ []),
          (omega arith, l),
        )
    go (inr d) = rw d (tt, tt)
known_next w n (expecting (v ∷ vs) os) b s (e, l) = go (test (eqb b v))
  where
    go : (eqb b v ≡ true) ⊎ (eqb b v ≡ false) → Known w (next n (expecting (v ∷ vs) os) b) (s ++ (b ∷ []))
    go (inl d) = rw (d, eqb-true b v d) (append_assoc s (v ∷ []) vs ∙ e, l)
    go (inr d) = rw d (tt, tt)
known_next w n (naming a os) b s (e, (h, l)) = go (test (extends a b))
  where
    go : (extends a b ≡ true) ⊎ (extends a b ≡ false) → Known w (next n (naming a os) b) (s ++ (b ∷ []))
    go (inl d) =
        let x = extends-true a b d in
        rw (d, label-extended a b x)
        (ap (λ y. y ++ (b ∷ [])) e ∙ append_assoc (open_text w os) (open_bracket ∷ label_text a) (b ∷ []), (x.fits, l))
    go (inr d) =
        rw d (known-onward w n a nil os b s h tt l (e ∙ ap (λ y. open_text w os ++ (open_bracket ∷ y))
        (sym (append-nil (label_text a)))))
known_next w n (among a f os) b s (e, (h, k, l)) = known-onward w n a f os b s h k l e
known_next w n (tree_read t) b s (e, l) = go (test (eqb b close_bracket))
  where
    go : (eqb b close_bracket ≡ true) ⊎ (eqb b close_bracket ≡ false) →
        Known w (next n (tree_read t) b) (s ++ (b ∷ []))
    go (inl d) =
        rw (d, eqb-true b close_bracket d)
        (ap (λ x. x ++ (close_bracket ∷ [])) e ∙ append_assoc w (tree_text t) (close_bracket ∷ []), l)
    go (inr d) = rw d (tt, tt)
known_next w n (line_read t) b s (e, l) = (tt, tt)
known_next w n (stuck m) b s (e, l) = (tt, tt)

known-scan : (w r : List ℕ) (n : ℕ) (p : Place) (s : List ℕ) → Known w p s → Known w (scan r n p) (s ++ r)
unfolding scan
known-scan w [] n p s k = subst (Known w p) (sym (append-nil s)) k
known-scan w (b ∷ r) n p s k =
    subst (Known w (scan r (suc n) (next n p b))) (append_assoc s (b ∷ []) r)
    (known-scan w r (suc n) (next n p b) (s ++ (b ∷ [])) (known_next w n p b s k))

-- a line that is scanned to its end is its text, and every label fits
pub scan-sound : (w s : List ℕ) (n : ℕ) (t : Tree) → scan s n (expecting (w ++ (open_bracket ∷ [])) []) ≡ line_read t →
    (s ≡ w ++ (tree_text t ++ (close_bracket ∷ []))) × Labelled t
unfolding Known
scan-sound w s n t e =
    subst (λ p. Known w p s) e (known-scan w s n (expecting (w ++ (open_bracket ∷ [])) []) [] (refl, tt))

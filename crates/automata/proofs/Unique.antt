-- UNIQUE: a set has one canonical automaton.
use mathlib.Core.Bool.{Bool, false, true}
use mathlib.Core.List.{List, ◌∷◌}
use mathlib.Core.Logic.{◌⊎◌, inl, inr}
use mathlib.Core.Path.{◌∙◌, ◌≡◌, ap, refl, subst, sym}
use Prim.Native.Nat.{◌<◌, ◌≤◌, suc, zero, ℕ}
use native.Mathlib.Omega.{arith}
use lib.Dec.{eqb, leb, ltb}
use lib.ListN.{get_or}
use lib.Seq.{ext_get_or}
use borrow.Author.Tests.{eqb-true, leb-false, leb-true, ltb-false, ltb-true}
use Rattle.automata.specs.Automaton.{Automaton, Transition, states}
use Rattle.automata.specs.Canonical.{Canonical, Occurs, Subtree, each_tree, transition_of}
use Rattle.automata.specs.Numbered.{first_open, opens}
use Rattle.automata.specs.Order.{key, lex, precedes}
use Rattle.lists.specs.Positions.{up_from}
use Rattle.lists.specs.Tests.{◌∈◌, every, same_list}
use Rattle.trees.specs.Tree.{AllTrees, Forest, Tree, ◌⧺◌, cons, nil, node}
use Rattle.automata.proofs.Order.{Opening, first_opening, lex_irrefl, lex-trans, rising-unique}
use Rattle.lists.proofs.Positions.{in-up_from}
use Rattle.lists.proofs.Tests.{and_both, and_left, and_right, every_in}
use Rattle.trees.proofs.Trees.{snoc-append}

-- the children of a subtree are subtrees
module _ (S : Tree → Bool) (a : ℕ) where
  children-after : (b f : Forest) → Subtree S (node a (b ⧺ f)) → AllTrees (Subtree S) f
  children-after b nil p = tt
  children-after b (cons t f) p = (
    (record { label = a; before = b; after = f } ∷ p.0, p.1),
    children-after (b ⧺ cons t nil) f
        (rw (snoc-append b t f) p),
  )

  pub children : (f : Forest) → Subtree S (node a f) → AllTrees (Subtree S) f
  children f p = children-after nil f p

module _ (S : Tree → Bool) (A B : Automaton) (X : Canonical S A) (Y : Canonical S B) where
  -- the groups up to k have the same numbers
  pub Agree : ℕ → Type 0
  Agree k = (t : Tree) → Subtree S t → X.group t ≤ k → X.group t ≡ Y.group t

  agree-each : (k : ℕ) → Agree k → (f : Forest) → AllTrees (Subtree S) f →
      every (λ q. leb q k) (each_tree X.group f) ≡ true → each_tree X.group f ≡ each_tree Y.group f
  unfolding Agree
  agree-each k s nil p e = refl
  agree-each k s (cons t f) p e =
      cc (
        s t p.0 (leb-true (X.group t) k (and_left _ _ e)),
        agree-each k s f p.1
            (and_right (leb (X.group t) k) _ e),
      )

  pub opening : (k : ℕ) → k < states A → Opening k A.transitions
  opening k h =
      first_opening k A.transitions X.sorted
      (eqb-true (first_open k A.transitions) (suc k)
      (every_in (λ k. eqb (first_open k A.transitions) (suc k)) (up_from 0 (states A)) X.ruled k
      (in-up_from 0 (states A) k (omega arith) (omega arith))))

module _ (S : Tree → Bool) (A B : Automaton) (X : Canonical S A) (Y : Canonical S B) where
  -- the transition of B for a transition of A that opens the number k + 1
  pub Counterpart : ℕ → Transition → Type 0
  Counterpart k l =
      (a : ℕ) × (f : Forest) × Subtree S (node a f) × (l ≡ transition_of X.group a f) ×
      (transition_of Y.group a f ∈ B.transitions) ×
      (opens k (transition_of Y.group a f) ≡ true) × (key (transition_of Y.group a f) ≡ key l)

  pub counterpart : (k : ℕ) → Agree S A B X Y k → Agree S B A Y X k → (l : Transition) →
      l ∈ A.transitions → opens k l ≡ true → Counterpart k l
  unfolding Agree Counterpart
  counterpart k s r l i o = go (X.only l i)
    where
      above : (t : Tree) → Subtree S t → k < X.group t → (b : Bool) → ltb k (Y.group t) ≡ b → b ≡ true
      above t p h true e = refl
      above t p h false e =
          absurd (omega (arith, ltb-false k (Y.group t) e, r t p (ltb-false k (Y.group t) e)))

      go : Occurs S X.group l → Counterpart k l
      go (a, f, p, e) =
          let o' : opens k (transition_of X.group a f) ≡ true = rw e at o in
          let small = and_left (every (λ q. leb q k) (each_tree X.group f)) (ltb k (X.group (node a f)))
          o' in
          let large = ltb-true k (X.group (node a f))
          (and_right (every (λ q. leb q k) (each_tree X.group f)) _ o') in
          let g = agree-each S A B X Y k s f (children S a f p) small in (
            a,
            f,
            p,
            e,
            Y.occurs a f p,
            and_both (rw g at small)
                (above (node a f) p large (ltb k (Y.group (node a f))) refl),
            rw (e, g) refl,
          )

module _ (S : Tree → Bool) (A B : Automaton) (X : Canonical S A) (Y : Canonical S B) where
  -- a transition of A and that of B which opens the same number have the same subtrees, and so the same group
  pub next : (k : ℕ) → k < states A → Agree S A B X Y k → Agree S B A Y X k →
      (t : Tree) × Subtree S t × (X.group t ≡ suc k) × (Y.group t ≡ suc k)
  unfolding Opening Counterpart
  next k h s r = go (opening S A B X Y k h)
    where
      go : Opening k A.transitions →
          (t : Tree) × Subtree S t × (X.group t ≡ suc k) × (Y.group t ≡ suc k)
      go (l, i, o, u, least) = with-counterpart (counterpart S A B X Y k s r l i o)
        where
          with-counterpart : Counterpart S A B X Y k l →
              (t : Tree) × Subtree S t × (X.group t ≡ suc k) × (Y.group t ≡ suc k)
          with-counterpart (a, f, p, e, j, q, same_list) =
              with-other (opening S B A Y X k
              (omega (
                arith,
                Y.range (node a f) p,
                ltb-true k (Y.group (node a f))
                    (and_right (every (λ q. leb q k) (each_tree Y.group f)) _ q),
              )))
            where
              settle : (m : Transition) → (m.out ≡ suc k) →
                  (transition_of Y.group a f ≡ m) ⊎ (precedes m (transition_of Y.group a f) ≡ true) →
                  Counterpart S B A Y X k m → Y.group (node a f) ≡ suc k
              settle m v (inl z) w = ap (λ (l : Transition). l.out) z ∙ v
              settle m v (inr z) (a', f', p', e', j', q', same') =
                  absurd (clash (least (transition_of X.group a' f') j' q'))
                where
                  clash : (transition_of X.group a' f' ≡ l) ⊎
                      (precedes l (transition_of X.group a' f') ≡ true) → ⊥
                  clash (inl y) =
                      lex_irrefl (key m)
                      (subst (λ (x : List ℕ). lex (key m) x ≡ true) (same_list ∙ ap key (sym y) ∙ same') z)
                  clash (inr y) =
                      lex_irrefl (key m)
                      (lex-trans (key m) (key l) (key m)
                      (subst (λ (x : List ℕ). lex (key m) x ≡ true) same_list z)
                      (subst (λ (x : List ℕ). lex (key l) x ≡ true) same' y))

              with-other : Opening k B.transitions →
                  (t : Tree) × Subtree S t × (X.group t ≡ suc k) × (Y.group t ≡ suc k)
              with-other (m, i', o', v, least') = (
                node a f,
                p,
                ap (λ (l : Transition). l.out) (sym e)
                    ∙ u,
                settle m v (least' (transition_of Y.group a f) j q)
                    (counterpart S B A Y X k r s m i' o'),
              )

  -- one more number
  pub onward : (k : ℕ) → k < states A → Agree S A B X Y k → Agree S B A Y X k →
      Agree S A B X Y (suc k) × Agree S B A Y X (suc k)
  unfolding Agree
  onward k h s r = go (next k h s r)
    where
      go : (t : Tree) × Subtree S t × (X.group t ≡ suc k) × (Y.group t ≡ suc k) →
          Agree S A B X Y (suc k) × Agree S B A Y X (suc k)
      go (t, p, u, v) =
          (λ w q l. left w q (leb (X.group w) k) refl l, λ w q l. right w q (leb (Y.group w) k) refl l)
        where
          left : (w : Tree) → Subtree S w → (b : Bool) → leb (X.group w) k ≡ b → X.group w ≤ suc k →
              X.group w ≡ Y.group w
          left w q true e l = s w q (leb-true (X.group w) k e)
          left w q false e l = let z : X.group w ≡ suc k = omega (arith, leb-false) in
              cc (z, u, v, Y.joins w t q p (X.separates w t q p (z ∙ sym u)))

          right : (w : Tree) → Subtree S w → (b : Bool) → leb (Y.group w) k ≡ b → Y.group w ≤ suc k →
              Y.group w ≡ X.group w
          right w q true e l = r w q (leb-true (Y.group w) k e)
          right w q false e l = let z : Y.group w ≡ suc k = omega (arith, leb-false) in
              cc (z, u, v, X.joins w t q p (Y.separates w t q p (z ∙ sym v)))

module _ (S : Tree → Bool) (A B : Automaton) (X : Canonical S A) (Y : Canonical S B) where
  agree : (k : ℕ) → Agree S A B X Y k × Agree S B A Y X k
  unfolding Agree
  agree zero =
      (λ t p l. absurd (omega (arith, X.range t p)), λ t p l. absurd (omega (arith, Y.range t p)))
  agree (suc k) = go (agree k) (ltb k (states A)) (ltb k (states B)) refl refl
    where
      go : Agree S A B X Y k × Agree S B A Y X k → (b c : Bool) → ltb k (states A) ≡ b →
          ltb k (states B) ≡ c → Agree S A B X Y (suc k) × Agree S B A Y X (suc k)
      go (s, r) true c e d = onward S A B X Y k (ltb-true k (states A) e) s r
      go (s, r) false true e d = let w = onward S B A Y X k (ltb-true k (states B) d) r s in (w.1, w.0)
      go (s, r) false false e d = (
        λ t p l. s t p (omega (arith, X.range t p, ltb-false)),
        λ t p l. r t p
            (omega (arith, Y.range t p, ltb-false)),
      )

  pub groups-same : (t : Tree) → Subtree S t → X.group t ≡ Y.group t
  unfolding Agree
  groups-same t p = (agree (X.group t)).0 t p (omega arith)

  each_same : (f : Forest) → AllTrees (Subtree S) f → each_tree X.group f ≡ each_tree Y.group f
  each_same nil p = refl
  each_same (cons t f) p = cc (groups-same t p.0, each_same f p.1)

  transition-same : (a : ℕ) (f : Forest) → Subtree S (node a f) →
      transition_of X.group a f ≡ transition_of Y.group a f
  transition-same a f p = let e = each_same f (children S a f p) in let o = groups-same (node a f) p in
      λ i. record { label = a; args = e i; out = o i }

  pub transitions-in : (l : Transition) → l ∈ A.transitions → l ∈ B.transitions
  transitions-in l i = let (a, f, p, e) = X.only l i in rw (e, transition-same a f p) (Y.occurs a f p)

  pub fewer : states A ≤ states B
  fewer = go (states A) refl
    where
      go : (n : ℕ) → n ≡ states A → states A ≤ states B
      go zero e = omega arith
      go (suc n) e = let (t, p, g) = X.onto (states A) (omega arith) (omega arith) in
          omega (arith, Y.range t p, groups-same t p)

  pub class_same : (q : ℕ) → q < states A → get_or A.classes q false ≡ get_or B.classes q false
  class_same q h = let (t, p, g) = X.onto (suc q) (omega arith) (omega arith) in
      cc (X.classed t p, Y.classed t p, groups-same t p)

pub unique : (S : Tree → Bool) (A B : Automaton) → Canonical S A → Canonical S B → A ≡ B
unique S A B X Y =
    let c = ext_get_or false A.classes B.classes (omega (arith, fewer S A B X Y, fewer S B A Y X))
    (class_same S A B X Y) in
    let l = rising-unique A.transitions B.transitions X.sorted Y.sorted
    (transitions-in S A B X Y) (transitions-in S B A Y X) in
    λ i. record { classes = c i; transitions = l i }

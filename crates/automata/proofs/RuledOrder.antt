-- Transitions have one numbering by the rule: an order that is right by the rule is that of the definition.
use mathlib.Core.Bool.{Bool, false, false≢true, not, true, true≢false}
use mathlib.Core.List.{List, [], ◌++◌, ◌∷◌, map}
use mathlib.Core.Logic.{◌⊎◌, inl, inr}
use mathlib.Core.Path.{◌∙◌, ◌≡◌, ap, refl, subst, sym}
use Prim.Native.Nat.{◌≤◌, suc, zero, ℕ}
use native.Mathlib.Omega.{arith}
use lib.Dec.{eqb, ltb}
use lib.ListN.{get_or, length, length-map, take}
use lib.Seq.{take-length, take-suc}
use borrow.Author.Tests.{ltb-false, ltb-true}
use Rattle.automata.specs.Automaton.{Transition}
use Rattle.automata.specs.Order.{key, lex, precedes}
use Rattle.automata.specs.Renumber.{number_of, numbering, ready, renumber, renumbered, sort}
use Rattle.automata.specs.RuledOrder.{RuledOrder}
use Rattle.lists.specs.Closure.{elem}
use Rattle.lists.specs.Tests.{◌∈◌, every}
use Rattle.automata.proofs.Numbering.{Best, Exhausted, Opened, Opened-each, numbering-opened}
use Rattle.automata.proofs.Numbers.{get_d-number, number-inj}
use Rattle.automata.proofs.Order.{Opening, first_opening, key-equal, lex-asym, lex-cases, lex-self}
use Rattle.automata.proofs.Order.{rising-one, rising-unique}
use Rattle.automata.proofs.Prefixes.{key-same, opens-ready, ready-opens}
use Rattle.automata.proofs.ProductLaws.{rising-distinct}
use Rattle.automata.proofs.Sorting.{OneTransition, in-sort, sort-in, sort-rising}
use Rattle.lists.proofs.Distinct.{distinct-all}
use Rattle.lists.proofs.Tests.{and_left, and_right, every_in, in_map, map-in, map_inj}

-- transitions with the same renumbered key have the same key, if their arguments have numbers
same_key : (o : List ℕ) (l m : Transition) → every (λ q. elem eqb q o) l.args ≡ true →
    every (λ q. elem eqb q o) m.args ≡ true → key (renumber o l) ≡ key (renumber o m) → key l ≡ key m
same_key o l m p q e =
    let labels : l.label ≡ m.label = cc in
    let args : map (number_of o) l.args ≡ map (number_of o) m.args = cc in
    key-equal l m labels
    (map_inj (number_of o) l.args m.args
    (λ x y i j d. number-inj o x y (every_in (λ q. elem eqb q o) l.args p x i) d) args)

module _ (W : List Transition) (one : OneTransition W) where
  -- two first ready transitions are the same
  best-one : (o : List ℕ) (l m : Transition) → Best o W l → Best o W m → l ≡ m
  best-one o l m (i, r, least) (j, s, low) = go (lex-cases (key (renumber o l)) (key (renumber o m)))
    where
      go : (precedes (renumber o l) (renumber o m) ≡ true) ⊎ ((key (renumber o l) ≡ key (renumber o m)) ⊎
          (precedes (renumber o m) (renumber o l) ≡ true)) → l ≡ m
      go (inl h) = absurd (true≢false (sym h ∙ low l i r))
      go (inr (inl h)) = one l m i j (same_key o l m (and_left _ (not (elem eqb l.out o)) r)
          (and_left _ (not (elem eqb m.out o)) s) h)
      go (inr (inr h)) = absurd (true≢false (sym h ∙ least m j s))

  module _ (o p : List ℕ) (opened : Opened-each W o) (other : Opened-each W p) where
    -- two orders agree as far as both go
    agree : (k : ℕ) → k ≤ length o → k ≤ length p → take k o ≡ take k p
    unfolding Opened
    agree zero h l = refl
    agree (suc k) h l = go (agree k (omega arith) (omega arith)) (opened k h) (other k l)
      where
        go : take k o ≡ take k p → Opened W (take k o) (get_or o k 0) → Opened W (take k p) (get_or p k 0) →
            take (suc k) o ≡ take (suc k) p
        go e (m, d, b) (n, f, c) =
            let same = best-one (take k o) m n b (subst (λ (x : List ℕ). Best x W n) (sym e) c) in
            let next : get_or o k 0 ≡ get_or p k 0 = sym d ∙ ap (λ (τ : Transition). τ.out) same ∙ f in
            take-suc o k 0 h ∙ (λ i. e i ++ (next i ∷ [])) ∙ sym (take-suc p k 0 l)

    -- one that is exhausted is not shorter
    not-shorter : Exhausted W o → length p ≤ length o
    unfolding Opened
    not-shorter ends = go (ltb (length o) (length p)) refl
      where
        go : (b : Bool) → ltb (length o) (length p) ≡ b → length p ≤ length o
        go false e = ltb-false (length o) (length p) e
        go true e =
            let h = ltb-true (length o) (length p) e in
            let (m, d, (i, r, least)) = other (length o) h in
            let whole = sym (agree (length o) (omega arith) (omega arith)) ∙ take-length o in
            absurd (true≢false (sym (subst (λ (x : List ℕ). ready x m ≡ true) whole r) ∙ ends m i))

  -- transitions have one order by the rule
  order-one : (o p : List ℕ) → Opened-each W o → Exhausted W o → Opened-each W p → Exhausted W p → o ≡ p
  order-one o p a e b f =
      let h = not-shorter o p a b e in
      let l = not-shorter p o b a f in
      let s : length o ≡ length p = omega arith in
      sym (take-length o) ∙ agree o p a b (length o) (omega arith) (omega arith)
      ∙ ap (λ k. take k p) s ∙ take-length p

module _ {W : List Transition} {O : List ℕ} {L : List Transition} (is : RuledOrder W O L) where
  -- as many, and each one of them: all of them
  above : (τ : Transition) → τ ∈ map (renumber O) W → τ ∈ L
  above =
      distinct-all L (map (renumber O) W) (rising-distinct L is.rises) is.below
      (omega (arith, is.size, length-map W (renumber O)))

  -- a key has one transition
  one-renumbered : OneTransition (map (renumber O) W)
  one-renumbered l m i j e = rising-one L is.rises l m (above l i) (above m j) e

  one-transition : OneTransition W
  one-transition l m i j e =
      let labels : l.label ≡ m.label = cc in
      let args : l.args ≡ m.args = cc in
      let same = one-renumbered (renumber O l) (renumber O m) (in_map (renumber O) W l i) (in_map (renumber O) W m j)
      (key-equal (renumber O l) (renumber O m) labels (ap (map (number_of O)) args)) in
      let out = number-inj O l.out m.out (is.out l i) (ap (λ (τ : Transition). τ.out) same) in
      λ k. record { label = labels k; args = args k; out = out k }

  opened : Opened-each W O
  unfolding Opened Opening
  opened k h = go (first_opening k L is.rises (is.ruled k h))
    where
      go : Opening k L → Opened W (take k O) (get_or O k 0)
      go (m, i, o, e, least) = from (map-in (renumber O) W m (is.below m i))
        where
          from : (l : Transition) × (l ∈ W) × (m ≡ renumber O l) → Opened W (take k O) (get_or O k 0)
          from (l, j, d) = (l, sym (get_d-number O l.out k (sym (ap (λ (τ : Transition). τ.out) d) ∙ e)), (j, r, low))
            where
              r : ready (take k O) l ≡ true
              r = opens-ready O k l (is.args l j) (rw d at o)

              low : (x : Transition) → x ∈ W → ready (take k O) x ≡ true →
                  precedes (renumber (take k O) x) (renumber (take k O) l) ≡ false
              low x n s =
                  subst (λ (y : List ℕ). lex y (key (renumber (take k O) l)) ≡ false) (sym (key-same O k x s))
                  (subst (λ (y : List ℕ). lex (key (renumber O x)) y ≡ false) (sym (key-same O k l r))
                  (subst (λ (y : Transition). precedes (renumber O x) y ≡ false) d
                  (first (least (renumber O x) (above (renumber O x) (in_map (renumber O) W x n))
                  (ready-opens O k x (is.out x n) s)))))
                where
                  first : (renumber O x ≡ m) ⊎ (precedes m (renumber O x) ≡ true) → precedes (renumber O x) m ≡ false
                  first (inl q) = subst (λ (y : Transition). precedes y m ≡ false) (sym q) (lex-self (key m))
                  first (inr b) = lex-asym (key m) (key (renumber O x)) b

  exhausted : Exhausted W O
  exhausted m i = go (ready O m) refl
    where
      go : (b : Bool) → ready O m ≡ b → b ≡ false
      go true e =
          absurd (false≢true (sym (ap not (is.out m i)) ∙ and_right (every (λ q. elem eqb q O) m.args) _ e))
      go false e = refl

  -- the order is that of the definition
  pub ruled-order : O ≡ numbering W
  ruled-order =
      order-one W one-transition O (numbering W) opened exhausted (numbering-opened W).0 (numbering-opened W).1

  -- so are the transitions
  pub ruled-sorted : L ≡ sort (map (renumber O) W)
  ruled-sorted =
      rising-unique L (sort (map (renumber O) W)) is.rises (sort-rising (map (renumber O) W))
      (λ τ i. in-sort (map (renumber O) W) one-renumbered τ (is.below τ i))
      (λ τ i. above τ (sort-in (map (renumber O) W) τ i))

  -- and the automaton, whatever the classes
  pub ruled-renumbered : (cls : ℕ → Bool) → record { classes = map cls O; transitions = L } ≡ renumbered cls W
  unfolding renumbered
  ruled-renumbered cls = λ i. record {
    classes = map cls (ruled-order i);
    transitions = (ruled-sorted ∙ ap (λ (o : List ℕ). sort (map (renumber o) W)) ruled-order) i;
  }

-- Transitions that group the subtrees of a set give its canonical automaton.
use mathlib.Core.Bool.{Bool, ◌&&◌, false, false≢true, not, true, true≢false}
use mathlib.Core.List.{List, ◌∷◌, map}
use mathlib.Core.Logic.{◌⊎◌, inl, inr}
use mathlib.Core.Path.{◌∙◌, ◌≡◌, ap, refl, subst, sym}
use Prim.Native.Nat.{◌<◌, ◌≤◌, suc, zero, ℕ}
use native.Mathlib.Omega.{arith}
use lib.Dec.{eqb}
use lib.ListN.{get_or, length, length-map, take}
use borrow.Author.Tests.{eq-eqb, not-true}
use Rattle.automata.specs.Automaton.{Automaton, Transition, accepting}
use Rattle.automata.specs.Canonical.{Canonical, Equivalent, Occurs, Subtree, each_tree, transition_of}
use Rattle.automata.specs.Numbered.{first_open, opens}
use Rattle.automata.specs.Order.{key, lex, precedes, rising}
use Rattle.automata.specs.Renumber.{number_of, numbering, renumber, renumber_by, renumbered, sort}
use Rattle.lists.specs.Closure.{elem}
use Rattle.lists.specs.Positions.{up_from}
use Rattle.lists.specs.Tests.{◌∈◌, every}
use Rattle.trees.specs.Tree.{AllTrees, Forest, Tree, ◌⧺◌, cons, nil, node}
use Rattle.automata.proofs.Numbering.{Exhausted, Opened, Opened-each, numbering-opened}
use Rattle.automata.proofs.Numbers.{get_d-number, number_at, number-inj, number-length, number-pos}
use Rattle.automata.proofs.Order.{first-open}
use Rattle.automata.proofs.Prefixes.{key-same, opens-ready, ready-opens}
use Rattle.automata.proofs.Sorting.{OneTransition, in-sort, sort-in, sort-rising}
use Rattle.automata.proofs.Unique.{children}
use Rattle.lists.proofs.Intervals.{get_d_map}
use Rattle.lists.proofs.Positions.{up_from-in}
use Rattle.lists.proofs.Tests.{and_both, and_right, in-every, in_map, map-in}
use Rattle.trees.proofs.Trees.{snoc-append}
use Rattle.lists.proofs.Heads.{head-same, tail-same}

and-not : (a b : Bool) → a ≡ true → (a && not b) ≡ false → b ≡ true
and-not true true e s = refl
and-not true false e s = sym s
and-not false b e s = absurd (false≢true e)

pub record Grouping (S : Tree → Bool) (g : Tree → ℕ) (Q : List Transition) : Type 0 where
  pub joins : (t u : Tree) → Subtree S t → Subtree S u → Equivalent S t u → g t ≡ g u
  pub separates : (t u : Tree) → Subtree S t → Subtree S u → g t ≡ g u → Equivalent S t u
  pub occurs : (a : ℕ) (f : Forest) → Subtree S (node a f) → transition_of g a f ∈ Q
  pub only : (l : Transition) → l ∈ Q → Occurs S g l

module _ (S : Tree → Bool) (g : Tree → ℕ) (Q : List Transition) (G : Grouping S g Q) where
  -- children of the same groups make alike parts
  pub equivalent-after : (a : ℕ) (b f h : Forest) → AllTrees (Subtree S) f → AllTrees (Subtree S) h →
      each_tree g f ≡ each_tree g h → Equivalent S (node a (b ⧺ f)) (node a (b ⧺ h))
  equivalent-after a b nil nil p q e c = refl
  equivalent-after a b nil (cons u h) p q e c = let z : ◌≡◌ {A = ℕ} 0 1 = cc in absurd (omega arith)
  equivalent-after a b (cons t f) nil p q e c = let z : ◌≡◌ {A = ℕ} 0 1 = cc in absurd (omega arith)
  equivalent-after a b (cons t f) (cons u h) p q e c =
      G.separates t u p.0 q.0 (head-same (g t) (g u) (each_tree g f) (each_tree g h) e)
      (record { label = a; before = b; after = f } ∷ c)
      ∙ rw (snoc-append b u f, snoc-append b u h) at
      (equivalent-after a (b ⧺ cons u nil) f h p.1 q.1
      (tail-same (g t) (g u) (each_tree g f) (each_tree g h) e) c)

  pub one-transition : OneTransition Q
  one-transition l m i j e = go (G.only l i) (G.only m j)
    where
      go : Occurs S g l → Occurs S g m → l ≡ m
      go (a, f, p, x) (b, h, q, y) =
          let z : a ≡ b = cc in
          let w : each_tree g f ≡ each_tree g h = cc in
          let s : Equivalent S (node a f) (node b h) =
          subst (λ (x : ℕ). Equivalent S (node a f) (node x h)) z
          (equivalent-after a nil f h (children S a f p) (children S b h q) w) in
          cc (G.joins (node a f) (node b h) p q s)

  -- an injective renaming of the groups
  pub regroup : (ν : ℕ → ℕ) → ((t u : Tree) → Subtree S t → Subtree S u → ν (g t) ≡ ν (g u) → g t ≡ g u) →
      Grouping S (λ t. ν (g t)) (map (renumber_by ν) Q)
  regroup ν inj =
      record {
        joins = λ t u p q e. ap ν (G.joins t u p q e);
        separates =
            λ t u p q e. G.separates t u p q (inj t u p q e);
        occurs = line';
        only = lined';
      }
    where
      each_map : (f : Forest) → map ν (each_tree g f) ≡ each_tree (λ t. ν (g t)) f
      each_map nil = refl
      each_map (cons t f) = rw (each_map f)

      line' : (a : ℕ) (f : Forest) → Subtree S (node a f) →
          transition_of (λ t. ν (g t)) a f ∈ map (renumber_by ν) Q
      line' a f p = rw (each_map f) at (in_map (renumber_by ν) Q (transition_of g a f) (G.occurs a f p))

      lined' : (l : Transition) → l ∈ map (renumber_by ν) Q → Occurs S (λ t. ν (g t)) l
      lined' l i =
          let (x, j, e) = map-in (renumber_by ν) Q l i in
          let (a, f, p, u) = G.only x j in (
            a,
            f,
            p,
            e ∙ ap (renumber_by ν) u
                ∙ (λ i. record { label = a; args = each_map f i; out = ν (g (node a f)) }),
          )

-- any order of the states in which each is given by the first ready transition and none is left
module _ (S : Tree → Bool) (g : Tree → ℕ) (Q : List Transition) (G : Grouping S g Q) (cls : ℕ → Bool)
    (right : (t : Tree) → Subtree S t → cls (g t) ≡ S t) (O : List ℕ) (opened : Opened-each Q O)
    (exhausted : Exhausted Q O) where
  -- every subtree has a number
  mutual
    placed : (t : Tree) → Subtree S t → elem eqb (g t) O ≡ true
    placed (node a f) p =
        and-not (every (λ q. elem eqb q O) (each_tree g f)) (elem eqb (g (node a f)) O)
        (all_placed f (children S a f p)) (exhausted (transition_of g a f) (G.occurs a f p))

    all_placed : (f : Forest) → AllTrees (Subtree S) f → every (λ q. elem eqb q O) (each_tree g f) ≡ true
    all_placed nil p = refl
    all_placed (cons t f) p = and_both (placed t p.0) (all_placed f p.1)

  -- the element at place k + 1
  at : (k : ℕ) → k < length O → number_of O (get_or O k 0) ≡ suc k
  unfolding Opened
  at k h = go (opened k h)
    where
      go : Opened Q (take k O) (get_or O k 0) → number_of O (get_or O k 0) ≡ suc k
      go (l, e, (i, r, least)) =
          number_at k O h
          (not-true (elem eqb (get_or O k 0) (take k O))
          (rw e at (and_right (every (λ q. elem eqb q (take k O)) l.args) _ r)))

  N : Grouping S (λ t. number_of O (g t)) (map (renumber O) Q)
  N = regroup S g Q G (number_of O) (λ t u p q e. number-inj O (g t) (g u) (placed t p) e)

  -- a key has one renumbered transition
  pub ordered-one : OneTransition (map (renumber O) Q)
  ordered-one = one-transition S (λ t. number_of O (g t)) (map (renumber O) Q) N

  onto' : (q : ℕ) → 1 ≤ q → q ≤ length O → (t : Tree) × Subtree S t × (number_of O (g t) ≡ q)
  unfolding Opened
  onto' zero h l = absurd (omega arith)
  onto' (suc k) h l = go (opened k l)
    where
      go : Opened Q (take k O) (get_or O k 0) → (t : Tree) × Subtree S t × (number_of O (g t) ≡ suc k)
      go (x, e, (i, r, least)) = from (G.only x i)
        where
          from : Occurs S g x → (t : Tree) × Subtree S t × (number_of O (g t) ≡ suc k)
          from (a, f, p, u) =
              (node a f, p, ap (number_of O) (sym (ap (λ (l : Transition). l.out) u) ∙ e) ∙ at k l)

  transition-placed : (l : Transition) → l ∈ Q →
      (every (λ q. elem eqb q O) l.args ≡ true) × (elem eqb l.out O ≡ true)
  transition-placed l i = go (G.only l i)
    where
      go : Occurs S g l → (every (λ q. elem eqb q O) l.args ≡ true) × (elem eqb l.out O ≡ true)
      go (a, f, p, e) = rw e (all_placed f (children S a f p), placed (node a f) p)

  -- any sorted list of the renumbered transitions
  module _ (L : List Transition) (rises : rising L ≡ true)
      (below : (τ : Transition) → τ ∈ L → τ ∈ map (renumber O) Q)
      (above : (τ : Transition) → τ ∈ map (renumber O) Q → τ ∈ L) where
    numbered-at : (k : ℕ) → k < length O → first_open k L ≡ suc k
    unfolding Opened
    numbered-at k h = go (opened k h)
      where
        go : Opened Q (take k O) (get_or O k 0) → first_open k L ≡ suc k
        go (l, e, (i, r, least)) =
            finish (first-open k L rises (renumber O l) (above (renumber O l) (in_map (renumber O) Q l i))
            (ready-opens O k l (transition-placed l i).1 r))
          where
            never : (m : Transition) → m ∈ Q → opens k (renumber O m) ≡ true →
                precedes (renumber O m) (renumber O l) ≡ true → ⊥
            never m j o b =
                let y = opens-ready O k m (transition-placed m j).0 o in
                let c = subst (λ (x : List ℕ). lex x (key (renumber (take k O) l)) ≡ false) (key-same O k m y)
                (least m j y) in
                let d = subst (λ (x : List ℕ). lex (key (renumber O m)) x ≡ false) (key-same O k l r) c in
                true≢false (sym b ∙ d)

            finish : (m : Transition) × (m ∈ L) × (opens k m ≡ true) × (first_open k L ≡ m.out) ×
                ((renumber O l ≡ m) ⊎ (precedes m (renumber O l) ≡ true)) → first_open k L ≡ suc k
            finish (m, j, o, u, inl z) =
                u ∙ ap (λ (x : Transition). x.out) (sym z) ∙ ap (number_of O) e ∙ at k h
            finish (m, j, o, u, inr b) = absurd (other (map-in (renumber O) Q m (below m j)))
              where
                other : (x : Transition) × (x ∈ Q) × (m ≡ renumber O x) → ⊥
                other (x, n, w) =
                    never x n (rw w at o)
                    (subst (λ (y : Transition). precedes y (renumber O l) ≡ true) w b)

    C : Automaton
    C = record { classes = map cls O; transitions = L }

    classed' : (t : Tree) → Subtree S t → accepting C (number_of O (g t)) ≡ S t
    unfolding C
    classed' t p = go (number_of O (g t)) refl (number-pos O (g t) (placed t p))
      where
        go : (n : ℕ) → number_of O (g t) ≡ n → 1 ≤ n → accepting C n ≡ S t
        go zero e h = absurd (omega arith)
        go (suc k) e h = get_d_map cls O k 0 false (omega (arith, number-length O (g t)))
            ∙ ap cls (get_d-number O (g t) k e) ∙ right t p

    pub ordered-canonical : Canonical S (record { classes = map cls O; transitions = L })
    unfolding C
    ordered-canonical = record {
      group = λ t. number_of O (g t);
      joins = N.joins;
      separates = N.separates;
      range = λ t p.
          (number-pos O (g t) (placed t p), omega (arith, number-length O (g t), length-map O cls));
      onto = λ q h l. onto' q h (omega (arith, length-map O cls));
      classed = classed';
      occurs = λ a f p. above (transition_of (λ t. number_of O (g t)) a f) (N.occurs a f p);
      only = λ l i. N.only l (below l i);
      sorted = rises;
      ruled = in-every (λ k. eqb (first_open k L) (suc k)) (up_from 0 (length (map cls O)))
          (λ k i. eq-eqb (first_open k L) (suc k)
          (numbered-at k (omega (arith, length-map O cls, up_from-in 0 (length (map cls O)) k i))));
    }

module _ (S : Tree → Bool) (g : Tree → ℕ) (Q : List Transition) (G : Grouping S g Q) (cls : ℕ → Bool)
    (right : (t : Tree) → Subtree S t → cls (g t) ≡ S t) where
  -- the order and the list of the definition
  pub renumbered-canonical : Canonical S (renumbered cls Q)
  unfolding renumbered
  renumbered-canonical =
      ordered-canonical S g Q G cls right (numbering Q) (numbering-opened Q).0 (numbering-opened Q).1
      (sort (map (renumber (numbering Q)) Q)) (sort-rising (map (renumber (numbering Q)) Q))
      (sort-in (map (renumber (numbering Q)) Q)) (in-sort (map (renumber (numbering Q)) Q) one)
    where
      one : OneTransition (map (renumber (numbering Q)) Q)
      one =
          ordered-one S g Q G cls right (numbering Q) (numbering-opened Q).0 (numbering-opened Q).1

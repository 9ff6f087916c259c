-- One accepted tree comes before another exactly if its number is less, so the number of a tree is how many accepted
-- trees come before it (02, order 4).
use mathlib.Core.Bool.{Bool, false, true}
use mathlib.Core.List.{map}
use mathlib.Core.Logic.{◌↔◌, ◌⊎◌, inl, inr}
use mathlib.Core.Path.{◌∙◌, ◌≡◌, ap, refl, subst, sym}
use Prim.Native.Nat.{◌*◌, ◌+◌, ◌-◌, ◌<◌, ℕ}
use native.Mathlib.Omega.{arith}
use lib.Dec.{ltb}
use borrow.Author.Tests.{ltb-false, ltb-true}
use Rattle.automata.specs.Acyclic.{acyclic}
use Rattle.automata.specs.Automaton.{Automaton, accepting, accepts, run, runs}
use Rattle.automata.specs.Order.{rising}
use Rattle.automata.specs.Ranks.{Before, ChildrenBefore, rank, rank_in, ranks_in, sum_before, top_place, tree_of}
use Rattle.automata.specs.Ranks.{unrank}
use Rattle.automata.specs.Totals.{FinitelyMany, product_over, sum_accepting, total, trees_of}
use Rattle.automata.specs.Valid.{states_in_range}
use Rattle.lists.specs.Positions.{up_from}
use Rattle.lists.specs.Tests.{Counts, Exactly, ◌∈◌}
use Rattle.trees.specs.Tree.{AllTrees, Forest, Tree, cons, depth, nil, node}
use Rattle.automata.proofs.RankChoices.{state-within}
use Rattle.automata.proofs.RankFinite.{FiniteTree, finite-accepted, finite-children}
use Rattle.automata.proofs.RankPlaces.{lookup-place, place-before, place_same}
use Rattle.automata.proofs.RankTrees.{rank_in-less, ranks_in-less, step-lookup, tree_of-rank}
use Rattle.automata.proofs.Ranks.{accepting-many, rank_less, rank-unrank, unrank-accepted, unrank-rank}
use Rattle.lists.proofs.Counts.{exactly-counts}
use Rattle.lists.proofs.Distinct.{map-distinct, up_from-distinct}
use Rattle.lists.proofs.Intervals.{in-tabulated, length-tabulated, tabulated-in}
use Rattle.lists.proofs.Positions.{up_from-in}
use Rattle.lists.proofs.Radix.{radix-before}
use Rattle.lists.proofs.Heads.{head-same, tail-same}

less-same-more : (m n : ℕ) → (m < n) ⊎ ((m ≡ n) ⊎ (n < m))
less-same-more m n = go (ltb m n) (ltb n m) refl refl
  where
    go : (b c : Bool) → ltb m n ≡ b → ltb n m ≡ c → (m < n) ⊎ ((m ≡ n) ⊎ (n < m))
    go true c d e = inl (ltb-true m n d)
    go false true d e = inr (inr (ltb-true n m e))
    go false false d e = inr (inl (omega (arith, ltb-false m n d, ltb-false n m e)))

module _ (A : Automaton) (ranged : states_in_range A ≡ true) (rises : rising A.transitions ≡ true) where
  -- how many trees of a node's state stand at transitions before its own
  abbrev before : ℕ → Forest → ℕ
  before a f = sum_before (trees_of A) (run A (node a f)) a (runs A f) A.transitions

  -- trees of one state that have one number
  rank-injective : (t u : Tree) → FiniteTree A t → FiniteTree A u → run A t ≡ run A u →
      rank_in A (trees_of A) t ≡ rank_in A (trees_of A) u → t ≡ u
  rank-injective t u F G e d =
      let n = depth t + depth u in
      sym (tree_of-rank A ranged rises t n (omega arith) F) ∙ (λ i. tree_of A (trees_of A) n (e i) (d i))
      ∙ tree_of-rank A ranged rises u n (omega arith) G

  -- nodes of one state
  module _ (a b : ℕ) (f g : Forest) (F : FiniteTree A (node a f)) (e : run A (node a f) ≡ run A (node b g)) where
    top-less : top_place A a f < top_place A b g → rank_in A (trees_of A) (node a f) < rank_in A (trees_of A) (node b g)
    top-less h =
        omega (
          arith,
          place-before a b (runs A f) (runs A g) (trees_of A) (run A (node a f)) F.state.0 A.transitions
              (step-lookup A a (runs A f) F.state.0) h,
          ranks_in-less A ranged rises f (finite-children A ranged a f F),
          ap (λ (q : ℕ). sum_before (trees_of A) q b (runs A g) A.transitions) e,
        )

    top-args : top_place A a f ≡ top_place A b g → (a ≡ b) × (runs A f ≡ runs A g)
    top-args h =
        let l = step-lookup A a (runs A f) F.state.0 in
        place_same a b (runs A f) (runs A g) A.transitions
        (lookup-place a (runs A f) A.transitions (omega (arith, F.state.0, l))) h

    top-same : top_place A a f ≡ top_place A b g → before a f ≡ before b g
    top-same h = let (l, r) = top-args h in λ i. sum_before (trees_of A) (e i) (l i) (r i) A.transitions

  -- children of the same states
  module _ (t u : Tree) (f g : Forest) (e : runs A f ≡ runs A g) where
    first-less : AllTrees (FiniteTree A) f → rank_in A (trees_of A) t < rank_in A (trees_of A) u →
        ranks_in A (trees_of A) (cons t f) < ranks_in A (trees_of A) (cons u g)
    first-less F h =
        rw (← e)
        (radix-before (rank_in A (trees_of A) t) (ranks_in A (trees_of A) f) (rank_in A (trees_of A) u)
        (ranks_in A (trees_of A) g) (product_over (trees_of A) (runs A f)) h (ranks_in-less A ranged rises f F))

    first-same : rank_in A (trees_of A) t ≡ rank_in A (trees_of A) u →
        (ranks_in A (trees_of A) (cons t f) < ranks_in A (trees_of A) (cons u g)) ↔
        (ranks_in A (trees_of A) f < ranks_in A (trees_of A) g)
    first-same d =
        let m : rank_in A (trees_of A) t * product_over (trees_of A) (runs A f)
        ≡ rank_in A (trees_of A) u * product_over (trees_of A) (runs A g) = λ i. d i * product_over (trees_of A) (e i) in
        (λ h. omega arith, λ h. omega arith)

  mutual
    before-less : (t u : Tree) → FiniteTree A t → FiniteTree A u → run A t ≡ run A u → Before A t u →
        rank_in A (trees_of A) t < rank_in A (trees_of A) u
    before-less (node a f) (node b g) F G e (inl h) = absurd (omega arith)
    before-less (node a f) (node b g) F G e (inr (s, inl h)) = top-less a b f g F e h
    before-less (node a f) (node b g) F G e (inr (s, inr (h, c))) =
        omega (
          arith,
          top-same a b f g F e h,
          children-less f g (finite-children A ranged a f F) (finite-children A ranged b g G)
              (top-args a b f g F e h).1 c,
        )

    children-less : (f g : Forest) → AllTrees (FiniteTree A) f → AllTrees (FiniteTree A) g → runs A f ≡ runs A g →
        ChildrenBefore A f g → ranks_in A (trees_of A) f < ranks_in A (trees_of A) g
    children-less nil g F G e c = absurd c
    children-less (cons t f) nil F G e c = absurd c
    children-less (cons t f) (cons u g) F G e (inl c) =
        first-less t u f g (tail-same (run A t) (run A u) (runs A f) (runs A g) e) F.1
        (before-less t u F.0 G.0 (head-same (run A t) (run A u) (runs A f) (runs A g) e) c)
    children-less (cons t f) (cons u g) F G e (inr (s, c)) =
        let d = tail-same (run A t) (run A u) (runs A f) (runs A g) e in
        (first-same t u f g d (ap (rank_in A (trees_of A)) s)).1 (children-less f g F.1 G.1 d c)

  mutual
    less-before : (t u : Tree) → FiniteTree A t → FiniteTree A u → run A t ≡ run A u →
        rank_in A (trees_of A) t < rank_in A (trees_of A) u → Before A t u
    less-before (node a f) (node b g) F G e h =
        go (λ r l. less-children f g (finite-children A ranged a f F) (finite-children A ranged b g G) r l)
        (less-same-more (top_place A a f) (top_place A b g))
      where
        go : (runs A f ≡ runs A g → ranks_in A (trees_of A) f < ranks_in A (trees_of A) g → ChildrenBefore A f g) →
            (top_place A a f < top_place A b g) ⊎
            ((top_place A a f ≡ top_place A b g) ⊎ (top_place A b g < top_place A a f)) → Before A (node a f) (node b g)
        go ih (inl l) = inr (e, inl l)
        go ih (inr (inl s)) =
            inr (e, inr (s, ih (top-args a b f g F e s).1 (omega (arith, top-same a b f g F e s))))
        go ih (inr (inr l)) = absurd (omega (arith, top-less b a g f G (sym e) l))

    less-children : (f g : Forest) → AllTrees (FiniteTree A) f → AllTrees (FiniteTree A) g → runs A f ≡ runs A g →
        ranks_in A (trees_of A) f < ranks_in A (trees_of A) g → ChildrenBefore A f g
    less-children nil nil F G e h = absurd (omega arith)
    less-children nil (cons u g) F G e h = let z : ◌≡◌ {A = ℕ} 0 1 = cc in absurd (omega arith)
    less-children (cons t f) nil F G e h = let z : ◌≡◌ {A = ℕ} 0 1 = cc in absurd (omega arith)
    less-children (cons t f) (cons u g) F G e h =
        go (λ r l. less-before t u F.0 G.0 r l) (λ r l. less-children f g F.1 G.1 r l)
        (less-same-more (rank_in A (trees_of A) t) (rank_in A (trees_of A) u))
      where
        same : run A t ≡ run A u
        same = head-same (run A t) (run A u) (runs A f) (runs A g) e

        others : runs A f ≡ runs A g
        others = tail-same (run A t) (run A u) (runs A f) (runs A g) e

        go : (run A t ≡ run A u → rank_in A (trees_of A) t < rank_in A (trees_of A) u → Before A t u) →
            (runs A f ≡ runs A g → ranks_in A (trees_of A) f < ranks_in A (trees_of A) g → ChildrenBefore A f g) →
            (rank_in A (trees_of A) t < rank_in A (trees_of A) u) ⊎
            ((rank_in A (trees_of A) t ≡ rank_in A (trees_of A) u) ⊎
            (rank_in A (trees_of A) u < rank_in A (trees_of A) t)) → ChildrenBefore A (cons t f) (cons u g)
        go first rest (inl l) = inl (first same l)
        go first rest (inr (inl d)) =
            inr (rank-injective t u F.0 G.0 same d, rest others ((first-same t u f g others d).0 h))
        go first rest (inr (inr l)) = absurd (omega (arith, h, first-less u t g f (sym others) G.1 l))

  -- ---- accepted trees

  module _ (many : (q : ℕ) → accepting A q ≡ true → FinitelyMany A q) where
    finite : (t : Tree) → accepts A t ≡ true → FiniteTree A t
    finite t e = finite-accepted A ranged many t e

    -- a tree of an earlier state
    state-less : (t u : Tree) → accepts A t ≡ true → run A t < run A u → rank A t < rank A u
    unfolding rank
    state-less t u e h =
        let F = finite t e in
        let z : 1 + (run A t - 1) ≡ run A t = omega (arith, F.state.0) in
        omega (
          arith,
          rank_in-less A ranged rises t F,
          state-within A (trees_of A) (run A t - 1) 1 (run A u - 1) (omega (arith, F.state.0))
              (ap (accepting A) z ∙ e),
          ap (trees_of A) z,
        )

    -- a tree of the same state
    same-less : (t u : Tree) → run A t ≡ run A u →
        (rank A t < rank A u) ↔ (rank_in A (trees_of A) t < rank_in A (trees_of A) u)
    unfolding rank
    same-less t u e =
        let d = ap (λ (q : ℕ). sum_accepting A (trees_of A) (up_from 1 (q - 1))) e in
        (λ h. omega (arith, d), λ h. omega (arith, d))

    before-state : (t u : Tree) → Before A t u → (run A t < run A u) ⊎ (run A t ≡ run A u)
    before-state (node a f) (node b g) (inl h) = inl h
    before-state (node a f) (node b g) (inr (e, c)) = inr e

    state-before : (t u : Tree) → run A t < run A u → Before A t u
    state-before (node a f) (node b g) h = inl h

    -- 02, order 4: the numbers follow the order
    pub before-iff : (t u : Tree) → accepts A t ≡ true → accepts A u ≡ true → Before A t u ↔ (rank A t < rank A u)
    before-iff t u d e = (λ h. to h (before-state t u h), λ h. from h (less-same-more (run A t) (run A u)))
      where
        to : Before A t u → (run A t < run A u) ⊎ (run A t ≡ run A u) → rank A t < rank A u
        to h (inl l) = state-less t u d l
        to h (inr s) = (same-less t u s).1 (before-less t u (finite t d) (finite u e) s h)

        from : rank A t < rank A u →
            (run A t < run A u) ⊎ ((run A t ≡ run A u) ⊎ (run A u < run A t)) → Before A t u
        from h (inl l) = state-before t u l
        from h (inr (inl s)) = less-before t u (finite t d) (finite u e) s ((same-less t u s).0 h)
        from h (inr (inr l)) = absurd (omega (arith, h, state-less u t e l))

    -- the trees of the numbers before
    before-exactly : (t : Tree) → accepts A t ≡ true →
        Exactly (λ u. (accepts A u ≡ true) × Before A u t) (map (unrank A) (up_from 0 (rank A t)))
    before-exactly t e = record {
      once =
          map-distinct (unrank A) (up_from 0 (rank A t))
          (λ j k p q d. sym (number j p) ∙ ap (rank A) d ∙ number k q) (up_from-distinct 0 (rank A t));
      members = λ u. (to u, from u);
    }
      where
        below : (k : ℕ) → k ∈ up_from 0 (rank A t) → k < total A
        below k i = omega (arith, rank_less A ranged rises many t e, (up_from-in 0 (rank A t) k i).1)

        number : (k : ℕ) → k ∈ up_from 0 (rank A t) → rank A (unrank A k) ≡ k
        number k i = rank-unrank A ranged rises many k (below k i)

        to : (u : Tree) → u ∈ map (unrank A) (up_from 0 (rank A t)) → (accepts A u ≡ true) × Before A u t
        to u i =
            let (k, l, h, d) = tabulated-in (unrank A) 0 (rank A t) u i in
            let m : k < total A = omega (arith, rank_less A ranged rises many t e) in
            let a : accepts A u ≡ true = ap (accepts A) d ∙ unrank-accepted A ranged rises many k m in
            (a, (before-iff u t a e).1 (omega (arith, ap (rank A) d, rank-unrank A ranged rises many k m)))

        from : (u : Tree) → (accepts A u ≡ true) × Before A u t → u ∈ map (unrank A) (up_from 0 (rank A t))
        from u (a, b) =
            subst (λ (v : Tree). v ∈ map (unrank A) (up_from 0 (rank A t))) (unrank-rank A ranged rises many u a)
            (in-tabulated (unrank A) 0 (rank A t) (rank A u) (omega arith) (omega (arith, (before-iff u t a e).0 b)))

    -- 02, order 4: the number of a tree is how many accepted trees come before it
    pub rank-counted : (t : Tree) → accepts A t ≡ true → Counts (λ u. (accepts A u ≡ true) × Before A u t) (rank A t)
    rank-counted t e =
        subst (Counts (λ u. (accepts A u ≡ true) × Before A u t)) (length-tabulated (unrank A) 0 (rank A t))
        (exactly-counts (λ u. (accepts A u ≡ true) × Before A u t) (map (unrank A) (up_from 0 (rank A t)))
        (before-exactly t e))

-- automata in which no state comes back
module _ (A : Automaton) (ranged : states_in_range A ≡ true) (rises : rising A.transitions ≡ true)
    (ac : acyclic A ≡ true) where
  pub acyclic-rank-counted : (t : Tree) → accepts A t ≡ true →
      Counts (λ u. (accepts A u ≡ true) × Before A u t) (rank A t)
  acyclic-rank-counted = rank-counted A ranged rises (accepting-many A ranged rises ac)

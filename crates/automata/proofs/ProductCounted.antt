-- The numbers of pairs and of transitions of a product are those of the pairs and pair transitions in 01's words.
use mathlib.Core.Bool.{Bool, cond, false, true, true≢false}
use mathlib.Core.List.{List, [], ◌∷◌, map}
use mathlib.Core.Logic.{inl, inr}
use mathlib.Core.Option.{Option, none, some}
use mathlib.Core.Path.{◌∙◌, ◌≡◌, ap, refl, subst, sym}
use Prim.Native.Nat.{suc, zero, ℕ}
use native.Mathlib.Omega.{arith}
use lib.ListN.{get_or}
use Rattle.automata.specs.Automaton.{Automaton, Fits, Transition, run}
use Rattle.automata.specs.Change.{product_pairs, product_transitions, product_with, subtree_automaton, subtree_number}
use Rattle.automata.specs.Change.{subtrees}
use Rattle.automata.specs.Product.{Node, live, out_pair, product_transition}
use Rattle.automata.specs.ProductView.{AllIn, NumberedTransition, pairs_with}
use Rattle.automata.specs.TreePairs.{InProduct, IsPair, PairTransition, TreePair, pair_of, pairs_of}
use Rattle.lists.specs.Closure.{elem}
use Rattle.lists.specs.Positions.{Pair, eq_pair}
use Rattle.lists.specs.Tests.{Counts, ◌∈◌}
use Rattle.trees.specs.Tree.{Forest, Tree, cons, eq_tree, nil, node}
use Rattle.automata.proofs.Change.{subtrees-closed}
use Rattle.automata.proofs.PairRuns.{both, out-run}
use Rattle.automata.proofs.ProductBound.{pairs-distinct}
use Rattle.automata.proofs.ProductLaws.{pairs-exact, product-distinct, product-exact}
use Rattle.automata.proofs.ProductLaws.{product_transition-inj}
use Rattle.automata.proofs.Subtrees.{run-subtree}
use Rattle.lists.proofs.Closure.{elem_in, in-elem}
use Rattle.lists.proofs.Counts.{counts-mapped}
use Rattle.lists.proofs.Positions.{eq_pair-true, position_at, position_in, position-none}
use Rattle.lists.proofs.Positions.{position-pos}
use Rattle.lists.proofs.Tests.{map_inj}
use Rattle.trees.proofs.Trees.{eq_tree-same, eq_tree-true}

module _ (t : Tree) where
  -- a tree's number among the subtrees, and the subtree that has a number
  abbrev number : Option Tree → ℕ
  number none = 0
  number (some u) = subtree_number (subtrees t) u

  abbrev numbered : ℕ → Option Tree
  numbered zero = none
  numbered (suc i) = some (get_or (subtrees t) i t)

  abbrev to_pair : TreePair → Pair
  to_pair k = (k.0, number k.1)

  number_of : (u : Tree) →
      number (cond (elem eq_tree u (subtrees t)) (some u) none) ≡ subtree_number (subtrees t) u
  number_of u = go (elem eq_tree u (subtrees t)) refl
    where
      go : (b : Bool) → elem eq_tree u (subtrees t) ≡ b →
          number (cond b (some u) none) ≡ subtree_number (subtrees t) u
      go true e = refl
      go false e =
          sym (position-none eq_tree eq_tree-true eq_tree-same (subtrees t) u
          (λ i. true≢false (sym (in-elem eq_tree eq_tree-true eq_tree-same u (subtrees t) i) ∙ e)))

  numbered_of : (u : Tree) →
      numbered (subtree_number (subtrees t) u) ≡ cond (elem eq_tree u (subtrees t)) (some u) none
  numbered_of u = go (subtree_number (subtrees t) u) refl (elem eq_tree u (subtrees t)) refl
    where
      go : (n : ℕ) → subtree_number (subtrees t) u ≡ n → (b : Bool) → elem eq_tree u (subtrees t) ≡ b →
          numbered n ≡ cond b (some u) none
      go zero e true f =
          absurd (omega (
            arith,
            position-pos eq_tree eq_tree-true eq_tree-same (subtrees t) u
                (elem_in eq_tree eq_tree-true eq_tree-same u (subtrees t) f),
          ))
      go zero e false f = refl
      go (suc i) e true f = ap some (position_at eq_tree eq_tree-true eq_tree-same (subtrees t) u t i e).1
      go (suc i) e false f =
          absurd (true≢false
          (sym (in-elem eq_tree eq_tree-true eq_tree-same u (subtrees t)
          (position_in eq_tree eq_tree-true eq_tree-same (subtrees t) u (omega arith)))
          ∙ f))

  module _ (A : Automaton) (fit : Fits A) where
    abbrev B : Automaton
    B = subtree_automaton (subtrees t)

    abbrev R : List Pair
    R = pairs_with A t

    -- the pair of a tree in numbers, and back
    to-pair : (u : Tree) → ◌≡◌ {A = Pair} (to_pair (pair_of A t u)) (run A u, subtree_number (subtrees t) u)
    to-pair u = let e = number_of u in λ i. (run A u, e i)

    of_pair : (u : Tree) (k : Pair) → to_pair (pair_of A t u) ≡ k →
        ◌≡◌ {A = TreePair} (pair_of A t u) (k.0, numbered k.1)
    of_pair u k e =
        let d = sym (numbered_of u) ∙ ap numbered (sym (number_of u)) in
        (λ i. (run A u, d i)) ∙ ap (λ (k : Pair). (k.0, numbered k.1)) e

    to-pair-inj : (j k : TreePair) → IsPair A t j → IsPair A t k → to_pair j ≡ to_pair k → j ≡ k
    to-pair-inj j k (_, (u, d)) (_, (v, e)) s =
        sym d ∙ of_pair u (to_pair k) (ap to_pair d ∙ s) ∙ sym (of_pair v (to_pair k) (ap to_pair e)) ∙ e

    not_none : (k : TreePair) → IsPair A t k → live (to_pair k) ≡ true
    not_none k (ne, (u, e)) = go (eq_pair (to_pair k) (0, 0)) refl
      where
        go : (b : Bool) → eq_pair (to_pair k) (0, 0) ≡ b → live (to_pair k) ≡ true
        go true h = absurd (ne (sym e ∙ of_pair u (0, 0) (ap to_pair e ∙ eq_pair-true (to_pair k) (0, 0) h)))
        go false h = rw h

    is-pair : (k : TreePair) → IsPair A t k → to_pair k ∈ R
    is-pair k p = (pairs-exact A fit t (to_pair k)).1
        (not_none k p, (p.1.0, sym (to-pair p.1.0) ∙ ap to_pair p.1.1))

    pair_is : (u : Tree) → to_pair (pair_of A t u) ∈ R → IsPair A t (pair_of A t u)
    pair_is u i = (
      λ e. true≢false (sym ((pairs-exact A fit t (to_pair (pair_of A t u))).0 i).0 ∙ ap (λ k. live (to_pair k)) e),
      (u, refl),
    )

    -- the pairs of trees in numbers
    to-pairs : (f : Forest) → map to_pair (pairs_of A t f) ≡ both A B f
    to-pairs nil = refl
    to-pairs (cons u f) =
        let e = run-subtree (subtrees t) (subtrees-closed t) u in
        let d : ◌≡◌ {A = Pair} (to_pair (pair_of A t u)) (run A u, run B u) = to-pair u ∙ (λ i. (run A u, sym e i)) in
        cc (d, to-pairs f)

    node-pair : (a : ℕ) (f : Forest) → out_pair A B (a, map to_pair (pairs_of A t f)) ≡ to_pair (pair_of A t (node a f))
    node-pair a f =
        let e = run-subtree (subtrees t) (subtrees-closed t) (node a f) in
        ap (λ (ks : List Pair). out_pair A B (a, ks)) (to-pairs f) ∙ out-run A B a f
        ∙ (λ i. (run A (node a f), e i)) ∙ sym (to-pair (node a f))

    all-pairs : (ks : List TreePair) → ((k : TreePair) → k ∈ ks → IsPair A t k) → AllIn R (map to_pair ks)
    all-pairs [] h = tt
    all-pairs (k ∷ ks) h = (is-pair k (h k (inl refl)), all-pairs ks (λ j i. h j (inr i)))

    each-pair : (f : Forest) → AllIn R (map to_pair (pairs_of A t f)) → (k : TreePair) → k ∈ pairs_of A t f → IsPair A t k
    each-pair nil h k x'' = elim x'' [ ]
    each-pair (cons u f) h k (inl e) = subst (IsPair A t) (sym e) (pair_is u h.0)
    each-pair (cons u f) h k (inr i) = each-pair f h.1 k i

    -- trees for pairs in numbers
    trees-of : (ks : List Pair) → AllIn R ks → (f : Forest) × (map to_pair (pairs_of A t f) ≡ ks)
    trees-of [] h = (nil, refl)
    trees-of (k ∷ ks) h =
        let (_, (u, e)) = (pairs-exact A fit t k).0 h.0 in
        let (f, d) = trees-of ks h.1 in
        (cons u f, cc (to-pair u ∙ e, d))

    -- 01: the number of pairs
    pub pairs-counted : Counts (IsPair A t) (product_pairs A t)
    unfolding product_pairs
    pairs-counted = counts-mapped to_pair (IsPair A t) R (pairs-distinct A B) to-pair-inj is-pair from
      where
        from : (k : Pair) → k ∈ R → (j : TreePair) × IsPair A t j × (k ≡ to_pair j)
        from k i =
            let (_, (u, e)) = (pairs-exact A fit t k).0 i in
            let d = to-pair u ∙ e in
            (pair_of A t u, pair_is u (subst (λ (j : Pair). j ∈ R) (sym d) i), sym d)

    -- ---- the transitions

    abbrev T : List Transition
    T = (product_with (λ k. true) A t).transitions

    -- the transition in numbers
    abbrev in_numbers : PairTransition → Transition
    in_numbers τ = product_transition A B R (τ.label, map to_pair τ.args)

    out-of : (τ : PairTransition) → InProduct A t τ →
        out_pair A B (τ.label, map to_pair τ.args) ≡ to_pair τ.out
    out-of τ p =
        ap (λ (ks : List TreePair). out_pair A B (τ.label, map to_pair ks)) (sym p.trees-run)
        ∙ node-pair τ.label p.trees ∙ ap to_pair p.made-runs

    numbers-inj : (σ τ : PairTransition) → InProduct A t σ → InProduct A t τ → in_numbers σ ≡ in_numbers τ → σ ≡ τ
    numbers-inj σ τ p q e =
        let c = product_transition-inj A B R (σ.label, map to_pair σ.args) (τ.label, map to_pair τ.args)
        (all-pairs σ.args p.args-pairs) e in
        let l = ap (λ (c : Node). c.0) c in
        let a = map_inj to_pair σ.args τ.args
        (λ j k i l. to-pair-inj j k (p.args-pairs j i) (q.args-pairs k l)) (ap (λ (c : Node). c.1) c) in
        let o = to-pair-inj σ.out τ.out p.out-pair q.out-pair
        (sym (out-of σ p) ∙ ap (out_pair A B) c ∙ out-of τ q) in
        λ i. record { label = l i; args = a i; out = o i }

    numbers-in : (τ : PairTransition) → InProduct A t τ → in_numbers τ ∈ T
    numbers-in τ p =
        (product-exact A fit t (λ k. true) (in_numbers τ)).1 (
          τ.label,
          map to_pair τ.args,
          all-pairs τ.args p.args-pairs,
          subst (λ (k : Pair). k ∈ R) (sym (out-of τ p)) (is-pair τ.out p.out-pair),
          refl,
        )

    in-numbers : (τ : Transition) → τ ∈ T → (σ : PairTransition) × InProduct A t σ × (τ ≡ in_numbers σ)
    in-numbers τ i = go ((product-exact A fit t (λ k. true) τ).0 i)
      where
        go : NumberedTransition A t τ → (σ : PairTransition) × InProduct A t σ × (τ ≡ in_numbers σ)
        go (a, ks, all, o, e) =
            let (f, d) = trees-of ks all in
            let out = subst (λ (k : Pair). k ∈ R) (node-pair a f)
            (subst (λ (js : List Pair). out_pair A B (a, js) ∈ R) (sym d) o) in (
              record { label = a; args = pairs_of A t f; out = pair_of A t (node a f) },
              record {
                args-pairs = each-pair f (subst (AllIn R) (sym d) all);
                out-pair = pair_is (node a f) out;
                trees = f;
                trees-run = refl;
                made-runs = refl;
              },
              e ∙ ap (λ (js : List Pair). product_transition A B R (a, js)) (sym d),
            )

    -- 01, refusal 16: the number of the pair automaton's transitions
    pub product-counted : Counts (InProduct A t) (product_transitions A t)
    unfolding product_transitions
    product-counted =
        counts-mapped in_numbers (InProduct A t) T (product-distinct (λ k. true) A t) numbers-inj numbers-in in-numbers

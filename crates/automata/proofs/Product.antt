-- A tree runs in the product to its pair.
use mathlib.Core.Bool.{Bool, false, false≢true, true, true≢false}
use mathlib.Core.List.{List, [], ◌++◌, ◌∷◌, map}
use mathlib.Core.Logic.{◌⊎◌, inl, inr}
use mathlib.Core.Path.{◌∙◌, ◌≡◌, ap, refl, subst, sym}
use Prim.Native.Nat.{suc, zero, ℕ}
use native.Mathlib.Omega.{arith}
use lib.Dec.{leb}
use lib.ListN.{length, length-map}
use borrow.Author.Tests.{le-leb}
use Rattle.automata.specs.Accessible.{ArgsAccessible}
use Rattle.automata.specs.Automaton.{Automaton, Fits, Transition, accepting, accepts, run, states, step}
use Rattle.automata.specs.Product.{Node, accessible_pairs, fst, live, live_pairs, nodes, nodes_of, out_pair}
use Rattle.automata.specs.Product.{pair_number, pair_rule, product, product_transition, product_transitions_over}
use Rattle.automata.specs.Product.{snd}
use Rattle.automata.specs.ProductView.{AllIn}
use Rattle.lists.specs.Closure.{elem}
use Rattle.lists.specs.Positions.{Pair, eq_pair, grid, up_from}
use Rattle.lists.specs.Tests.{◌∈◌, filter}
use Rattle.trees.specs.Tree.{Forest, Tree, cons, nil, node}
use Rattle.automata.proofs.Distinguishable.{step_fits}
use Rattle.automata.proofs.Nodes.{all-member, in-nodes, nodes-in, pair_numbers-inj}
use Rattle.automata.proofs.PairRuns.{EachNumber, Follows, NumberOrNone, both, follows-run, out-run}
use Rattle.automata.proofs.Sorting.{OneTransition, in-sort, sort-in, sort-rising}
use Rattle.automata.proofs.Steps.{Taken, step-view}
use Rattle.lists.proofs.Closure.{closed, closure-all, elem_in, in-elem}
use Rattle.lists.proofs.Intervals.{get_d_map}
use Rattle.lists.proofs.Positions.{eq_pair-same, eq_pair-true, in-grid, in-up_from, position_at, position-length}
use Rattle.lists.proofs.Positions.{position-none, position-pos}
use Rattle.lists.proofs.Tests.{any-in, append-in, filter-in, in-any, in_append_left, in_append_right, in-every}
use Rattle.lists.proofs.Tests.{in-filter, in_map, map-in}

abbrev none : Pair
none = (0, 0)

module _ (A B : Automaton) where
  -- a node that goes to a pair has a transition in one of the two
  node-occurs : (R : List Pair) (a : ℕ) (ks : List Pair) → AllIn R ks → live (out_pair A B (a, ks)) ≡ true →
      ◌∈◌ {A = Node} (a, ks) (nodes A B R)
  unfolding nodes
  node-occurs R a ks h e = go (step-view A a (map fst ks)) (step-view B a (map snd ks))
    where
      go : (step A a (map fst ks) ≡ 0) ⊎ Taken A a (map fst ks) →
          (step B a (map snd ks) ≡ 0) ⊎ Taken B a (map snd ks) →
          ◌∈◌ {A = Node} (a, ks) (nodes_of R fst A.transitions ++ nodes_of R snd B.transitions)
      go (inr (n, (l, i, u, v, w))) z =
          in_append_left (nodes_of R fst A.transitions) (nodes_of R snd B.transitions) (a, ks)
          (subst (λ (x : ℕ). ◌∈◌ {A = Node} (x, ks) (nodes_of R fst A.transitions)) u
          (in-nodes R fst A.transitions l ks i h v))
      go (inl y) (inr (n, (l, i, u, v, w))) =
          in_append_right (nodes_of R fst A.transitions) (nodes_of R snd B.transitions) (a, ks)
          (subst (λ (x : ℕ). ◌∈◌ {A = Node} (x, ks) (nodes_of R snd B.transitions)) u
          (in-nodes R snd B.transitions l ks i h v))
      go (inl y) (inl z) = let d : out_pair A B (a, ks) ≡ none = λ i. (y i, z i) in
          absurd (true≢false (sym e ∙ ap live d))

  pub node-all : (R : List Pair) (a : ℕ) (ks : List Pair) → ◌∈◌ {A = Node} (a, ks) (nodes A B R) → AllIn R ks
  unfolding nodes
  node-all R a ks i =
      go (append-in (nodes_of R fst A.transitions) (nodes_of R snd B.transitions) (a, ks) i)
    where
      go : (◌∈◌ {A = Node} (a, ks) (nodes_of R fst A.transitions)) ⊎
          (◌∈◌ {A = Node} (a, ks) (nodes_of R snd B.transitions)) → AllIn R ks
      go (inl j) = (nodes-in R fst A.transitions a ks j).0
      go (inr j) = (nodes-in R snd B.transitions a ks j).0

  module _ (fit_a : Fits A) (fit_b : Fits B) where
    abbrev R : List Pair
    R = accessible_pairs A B

    -- ---- the pairs

    out-live : (c : Node) → live (out_pair A B c) ≡ true → out_pair A B c ∈ live_pairs A B
    unfolding live_pairs
    out-live c h =
        in-filter live (grid (up_from 0 (suc (states A))) (up_from 0 (suc (states B)))) (out_pair A B c)
        (in-grid (up_from 0 (suc (states A))) (up_from 0 (suc (states B))) p q
        (in-up_from 0 (suc (states A)) p (omega arith) (omega (arith, step_fits A fit_a c.0 (map fst c.1))))
        (in-up_from 0 (suc (states B)) q (omega arith) (omega (arith, step_fits B fit_b c.0 (map snd c.1))))) h
      where
        p : ℕ
        p = (out_pair A B c).0

        q : ℕ
        q = (out_pair A B c).1

    states-live : (k : Pair) → elem eq_pair k R ≡ true → k ∈ live_pairs A B
    unfolding accessible_pairs
    states-live =
        closure-all eq_pair eq_pair-true eq_pair-same (pair_rule A B) (live_pairs A B) (λ k. k ∈ live_pairs A B)
        (λ m h k i e. i)

    pub no_none : none ∈ accessible_pairs A B → ⊥
    unfolding live_pairs
    no_none i = false≢true
        (filter-in live (grid (up_from 0 (suc (states A))) (up_from 0 (suc (states B)))) none
        (states-live none (in-elem eq_pair eq_pair-true eq_pair-same none R i))).1

    number-none : pair_number R none ≡ 0
    number-none = position-none eq_pair eq_pair-true eq_pair-same R none no_none

    marked : (ks : List Pair) → AllIn R ks → AllIn (filter (λ j. elem eq_pair j R) (live_pairs A B)) ks
    marked [] h = tt
    marked (k ∷ ks) h = let m = in-elem eq_pair eq_pair-true eq_pair-same k R h.0 in
        (in-filter (λ j. elem eq_pair j R) (live_pairs A B) k (states-live k m) m, marked ks h.1)

    -- a node over pairs goes to a pair, or to none
    pairs-closed : (c : Node) → AllIn R c.1 → live (out_pair A B c) ≡ true → out_pair A B c ∈ R
    unfolding accessible_pairs pair_rule
    pairs-closed c h e =
        elem_in eq_pair eq_pair-true eq_pair-same (out_pair A B c) R
        (closed eq_pair eq_pair-true eq_pair-same (pair_rule A B) (live_pairs A B) (out_pair A B c) (out-live c e)
        (in-any (λ d. eq_pair (out_pair A B c) (out_pair A B d)) (nodes A B marks) c
        (node-occurs marks c.0 c.1 (marked c.1 h) e) (eq_pair-same (out_pair A B c))))
      where
        marks : List Pair
        marks = filter (λ j. elem eq_pair j R) (live_pairs A B)

    -- ---- the transitions

    abbrev lives : List Node
    lives = filter (λ c. live (out_pair A B c)) (nodes A B R)

    one : OneTransition (map (product_transition A B R) lives)
    unfolding product_transition
    one l m i j e = go (map-in (product_transition A B R) lives l i) (map-in (product_transition A B R) lives m j)
      where
        go : (c : Node) × (c ∈ lives) × (l ≡ product_transition A B R c) →
            (c : Node) × (c ∈ lives) × (m ≡ product_transition A B R c) → l ≡ m
        go (c, u, x) (d, v, y) =
            let p : c.0 ≡ d.0 = cc in
            let q : map (pair_number R) c.1 ≡ map (pair_number R) d.1 = cc in
            let k = pair_numbers-inj R c.1 d.1
            (node-all R c.0 c.1 (filter-in (λ c. live (out_pair A B c)) (nodes A B R) c u).0) q in
            x ∙ ap (product_transition A B R) (λ i. (p i, k i)) ∙ sym y

    in-transitions : (c : Node) → AllIn R c.1 → live (out_pair A B c) ≡ true →
        product_transition A B R c ∈ product_transitions_over A B R
    unfolding product_transitions_over
    in-transitions c h e =
        in-sort (map (product_transition A B R) lives) one (product_transition A B R c)
        (in_map (product_transition A B R) lives c
        (in-filter (λ c. live (out_pair A B c)) (nodes A B R) c (node-occurs R c.0 c.1 h e) e))

    transitions-in : (l : Transition) → l ∈ product_transitions_over A B R →
        (c : Node) × AllIn R c.1 × (live (out_pair A B c) ≡ true) × (l ≡ product_transition A B R c)
    unfolding product_transitions_over
    transitions-in l i =
        let (c, j, e) = map-in (product_transition A B R) lives l
        (sort-in (map (product_transition A B R) lives) l i) in
        let (n, h) = filter-in (λ c. live (out_pair A B c)) (nodes A B R) c j in
        (c, node-all R c.0 c.1 n, h, e)

    -- ---- runs

    -- the number of a pair
    abbrev Number : ℕ → Pair → Type 0
    Number p k = (k ∈ R) × (p ≡ pair_number R k)

    each_number : (ps : List ℕ) (ks : List Pair) → EachNumber A B Number ps ks →
        AllIn R ks × (ps ≡ map (pair_number R) ks)
    each_number [] [] h = (tt, refl)
    each_number [] (k ∷ ks) h = elim h [ ]
    each_number (p ∷ ps) [] h = elim h [ ]
    each_number (p ∷ ps) (k ∷ ks) h = let r = each_number ps ks h.1 in
        ((h.0.0, r.0), cc (h.0.1, r.1))

    module _ (cls : Pair → Bool) where
      follows : Follows A B Number (product cls A B)
      unfolding product product_transition product_transitions_over
      follows = record {
        rises = sort-rising (map (product_transition A B R) lives);
        positive = λ p k (i, e). omega (arith, position-pos eq_pair eq_pair-true eq_pair-same R k i);
        all = λ a ps ks h e. let (i, d) = each_number ps ks h in
            let o = pairs-closed (a, ks) i e in
            (product_transition A B R (a, ks), in-transitions (a, ks) i e, refl, sym d, (o, refl));
        only = only;
      }
        where
          only : (a : ℕ) (ps : List ℕ) (ks : List Pair) → EachNumber A B Number ps ks → (τ : Transition) →
              τ ∈ product_transitions_over A B R → τ.label ≡ a → τ.args ≡ ps → live (out_pair A B (a, ks)) ≡ true
          only a ps ks h τ i x y =
              let (c, all, l, e) = transitions-in τ i in
              let p : c.0 ≡ a = sym (ap (λ (σ : Transition). σ.label) e) ∙ x in
              let q = pair_numbers-inj R c.1 ks all
              (sym (ap (λ (σ : Transition). σ.args) e) ∙ y ∙ (each_number ps ks h).1) in
              subst (λ (d : Node). live (out_pair A B d) ≡ true) (λ i. (p i, q i)) l

      pub run-product : (t : Tree) → run (product cls A B) t ≡ pair_number (accessible_pairs A B) (run A t, run B t)
      run-product t = go (follows-run A B Number (product cls A B) follows t)
        where
          go : NumberOrNone A B Number (run (product cls A B) t) (run A t, run B t) →
              run (product cls A B) t ≡ pair_number R (run A t, run B t)
          go (inl (z, e)) = z ∙ sym (ap (pair_number R) e ∙ number-none)
          go (inr (i, e)) = e

    pub paired : (t : Tree) → ((run A t, run B t) ≡ none) ⊎ ((run A t, run B t) ∈ accessible_pairs A B)
    paired t = go (follows-run A B Number (product (λ k. true) A B) (follows (λ k. true)) t)
      where
        go : NumberOrNone A B Number (run (product (λ k. true) A B) t) (run A t, run B t) →
            ((run A t, run B t) ≡ none) ⊎ ((run A t, run B t) ∈ R)
        go (inl (z, e)) = inl e
        go (inr (i, e)) = inr i

    pub accepts-product : (cls : Pair → Bool) → cls none ≡ false → (t : Tree) →
        accepts (product cls A B) t ≡ cls (run A t, run B t)
    unfolding product
    accepts-product cls z t = ap (accepting (product cls A B)) (run-product cls t)
        ∙ go (paired t) (pair_number R (run A t, run B t)) refl
      where
        go : ((run A t, run B t) ≡ none) ⊎ ((run A t, run B t) ∈ R) → (n : ℕ) →
            pair_number R (run A t, run B t) ≡ n → accepting (product cls A B) n ≡ cls (run A t, run B t)
        go (inl e) zero u = sym (ap cls e ∙ z)
        go (inl e) (suc n) u = absurd (omega (arith, sym (ap (pair_number R) e) ∙ u, number-none))
        go (inr i) zero u =
            absurd (omega (arith, position-pos eq_pair eq_pair-true eq_pair-same R (run A t, run B t) i))
        go (inr i) (suc n) u =
            let r = position_at eq_pair eq_pair-true eq_pair-same R (run A t, run B t) none n u in
            get_d_map cls R n none false r.0 ∙ ap cls r.1

    -- ---- trees

    forest-of : (ks : List Pair) → ((k : Pair) → k ∈ ks → (t : Tree) × ((run A t, run B t) ≡ k)) →
        (f : Forest) × (both A B f ≡ ks)
    forest-of [] h = (nil, refl)
    forest-of (k ∷ ks) h =
        let (t, e) = h k (inl refl) in
        let (f, d) = forest-of ks (λ j i. h j (inr i)) in
        (cons t f, cc (e, d))

    -- some tree runs to each pair
    pub accessible-pair-tree : (k : Pair) → elem eq_pair k (accessible_pairs A B) ≡ true →
        (t : Tree) × ((run A t, run B t) ≡ k)
    unfolding accessible_pairs pair_rule
    accessible-pair-tree =
        closure-all eq_pair eq_pair-true eq_pair-same (pair_rule A B) (live_pairs A B)
        (λ k. (t : Tree) × ((run A t, run B t) ≡ k)) made
      where
        made : (m : Pair → Bool) → ((j : Pair) → m j ≡ true → (t : Tree) × ((run A t, run B t) ≡ j)) →
            (k : Pair) → k ∈ live_pairs A B → pair_rule A B m k ≡ true → (t : Tree) × ((run A t, run B t) ≡ k)
        made m ih k i e = go (any-in (λ c. eq_pair k (out_pair A B c)) (nodes A B (filter m (live_pairs A B))) e)
          where
            go : (c : Node) × (c ∈ nodes A B (filter m (live_pairs A B))) × (eq_pair k (out_pair A B c) ≡ true) →
                (t : Tree) × ((run A t, run B t) ≡ k)
            go (c, j, h) =
                let all = node-all (filter m (live_pairs A B)) c.0 c.1 j in
                let (f, d) = forest-of c.1
                (λ x n. ih x
                (filter-in m (live_pairs A B) x (all-member (filter m (live_pairs A B)) c.1 all x n)).1) in (
                  node c.0 f,
                  sym (out-run A B c.0 f) ∙ ap (λ (ks : List Pair). out_pair A B (c.0, ks)) d
                      ∙ sym (eq_pair-true k (out_pair A B c) h),
                )

    module _ (cls : Pair → Bool) where
      pub product-fits : Fits (product cls A B)
      unfolding product product_transition
      product-fits =
          in-every (λ l. leb l.out (states (product cls A B))) (product_transitions_over A B R)
          (λ l i. let (c, _, _, e) = transitions-in l i in
          le-leb l.out (length (map cls R))
          (omega (
            arith,
            ap (λ (x : Transition). x.out) e,
            position-length eq_pair eq_pair-true eq_pair-same R (out_pair A B c),
            length-map R cls,
          )))

      pub product-accessible : ArgsAccessible (product cls A B)
      unfolding product product_transition
      product-accessible l i q n =
          let (c, all, _, e) = transitions-in l i in
          let (k, m, u) = map-in (pair_number R) c.1 q
          (subst (λ (x : List ℕ). q ∈ x) (ap (λ (x : Transition). x.args) e) n) in
          let (t, w) = accessible-pair-tree k
          (in-elem eq_pair eq_pair-true eq_pair-same k R (all-member R c.1 all k m)) in
          (t, run-product cls t ∙ ap (pair_number R) w ∙ sym u)

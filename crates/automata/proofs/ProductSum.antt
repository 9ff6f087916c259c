-- 01, refusal 16: the transitions of a product are the choices of pairs for the arguments of the automaton's
-- transitions, and those at the top of the subtrees that run to no state.
use mathlib.Core.Bool.{true, true≢false}
use mathlib.Core.List.{List, [], ◌++◌, ◌∷◌, map}
use mathlib.Core.Logic.{◌⊎◌, inl, inr}
use mathlib.Core.Path.{◌∙◌, ◌≡◌, ap, refl, subst, sym}
use Prim.Native.Nat.{◌+◌, ◌≤◌, suc, zero, ℕ}
use native.Mathlib.Omega.{arith}
use lib.ListN.{length, length-append, length-map}
use Rattle.automata.specs.Automaton.{Automaton, Fits, Transition, run, step}
use Rattle.automata.specs.Change.{product_transitions, product_with, subtree_automaton, subtree_number, subtrees}
use Rattle.automata.specs.Order.{rising}
use Rattle.automata.specs.Product.{Node, fst, live, nodes_of, out_pair, product_transition, snd}
use Rattle.automata.specs.ProductView.{AllIn, NumberedTransition, pairs_with}
use Rattle.automata.specs.Valid.{states_in_range}
use Rattle.lists.specs.Positions.{Pair}
use Rattle.lists.specs.Tests.{Distinct, ◌∈◌}
use Rattle.trees.specs.Tree.{Forest, Tree, eq_tree, node}
use Rattle.automata.proofs.Change.{subtrees-closed}
use Rattle.automata.proofs.Nodes.{in-nodes, nodes-in}
use Rattle.automata.proofs.Order.{lookup-transition}
use Rattle.automata.proofs.PairRuns.{both, out-run}
use Rattle.automata.proofs.ProductBound.{pairs-distinct}
use Rattle.automata.proofs.ProductLaws.{pairs-exact, product-count, product-distinct, product-exact}
use Rattle.automata.proofs.ProductLaws.{product_transition-inj}
use Rattle.automata.proofs.Steps.{Taken, step-view}
use Rattle.automata.proofs.Subtrees.{numbered-subtree}
use Rattle.automata.proofs.TotalsSums.{product-same}
use Rattle.automata.proofs.Valid.{ranged-fits, ranged-transition}
use Rattle.lists.proofs.Distinct.{append-distinct, distinct-length, map-distinct}
use Rattle.lists.proofs.Positions.{position-inj}
use Rattle.lists.proofs.Tests.{append-in, in_append_left, in_append_right, in_map, map-in, none-zero}
use Rattle.trees.proofs.Trees.{eq_tree-same, eq_tree-true}
use Rattle.automata.specs.OpenStates.{at_state, pairs_of, subtrees_at, sum_over}
use Rattle.automata.proofs.SubtreeNodes.{at-distinct, at_in, in-at}
use Rattle.automata.proofs.PairForests.{pair-trees, run-pair, tree-pairs}
use Rattle.automata.proofs.PairNodes.{nodes-distinct, nodes-length, sided}
use Rattle.automata.proofs.StatePairs.{live-first, state-pairs, tree-pair}

-- a sum reads the numbers of arguments
pub sum_over-same : (v w : ℕ → ℕ) (τs : List Transition) →
    ((τ : Transition) → τ ∈ τs → (q : ℕ) → q ∈ τ.args → v q ≡ w q) → sum_over v τs ≡ sum_over w τs
sum_over-same v w [] h = refl
sum_over-same v w (τ ∷ τs) h =
    cc (product-same v w τ.args (h τ (inl refl)), sum_over-same v w τs (λ σ i. h σ (inr i)))

module _ (A : Automaton) (ranged : states_in_range A ≡ true) (rises : rising A.transitions ≡ true) (t : Tree) where
  fit : Fits A
  fit = ranged-fits A ranged

  abbrev B : Automaton
  B = subtree_automaton (subtrees t)

  abbrev R : List Pair
  R = pairs_with A t

  abbrev T : List Transition
  T = (product_with (λ k. true) A t).transitions

  -- ---- nodes

  abbrev node_of : Tree → Node
  node_of (node a f) = (a, both A B f)

  node-out : (u : Tree) → out_pair A B (node_of u) ≡ (run A u, run B u)
  node-out (node a f) = out-run A B a f

  -- nodes over the automaton's transitions, and nodes of the subtrees that run to no state
  abbrev taken : List Node
  taken = nodes_of R fst A.transitions

  abbrev lost : List Node
  lost = map node_of (subtrees_at A t 0)

  -- a node over pairs with an output that is not both none
  made : (c : Node) → AllIn R c.1 → live (out_pair A B c) ≡ true → product_transition A B R c ∈ T
  made c h l =
      let (f, d) = pair-trees A t fit c.1 h in
      let e : ◌≡◌ {A = Pair} (run A (node c.0 f), run B (node c.0 f)) (out_pair A B c) =
      sym (out-run A B c.0 f) ∙ ap (λ (ks : List Pair). out_pair A B (c.0, ks)) d in
      (product-exact A fit t (λ k. true) (product_transition A B R c)).1 (
        c.0,
        c.1,
        h,
        (pairs-exact A fit t (out_pair A B c)).1 (l, (node c.0 f, sym (run-pair A t (node c.0 f)) ∙ e)),
        refl,
      )

  taken_step : (c : Node) → c ∈ taken → 1 ≤ step A c.0 (map fst c.1)
  taken_step c i = go (nodes-in R fst A.transitions c.0 c.1 i).1
    where
      go : (τ : Transition) × (τ ∈ A.transitions) × (τ.label ≡ c.0) × (τ.args ≡ map fst c.1) →
          1 ≤ step A c.0 (map fst c.1)
      go (τ, j, a, b) =
          let z = none-zero τ.args (λ q k. ((ranged-transition A ranged τ j).args q k).0) in
          let e : step A τ.label τ.args ≡ τ.out = rw z (lookup-transition A.transitions rises τ j) in
          let d : step A τ.label τ.args ≡ step A c.0 (map fst c.1) = λ i. step A (a i) (b i) in
          omega (arith, d, e, (ranged-transition A ranged τ j).out.0)

  lost-step : (c : Node) → c ∈ lost → step A c.0 (map fst c.1) ≡ 0
  lost-step c i =
      let (u, j, e) = map-in node_of (subtrees_at A t 0) c i in
      ap (λ (k : Pair). k.0) (ap (out_pair A B) e ∙ node-out u) ∙ (at_in A t 0 u j).1

  taken-all : (c : Node) → c ∈ taken → AllIn R c.1
  taken-all c i = (nodes-in R fst A.transitions c.0 c.1 i).0

  lost-all : (c : Node) → c ∈ lost → AllIn R c.1
  lost-all c i = let (u, j, e) = map-in node_of (subtrees_at A t 0) c i in
      subst (λ (c : Node). AllIn R c.1) (sym e) (go u (at_in A t 0 u j).0)
    where
      go : (u : Tree) → u ∈ subtrees t → AllIn R (node_of u).1
      go (node a f) j = tree-pairs A t fit f (subtrees-closed t a f j)

  lost-live : (c : Node) → c ∈ lost → live (out_pair A B c) ≡ true
  lost-live c i =
      let (u, j, e) = map-in node_of (subtrees_at A t 0) c i in
      let o : out_pair A B c ≡ (run A u, subtree_number (subtrees t) u) =
      ap (out_pair A B) e ∙ node-out u ∙ run-pair A t u in
      subst (λ (k : Pair). live k ≡ true) (sym o)
      ((pairs-exact A fit t (run A u, subtree_number (subtrees t) u)).0 (tree-pair A fit t u (at_in A t 0 u j).0)).0

  taken_live : (c : Node) → c ∈ taken → live (out_pair A B c) ≡ true
  taken_live c i = live-first (step A c.0 (map fst c.1)) (step B c.0 (map snd c.1)) (taken_step c i)

  node-all : (c : Node) → c ∈ (taken ++ lost) → AllIn R c.1
  node-all c i = go (append-in taken lost c i)
    where
      go : (c ∈ taken) ⊎ (c ∈ lost) → AllIn R c.1
      go (inl j) = taken-all c j
      go (inr j) = lost-all c j

  node_made : (c : Node) → c ∈ (taken ++ lost) → product_transition A B R c ∈ T
  node_made c i = go (append-in taken lost c i)
    where
      go : (c ∈ taken) ⊎ (c ∈ lost) → product_transition A B R c ∈ T
      go (inl j) = made c (taken-all c j) (taken_live c j)
      go (inr j) = made c (lost-all c j) (lost-live c j)

  -- every transition is that of a node
  node-of : (c : Node) → AllIn R c.1 → out_pair A B c ∈ R → c ∈ (taken ++ lost)
  node-of c h o = go (step-view A c.0 (map fst c.1))
    where
      go : (step A c.0 (map fst c.1) ≡ 0) ⊎ Taken A c.0 (map fst c.1) → c ∈ (taken ++ lost)
      go (inr (n, (τ, i, a, b, w))) =
          in_append_left taken lost c
          (subst (λ (x : ℕ). ◌∈◌ {A = Node} (x, c.1) taken) a (in-nodes R fst A.transitions τ c.1 i h b))
      go (inl z) =
          let (f, d) = pair-trees A t fit c.1 h in
          let e : ◌≡◌ {A = Pair} (out_pair A B c) (run A (node c.0 f), subtree_number (subtrees t) (node c.0 f)) =
          ap (λ (ks : List Pair). out_pair A B (c.0, ks)) (sym d) ∙ out-run A B c.0 f
          ∙ run-pair A t (node c.0 f) in
          in_append_right taken lost c
          (subst (λ (ks : List Pair). ◌∈◌ {A = Node} (c.0, ks) lost) d
          (in_map node_of (subtrees_at A t 0) (node c.0 f)
          (in-at A t 0 (node c.0 f) (own f e) (sym (ap (λ (k : Pair). k.0) e) ∙ z))))
        where
          own : (f : Forest) → out_pair A B c ≡ (run A (node c.0 f), subtree_number (subtrees t) (node c.0 f)) →
              node c.0 f ∈ subtrees t
          own f e = number (subtree_number (subtrees t) (node c.0 f)) refl
            where
              number : (n : ℕ) → subtree_number (subtrees t) (node c.0 f) ≡ n → node c.0 f ∈ subtrees t
              number zero w =
                  let x : ◌≡◌ {A = Pair} (out_pair A B c) (0, 0) =
                  λ i. (z i, (ap (λ (k : Pair). k.1) e ∙ w) i) in
                  absurd (true≢false
                  (sym ((pairs-exact A fit t (out_pair A B c)).0 o).0 ∙ ap live x))
              number (suc n) w = numbered-subtree (subtrees t) (subtrees-closed t) (node c.0 f) (omega arith)

  -- ---- the count

  nodes-once : Distinct (taken ++ lost)
  nodes-once =
      append-distinct taken lost (nodes-distinct R fst (pairs-distinct A B) A.transitions rises)
      (map-distinct node_of (subtrees_at A t 0) one (at-distinct A t 0))
      (λ c i j. omega (arith, taken_step c i, lost-step c j))
    where
      one : (u v : Tree) → u ∈ subtrees_at A t 0 → v ∈ subtrees_at A t 0 → node_of u ≡ node_of v → u ≡ v
      one u v i j e =
          position-inj eq_tree eq_tree-true eq_tree-same (subtrees t) u v (at_in A t 0 u i).0
          (ap (λ (k : Pair). k.1)
          (sym (run-pair A t u) ∙ sym (node-out u) ∙ ap (out_pair A B) e ∙ node-out v ∙ run-pair A t v))

  nodes-counted : length (taken ++ lost) ≡ product_transitions A t
  nodes-counted =
      omega (
        arith,
        distinct-length (map (product_transition A B R) (taken ++ lost)) T
            (map-distinct (product_transition A B R) (taken ++ lost)
            (λ c d i j. product_transition-inj A B R c d (node-all c i)) nodes-once) within,
        distinct-length T (map (product_transition A B R) (taken ++ lost)) (product-distinct (λ k. true) A t) onto,
        length-map (taken ++ lost) (product_transition A B R),
        product-count (λ k. true) A t,
      )
    where
      within : (τ : Transition) → τ ∈ map (product_transition A B R) (taken ++ lost) → τ ∈ T
      within τ i =
          let (c, j, e) = map-in (product_transition A B R) (taken ++ lost) τ i in
          subst (λ (σ : Transition). σ ∈ T) (sym e) (node_made c j)

      onto : (τ : Transition) → τ ∈ T → τ ∈ map (product_transition A B R) (taken ++ lost)
      onto τ i = go ((product-exact A fit t (λ k. true) τ).0 i)
        where
          go : NumberedTransition A t τ → τ ∈ map (product_transition A B R) (taken ++ lost)
          go (a, ks, h, o, e) =
              subst (λ (σ : Transition). σ ∈ map (product_transition A B R) (taken ++ lost)) (sym e)
              (in_map (product_transition A B R) (taken ++ lost) (a, ks) (node-of (a, ks) h o))

  -- 01, refusal 16, by counting
  pub transitions-counted : product_transitions A t ≡ sum_over (pairs_of A t) A.transitions + at_state A t 0
  transitions-counted =
      omega (
        arith,
        nodes-counted,
        length-append taken lost,
        length-map (subtrees_at A t 0) node_of,
        nodes-length R fst A.transitions,
        sum_over-same (sided R fst) (pairs_of A t) A.transitions (λ τ i q j. state-pairs A fit t q),
      )

-- The product of an automaton and a tree, in the words of 01: which pairs it has, and which transitions.
use mathlib.Core.Bool.{Bool, false, not, true, true≢false}
use mathlib.Core.List.{List, [], ◌∷◌, map}
use mathlib.Core.Logic.{◌↔◌, ◌⊎◌, inl, inr}
use mathlib.Core.Path.{◌∙◌, ◌≡◌, ap, refl, subst, sym}
use Prim.Native.Nat.{ℕ}
use native.Mathlib.Omega.{arith}
use lib.ListN.{length}
use Rattle.automata.specs.Automaton.{Automaton, Fits, Transition, run, runs, step}
use Rattle.automata.specs.Change.{product_transitions, product_with, subtree_automaton, subtree_number, subtrees}
use Rattle.automata.specs.Order.{key, rising}
use Rattle.automata.specs.Product.{Node, fst, live, nodes, out_pair, pair_number, product}
use Rattle.automata.specs.Product.{product_transition, product_transitions_over, snd}
use Rattle.automata.specs.ProductView.{AllIn, NumberedTransition, pairs_with}
use Rattle.lists.specs.Positions.{Pair, eq_pair}
use Rattle.lists.specs.Tests.{Distinct, ◌∈◌, filter}
use Rattle.trees.specs.Tree.{Forest, Tree, cons, nil, node}
use Rattle.automata.proofs.Change.{subtrees-closed, subtrees-fit}
use Rattle.automata.proofs.Nodes.{pair_numbers-inj}
use Rattle.automata.proofs.Order.{lex_irrefl, rising-head, rising-tail}
use Rattle.automata.proofs.Product.{accessible-pair-tree, no_none, node-all, paired, run-product}
use Rattle.automata.proofs.Sorting.{sort-in, sort-rising}
use Rattle.automata.proofs.Steps.{Taken, step-view}
use Rattle.automata.proofs.Subtrees.{run-subtree}
use Rattle.lists.proofs.Closure.{in-elem}
use Rattle.lists.proofs.Positions.{eq_pair-same, eq_pair-true, position-pos}
use Rattle.lists.proofs.Tests.{filter-in, map-in}

-- a strictly rising list has no transition twice
pub rising-distinct : (τs : List Transition) → rising τs ≡ true → Distinct τs
rising-distinct [] r = tt
rising-distinct (τ ∷ τs) r =
    (λ i. lex_irrefl (key τ) (rising-head τ τs r τ i), rising-distinct τs (rising-tail τ τs r))

-- different nodes have different transitions
pub product_transition-inj : (A B : Automaton) (R : List Pair) (c d : Node) → AllIn R c.1 →
    product_transition A B R c ≡ product_transition A B R d → c ≡ d
unfolding product_transition
product_transition-inj A B R c d h e =
    let p = ap (λ (τ : Transition). τ.label) e in
    let q = pair_numbers-inj R c.1 d.1 h (ap (λ (τ : Transition). τ.args) e) in
    λ i. (p i, q i)

module _ (cls : Pair → Bool) (A : Automaton) (t : Tree) where
  pub product-rising : rising (product_with cls A t).transitions ≡ true
  unfolding product_with product product_transitions_over
  product-rising =
      sort-rising
      (map (product_transition A (subtree_automaton (subtrees t)) (pairs_with A t))
      (filter (λ c. live (out_pair A (subtree_automaton (subtrees t)) c))
      (nodes A (subtree_automaton (subtrees t)) (pairs_with A t))))

  -- each is counted once, and the classes make no difference
  pub product-distinct : Distinct (product_with cls A t).transitions
  product-distinct = rising-distinct (product_with cls A t).transitions product-rising

  pub product-count : length (product_with cls A t).transitions ≡ product_transitions A t
  unfolding product_transitions product_with product
  product-count = refl

module _ (A : Automaton) (fit : Fits A) (t : Tree) where
  abbrev B : Automaton
  B = subtree_automaton (subtrees t)

  abbrev R : List Pair
  R = pairs_with A t

  run-pair : (u : Tree) → ◌≡◌ {A = Pair} (run A u, run B u) (run A u, subtree_number (subtrees t) u)
  run-pair u = let e = run-subtree (subtrees t) (subtrees-closed t) u in λ i. (run A u, e i)

  pair-live : (k : Pair) → k ∈ R → live k ≡ true
  pair-live k i = go (eq_pair k (0, 0)) refl
    where
      go : (b : Bool) → eq_pair k (0, 0) ≡ b → not b ≡ true
      go true e =
          absurd (no_none A B fit (subtrees-fit t) (subst (λ (j : Pair). j ∈ R) (eq_pair-true k (0, 0) e) i))
      go false e = refl

  pair-tree : (k : Pair) → k ∈ R → (u : Tree) × ((run A u, run B u) ≡ k)
  pair-tree k i =
      accessible-pair-tree A B fit (subtrees-fit t) k (in-elem eq_pair eq_pair-true eq_pair-same k R i)

  tree-pair : (k : Pair) → live k ≡ true → (u : Tree) → (run A u, run B u) ≡ k → k ∈ R
  tree-pair k h u e = go (paired A B fit (subtrees-fit t) u)
    where
      go : (◌≡◌ {A = Pair} (run A u, run B u) (0, 0)) ⊎ ((run A u, run B u) ∈ R) → k ∈ R
      go (inl z) = absurd (true≢false (sym h ∙ ap live (sym e ∙ z)))
      go (inr i) = subst (λ (j : Pair). j ∈ R) e i

  -- 01: a state or none with a distinct subtree or none, not both none, that some tree runs to
  pub pairs-exact : (k : Pair) → (k ∈ pairs_with A t) ↔
      ((live k ≡ true) × ((u : Tree) × ((run A u, subtree_number (subtrees t) u) ≡ k)))
  pairs-exact k = (
    λ i. let (u, e) = pair-tree k i in (pair-live k i, (u, sym (run-pair u) ∙ e)),
    λ (h, (u, e)). tree-pair k h u (run-pair u ∙ e),
  )

  node-pair : (a : ℕ) (ks : List Pair) (f : Forest) → runs A f ≡ map fst ks → runs B f ≡ map snd ks →
      ◌≡◌ {A = Pair} (run A (node a f), run B (node a f)) (out_pair A B (a, ks))
  node-pair a ks f p q = λ i. (step A a (p i), step B a (q i))

  module _ (cls : Pair → Bool) where
    abbrev P : Automaton
    P = product_with cls A t

    -- trees that run to these pairs
    pair-trees : (ks : List Pair) → AllIn R ks →
        (f : Forest) × (runs A f ≡ map fst ks) × (runs B f ≡ map snd ks) × (runs P f ≡ map (pair_number R) ks)
    unfolding product_with
    pair-trees [] h = (nil, refl, refl, refl)
    pair-trees (k ∷ ks) h =
        let (u, e) = pair-tree k h.0 in
        let (f, p, q, r) = pair-trees ks h.1 in
        let n = run-product A B fit (subtrees-fit t) cls u ∙ ap (pair_number R) e in
        (cons u f, cc (ap fst e, p), cc (ap snd e, q), cc (n, r))

    product-in : (τ : Transition) → τ ∈ P.transitions → NumberedTransition A t τ
    unfolding product_with product product_transitions_over
    product-in τ i =
        go (map-in (product_transition A B R) lives τ (sort-in (map (product_transition A B R) lives) τ i))
      where
        lives : List Node
        lives = filter (λ c. live (out_pair A B c)) (nodes A B R)

        go : (c : Node) × (c ∈ lives) × (τ ≡ product_transition A B R c) → NumberedTransition A t τ
        go (c, j, e) =
            let (n, h) = filter-in (λ c. live (out_pair A B c)) (nodes A B R) c j in
            let all = node-all A B R c.0 c.1 n in
            let (f, p, q, r) = pair-trees c.1 all in
            (c.0, c.1, all, tree-pair (out_pair A B c) h (node c.0 f) (node-pair c.0 c.1 f p q), e)

    in-product : (τ : Transition) → NumberedTransition A t τ → τ ∈ P.transitions
    unfolding product_with product_transition
    in-product τ (a, ks, all, o, e) = go (pair-trees ks all)
      where
        go : (f : Forest) × (runs A f ≡ map fst ks) × (runs B f ≡ map snd ks) ×
            (runs P f ≡ map (pair_number R) ks) → τ ∈ P.transitions
        go (f, p, q, r) = taken (step-view P a (runs P f))
          where
            n : step P a (runs P f) ≡ pair_number R (out_pair A B (a, ks))
            n = run-product A B fit (subtrees-fit t) cls (node a f) ∙ ap (pair_number R) (node-pair a ks f p q)

            taken : (step P a (runs P f) ≡ 0) ⊎ Taken P a (runs P f) → τ ∈ P.transitions
            taken (inl z) =
                absurd (omega (
                  arith,
                  n,
                  z,
                  position-pos eq_pair eq_pair-true eq_pair-same R (out_pair A B (a, ks)) o,
                ))
            taken (inr (u, (σ, i, x, y, w))) =
                let s : τ ≡ σ = e ∙ sym (λ i. record { label = x i; args = (y ∙ r) i; out = (w ∙ n) i }) in
                rw s i

    -- 01: its transitions are those whose arguments are such pairs and whose output is such a pair
    pub product-exact : (τ : Transition) → (τ ∈ (product_with cls A t).transitions) ↔ NumberedTransition A t τ
    product-exact τ = (product-in τ, in-product τ)

-- The pairs of a state: one for each subtree that runs to it, and one more if it is open.
use mathlib.Core.Bool.{Bool, ◌&&◌, cond, false, not, true}
use mathlib.Core.List.{List, [], ◌++◌, ◌∷◌, map}
use mathlib.Core.Logic.{◌⊎◌, inl, inr}
use mathlib.Core.Path.{◌∙◌, ◌≡◌, ap, refl, subst, sym}
use Prim.Native.Nat.{◌≤◌, suc, zero, ℕ}
use native.Mathlib.Omega.{arith}
use lib.Dec.{eqb}
use lib.ListN.{length, length-append, length-map}
use borrow.Author.Tests.{eq-eqb, eqb-true, ne_eqb}
use Rattle.automata.specs.Automaton.{Automaton, Fits, run}
use Rattle.automata.specs.Change.{subtree_automaton, subtree_number, subtrees}
use Rattle.automata.specs.Product.{fst, live}
use Rattle.automata.specs.ProductView.{pairs_with}
use Rattle.lists.specs.Positions.{Pair, eq_pair}
use Rattle.lists.specs.Tests.{Distinct, ◌∈◌, bit, filter}
use Rattle.trees.specs.Tree.{Tree, eq_tree}
use Rattle.automata.proofs.Change.{subtrees-closed}
use Rattle.automata.proofs.ProductBound.{pairs-distinct}
use Rattle.automata.proofs.ProductLaws.{pairs-exact}
use Rattle.automata.proofs.Subtrees.{numbered-subtree, subtree-numbered}
use Rattle.lists.proofs.Closure.{elem_in, in-elem}
use Rattle.lists.proofs.Distinct.{append-distinct, distinct-length, filter-distinct, map-distinct}
use Rattle.lists.proofs.Positions.{eq_pair-same, eq_pair-true, position-inj, position-none}
use Rattle.lists.proofs.Tests.{append-in, filter-in, in_append_left, in_append_right, in-filter, in_map, map-in}
use Rattle.trees.proofs.Trees.{eq_tree-same, eq_tree-true}
use Rattle.automata.specs.OpenStates.{open_state, pairs_of, subtrees_at}
use Rattle.automata.proofs.SubtreeNodes.{at-distinct, at_in, in-at}

pub live-first : (q j : ℕ) → 1 ≤ q → live (q, j) ≡ true
live-first q j s = rw (ne_eqb q 0 (λ e. omega arith))

pub live-second : (q j : ℕ) → 1 ≤ j → live (q, j) ≡ true
live-second q j s = go (eqb q 0)
  where
    go : (b : Bool) → not (b && eqb j 0) ≡ true
    go true = rw (ne_eqb j 0 (λ e. omega arith))
    go false = refl

module _ (A : Automaton) (fit : Fits A) (t : Tree) where
  abbrev R : List Pair
  R = pairs_with A t

  -- ---- open states

  pub tree-open : (q : ℕ) → 1 ≤ q → (u : Tree) → run A u ≡ q → (u ∈ subtrees t → ⊥) → open_state A t q ≡ true
  unfolding open_state
  tree-open q s u e miss =
      in-elem eq_pair eq_pair-true eq_pair-same (q, 0) (pairs_with A t)
      ((pairs-exact A fit t (q, 0)).1 (live-first q 0 s, (u, λ i. (e i, none i))))
    where
      none : subtree_number (subtrees t) u ≡ 0
      none = position-none eq_tree eq_tree-true eq_tree-same (subtrees t) u miss

  pub open-tree : (q : ℕ) → open_state A t q ≡ true → (u : Tree) × (run A u ≡ q) × (u ∈ subtrees t → ⊥)
  unfolding open_state
  open-tree q h =
      let (_, (u, e)) = (pairs-exact A fit t (q, 0)).0
      (elem_in eq_pair eq_pair-true eq_pair-same (q, 0) (pairs_with A t) h) in (
        u,
        ap (λ (k : Pair). k.0) e,
        λ i. omega (
          arith,
          subtree-numbered (subtrees t) (subtrees-closed t) u i,
          ap (λ (k : Pair). k.1) e,
        ),
      )

  -- ---- the pairs of a state

  -- the pair of a subtree
  abbrev pair_at : Tree → Pair
  pair_at u = (run A u, subtree_number (subtrees t) u)

  pub tree-pair : (u : Tree) → u ∈ subtrees t → pair_at u ∈ R
  tree-pair u i =
      (pairs-exact A fit t (pair_at u)).1 (
        live-second (run A u) (subtree_number (subtrees t) u) (subtree-numbered (subtrees t) (subtrees-closed t) u i),
        (u, refl),
      )

  module _ (q : ℕ) where
    -- those with the state, and those listed by subtrees
    abbrev among : List Pair
    among = filter (λ k. eqb q (fst k)) R

    abbrev alone : List Pair
    alone = cond (open_state A t q) ((q, 0) ∷ []) []

    abbrev listed : List Pair
    listed = map pair_at (subtrees_at A t q) ++ alone

    alone-in : (k : Pair) → k ∈ alone → (k ≡ (q, 0)) × (open_state A t q ≡ true)
    alone-in k = go (open_state A t q)
      where
        go : (b : Bool) → k ∈ cond b ((q, 0) ∷ []) [] → (k ≡ (q, 0)) × (b ≡ true)
        go true (inl e) = (e, refl)
        go true (inr i) = absurd i
        go false i = absurd i

    alone-length : length alone ≡ bit (open_state A t q)
    alone-length = go (open_state A t q)
      where
        go : (b : Bool) → length {A = Pair} (cond b ((q, 0) ∷ []) []) ≡ bit b
        go true = refl
        go false = refl

    alone-distinct : Distinct alone
    alone-distinct = go (open_state A t q)
      where
        go : (b : Bool) → Distinct {A = Pair} (cond b ((q, 0) ∷ []) [])
        go true = (λ i. i, tt)
        go false = tt

    listed-distinct : Distinct listed
    listed-distinct =
        append-distinct (map pair_at (subtrees_at A t q)) alone
        (map-distinct pair_at (subtrees_at A t q) one (at-distinct A t q)) alone-distinct apart
      where
        one : (u v : Tree) → u ∈ subtrees_at A t q → v ∈ subtrees_at A t q → pair_at u ≡ pair_at v → u ≡ v
        one u v i j e =
            position-inj eq_tree eq_tree-true eq_tree-same (subtrees t) u v (at_in A t q u i).0
            (ap (λ (k : Pair). k.1) e)

        apart : (k : Pair) → k ∈ map pair_at (subtrees_at A t q) → k ∈ alone → ⊥
        apart k i j =
            let (u, l, e) = map-in pair_at (subtrees_at A t q) k i in
            omega (
              arith,
              subtree-numbered (subtrees t) (subtrees-closed t) u (at_in A t q u l).0,
              ap (λ (k : Pair). k.1) (sym e ∙ (alone-in k j).0),
            )

    listed-among : (k : Pair) → k ∈ listed → k ∈ among
    unfolding open_state
    listed-among k i = go (append-in (map pair_at (subtrees_at A t q)) alone k i)
      where
        go : (k ∈ map pair_at (subtrees_at A t q)) ⊎ (k ∈ alone) → k ∈ among
        go (inl j) =
            let (u, l, e) = map-in pair_at (subtrees_at A t q) k j in
            let (m, r) = at_in A t q u l in
            subst (λ (x : Pair). x ∈ among) (sym e)
            (in-filter (λ k. eqb q (fst k)) R (pair_at u) (tree-pair u m) (eq-eqb q (run A u) (sym r)))
        go (inr j) =
            let (e, o) = alone-in k j in
            subst (λ (x : Pair). x ∈ among) (sym e)
            (in-filter (λ k. eqb q (fst k)) R (q, 0)
            (elem_in eq_pair eq_pair-true eq_pair-same (q, 0) R o) (eq-eqb q q refl))

    among-listed : (k : Pair) → k ∈ among → k ∈ listed
    unfolding open_state
    among-listed k i =
        let (j, d) = filter-in (λ k. eqb q (fst k)) R k i in
        let (_, (u, e)) = (pairs-exact A fit t k).0 j in
        go u e j (eqb-true q k.0 d) (subtree_number (subtrees t) u) refl
      where
        go : (u : Tree) → pair_at u ≡ k → k ∈ R → q ≡ k.0 → (n : ℕ) → subtree_number (subtrees t) u ≡ n → k ∈ listed
        go u e j d zero z =
            let w : ◌≡◌ {A = Pair} k (q, 0) = sym e ∙ (λ i. ((ap (λ (x : Pair). x.0) e ∙ sym d) i, z i)) in
            in_append_right (map pair_at (subtrees_at A t q)) alone k
            (rw (in-elem eq_pair eq_pair-true eq_pair-same (q, 0) R (subst (λ (x : Pair). x ∈ R) w j)) (inl w))
        go u e j d (suc n) z =
            in_append_left (map pair_at (subtrees_at A t q)) alone k
            (subst (λ (x : Pair). x ∈ map pair_at (subtrees_at A t q)) e
            (in_map pair_at (subtrees_at A t q) u
            (in-at A t q u (numbered-subtree (subtrees t) (subtrees-closed t) u (omega arith))
            (ap (λ (x : Pair). x.0) e ∙ sym d))))

    pub state-pairs : length (filter (λ k. eqb q (fst k)) (pairs_with A t)) ≡ pairs_of A t q
    unfolding pairs_of
    state-pairs =
        omega (
          arith,
          distinct-length among listed
              (filter-distinct (λ k. eqb q (fst k)) R (pairs-distinct A (subtree_automaton (subtrees t)))) among-listed,
          distinct-length listed among listed-distinct listed-among,
          length-append (map pair_at (subtrees_at A t q)) alone,
          length-map (subtrees_at A t q) pair_at,
          alone-length,
        )

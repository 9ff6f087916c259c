-- The product of an automaton and a tree has at most as many pairs as there are states and distinct
-- subtrees: a pair with no subtree has a state, and each subtree stands in one pair.
use mathlib.Core.Bool.{Bool, cond, false, false≢true, true}
use mathlib.Core.List.{List, [], ◌∷◌, map}
use mathlib.Core.Path.{◌∙◌, ◌≡◌, ap, refl, subst, sym}
use Prim.Native.Nat.{◌*◌, ◌+◌, ◌<◌, ◌≤◌, suc, zero, ℕ}
use native.Mathlib.Omega.{arith}
use lib.ListN.{length, length-append, length-map}
use Rattle.automata.specs.Automaton.{Automaton, Fits, run, states}
use Rattle.automata.specs.Change.{add_new, collect, collects, product_pairs, subtree_automaton, subtree_number}
use Rattle.automata.specs.Change.{subtrees}
use Rattle.automata.specs.Product.{accessible_pairs, live, live_pairs, pair_rule}
use Rattle.automata.specs.ProductView.{pairs_with}
use Rattle.format.specs.Format.{max_listing, max_states, node_bytes}
use Rattle.lists.specs.Closure.{elem}
use Rattle.lists.specs.Positions.{Pair, eq_pair, grid, up_from}
use Rattle.lists.specs.Tests.{Distinct, ◌∈◌}
use Rattle.trees.specs.Listing.{listing, listings}
use Rattle.trees.specs.Tree.{Forest, Tree, cons, eq_tree, nil, node}
use Rattle.automata.proofs.Change.{subtrees-closed}
use Rattle.automata.proofs.Distinguishable.{run_fits}
use Rattle.automata.proofs.ProductLaws.{pairs-exact}
use Rattle.automata.proofs.Subtrees.{numbered-subtree}
use Rattle.lists.proofs.Distinct.{closure-distinct, distinct-length, filter-distinct, grid-distinct, map-distinct}
use Rattle.lists.proofs.Distinct.{up_from-distinct}
use Rattle.lists.proofs.Positions.{eq_pair-same, eq_pair-true, in-up_from, position-inj, position-length, up_from-length}
use Rattle.lists.proofs.Tests.{map-in}
use Rattle.trees.proofs.Trees.{eq_tree-same, eq_tree-true}

pub pairs-distinct : (A B : Automaton) → Distinct (accessible_pairs A B)
unfolding accessible_pairs live_pairs
pairs-distinct A B =
    closure-distinct eq_pair eq_pair-true eq_pair-same (pair_rule A B) (live_pairs A B)
    (filter-distinct live (grid (up_from 0 (suc (states A))) (up_from 0 (suc (states B))))
    (grid-distinct (up_from 0 (suc (states A))) (up_from 0 (suc (states B)))
    (up_from-distinct 0 (suc (states A))) (up_from-distinct 0 (suc (states B)))))

module _ (A : Automaton) (fit : Fits A) (t : Tree) where
  -- the states are counted first, then the subtrees
  abbrev place : ℕ → ℕ → ℕ
  place q zero = q
  place q (suc j) = states A + suc j

  abbrev place_of : Pair → ℕ
  place_of k = place k.0 k.1

  place-inj : (j k : Pair) → j ∈ pairs_with A t → k ∈ pairs_with A t → place_of j ≡ place_of k → j ≡ k
  place-inj j k i l e =
      let (_, (u, x)) = (pairs-exact A fit t j).0 i in
      let (_, (v, y)) = (pairs-exact A fit t k).0 l in
      sym x ∙ go u v (number u) (number v) refl refl (ap place_of x ∙ e ∙ sym (ap place_of y)) ∙ y
    where
      number : Tree → ℕ
      number u = subtree_number (subtrees t) u

      go : (u v : Tree) (m n : ℕ) → number u ≡ m → number v ≡ n → place (run A u) m ≡ place (run A v) n →
          ◌≡◌ {A = Pair} (run A u, m) (run A v, n)
      go u v zero zero p q e = λ i. (e i, 0)
      go u v zero (suc n) p q e = absurd (omega (arith, run_fits A fit u))
      go u v (suc m) zero p q e = absurd (omega (arith, run_fits A fit v))
      go u v (suc m) (suc n) p q e =
          let r : suc m ≡ suc n = omega arith in
          let in-t = numbered-subtree (subtrees t) (subtrees-closed t) u (omega arith) in
          let w = position-inj eq_tree eq_tree-true eq_tree-same (subtrees t) u v in-t (p ∙ r ∙ sym q) in
          λ i. (run A (w i), r i)

  place-range : (k : Pair) → k ∈ pairs_with A t →
      (1 ≤ place_of k) × (place_of k < suc (states A + length (subtrees t)))
  place-range k i = let (h, (u, x)) = (pairs-exact A fit t k).0 i in
      subst (λ (j : Pair). (1 ≤ place_of j) × (place_of j < suc (states A + length (subtrees t)))) x
      (go u (run A u) (subtree_number (subtrees t) u) refl refl (subst (λ (j : Pair). live j ≡ true) (sym x) h))
    where
      go : (u : Tree) (q n : ℕ) → run A u ≡ q → subtree_number (subtrees t) u ≡ n → live (q, n) ≡ true →
          (1 ≤ place q n) × (place q n < suc (states A + length (subtrees t)))
      go u zero zero p r h = absurd (false≢true h)
      go u (suc q) zero p r h = omega (arith, run_fits A fit u)
      go u q (suc n) p r h =
          omega (arith, position-length eq_tree eq_tree-true eq_tree-same (subtrees t) u)

  pub product_pairs-bound : product_pairs A t ≤ states A + length (subtrees t)
  unfolding product_pairs
  product_pairs-bound =
      omega (
        arith,
        distinct-length (map place_of (pairs_with A t)) (up_from 1 (states A + length (subtrees t))) distinct within,
        length-map (pairs_with A t) place_of,
        up_from-length 1 (states A + length (subtrees t)),
      )
    where
      distinct : Distinct (map place_of (pairs_with A t))
      distinct =
          map-distinct place_of (pairs_with A t) place-inj (pairs-distinct A (subtree_automaton (subtrees t)))

      within : (n : ℕ) → n ∈ map place_of (pairs_with A t) → n ∈ up_from 1 (states A + length (subtrees t))
      within n i =
          let (k, j, e) = map-in place_of (pairs_with A t) n i in
          let r = place-range k j in
          in-up_from 1 (states A + length (subtrees t)) n (omega arith) (omega arith)

add_new-length : (t : Tree) (P : List Tree) → length (add_new t P) ≤ suc (length P)
add_new-length t P = go (elem eq_tree t P)
  where
    go : (b : Bool) → length (cond b P (t ∷ P)) ≤ suc (length P)
    go true = omega arith
    go false = omega arith

-- a node of the listing gives at most one subtree
mutual
  collect-count : (t : Tree) (P : List Tree) →
      node_bytes * length (collect t P) ≤ length (listing t) + node_bytes * length P
  collect-count (node a f) P = omega (arith, add_new-length (node a f) (collects f P), collects-count f P)

  collects-count : (f : Forest) (P : List Tree) →
      node_bytes * length (collects f P) ≤ length (listings f) + node_bytes * length P
  collects-count nil P = omega arith
  collects-count (cons t f) P =
      omega (
        arith,
        collect-count t (collects f P),
        collects-count f P,
        length-append (listing t) (listings f),
      )

pub subtrees-count : (t : Tree) → node_bytes * length (subtrees t) ≤ length (listing t)
subtrees-count t = omega (arith, collect-count t [])

-- 01: there are at most 248 pairs
pub product_pairs-legal : (A : Automaton) → Fits A → (t : Tree) → states A ≤ max_states →
    length (listing t) ≤ max_listing → product_pairs A t ≤ 248
product_pairs-legal A fit t n l = omega (arith, product_pairs-bound A fit t, subtrees-count t)

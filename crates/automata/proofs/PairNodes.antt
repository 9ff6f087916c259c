-- The nodes over pairs for which an automaton has a transition: how many they are, and that none stands twice.
use mathlib.Core.Bool.{true}
use mathlib.Core.List.{List, [], ◌∷◌, map}
use mathlib.Core.Path.{◌∙◌, ◌≡◌, ap, refl, subst, sym}
use Prim.Native.Nat.{◌*◌, ℕ}
use native.Mathlib.Omega.{arith}
use lib.Dec.{eqb}
use lib.ListN.{length, length-append, length-map}
use Rattle.automata.specs.Automaton.{Transition}
use Rattle.automata.specs.Order.{key, lex, rising}
use Rattle.automata.specs.Product.{Node, lists, nodes_of}
use Rattle.automata.specs.Totals.{product_over}
use Rattle.lists.specs.Positions.{Pair}
use Rattle.lists.specs.Tests.{Distinct, ◌∈◌, filter}
use Rattle.automata.proofs.Nodes.{lists-in, nodes-in}
use Rattle.automata.proofs.Order.{key-equal, lex_irrefl, rising-head, rising-tail}
use Rattle.automata.proofs.TotalsLists.{concat_map-distinct, concat_map-length}
use Rattle.lists.proofs.Distinct.{append-distinct, filter-distinct, map-distinct}
use Rattle.lists.proofs.Tests.{map-in}
use Rattle.automata.specs.OpenStates.{sum_over}

module _ (R : List Pair) (side : Pair → ℕ) where
  -- how many pairs have a side
  abbrev pub sided : ℕ → ℕ
  sided q = length (filter (λ k. eqb q (side k)) R)

  pub lists_length : (qs : List ℕ) → length (lists R side qs) ≡ product_over sided qs
  lists_length [] = refl
  lists_length (q ∷ qs) =
      concat_map-length (λ k. map (λ ks. k ∷ ks) (lists R side qs)) (length (lists R side qs))
      (filter (λ k. eqb q (side k)) R) (λ k. length-map (lists R side qs) (λ ks. k ∷ ks))
      ∙ ap (λ (n : ℕ). sided q * n) (lists_length qs)

  pub nodes-length : (τs : List Transition) → length (nodes_of R side τs) ≡ sum_over sided τs
  unfolding nodes_of
  nodes-length [] = refl
  nodes-length (τ ∷ τs) =
      omega (
        arith,
        length-append (map {B = Node} (λ ks. (τ.label, ks)) (lists R side τ.args)) (nodes_of R side τs),
        length-map {B = Node} (lists R side τ.args) (λ ks. (τ.label, ks)),
        lists_length τ.args,
        nodes-length τs,
      )

  module _ (distinct : Distinct R) where
    pub lists-distinct : (qs : List ℕ) → Distinct (lists R side qs)
    lists-distinct [] = (λ i. i, tt)
    lists-distinct (q ∷ qs) =
        concat_map-distinct (λ k. map (λ ks. k ∷ ks) (lists R side qs)) (filter (λ k. eqb q (side k)) R)
        (filter-distinct (λ k. eqb q (side k)) R distinct)
        (λ k i. map-distinct (λ ks. k ∷ ks) (lists R side qs) (λ js ks u v e. tail k k js ks e) (lists-distinct qs))
        apart
      where
        tail : (j k : Pair) (js ks : List Pair) → ◌≡◌ {A = List Pair} (j ∷ js) (k ∷ ks) → js ≡ ks
        tail j k js ks e = cc

        head : (j k : Pair) (js ks : List Pair) → ◌≡◌ {A = List Pair} (j ∷ js) (k ∷ ks) → j ≡ k
        head j k js ks e = cc

        apart : (j k : Pair) (ks : List Pair) → ks ∈ map (λ ks. j ∷ ks) (lists R side qs) →
            ks ∈ map (λ ks. k ∷ ks) (lists R side qs) → j ≡ k
        apart j k ks u v =
            let (xs, _, d) = map-in (λ ks. j ∷ ks) (lists R side qs) ks u in
            let (ys, _, e) = map-in (λ ks. k ∷ ks) (lists R side qs) ks v in
            head j k xs ys (sym d ∙ e)

    pub nodes-distinct : (τs : List Transition) → rising τs ≡ true → Distinct (nodes_of R side τs)
    unfolding nodes_of
    nodes-distinct [] r = tt
    nodes-distinct (τ ∷ τs) r =
        append-distinct (map {B = Node} (λ ks. (τ.label, ks)) (lists R side τ.args)) (nodes_of R side τs)
        (map-distinct {B = Node} (λ ks. (τ.label, ks)) (lists R side τ.args)
        (λ js ks u v e. ap (λ (c : Node). c.1) e) (lists-distinct τ.args))
        (nodes-distinct τs (rising-tail τ τs r)) apart
      where
        apart : (c : Node) → c ∈ map {B = Node} (λ ks. (τ.label, ks)) (lists R side τ.args) →
            c ∈ nodes_of R side τs → ⊥
        apart c i j =
            let (ks, l, e) = map-in {B = Node} (λ ks. (τ.label, ks)) (lists R side τ.args) c i in
            let (_, (σ, k, a, b)) = nodes-in R side τs c.0 c.1 j in
            let s = (lists-in R side τ.args ks l).1 in
            lex_irrefl (key τ)
            (subst (λ (ns : List ℕ). lex (key τ) ns ≡ true)
            (sym (key-equal τ σ (sym (ap (λ (c : Node). c.0) e) ∙ sym a)
            (sym s ∙ ap (λ (c : Node). map side c.1) (sym e) ∙ sym b)))
            (rising-head τ τs r σ k))

-- NO SMALLER needs determinism: an automaton with two outputs for a label has fewer states and fewer transitions than the
-- canonical automaton of its set.
use mathlib.Core.Bool.{◌||◌, false, false≢true, true}
use mathlib.Core.List.{List, [], ◌∷◌}
use mathlib.Core.Logic.{◌⊎◌, inl, inr}
use mathlib.Core.Path.{◌∙◌, ◌≡◌, ap, refl, subst, sym}
use Prim.Native.Nat.{◌<◌, suc, zero, ℕ}
use native.Mathlib.Omega.{arith}
use lib.Dec.{eqb}
use lib.ListN.{length}
use borrow.Author.Tests.{eqb-true}
use Rattle.automata.specs.AnyAutomaton.{Accepts, AtLeast, HasStates, Recognizes, RunEach, RunsTo}
use Rattle.automata.specs.Automaton.{Fits, Transition, accepting, accepts, empty_automaton, run, states}
use Rattle.automata.specs.Change.{insert_tree, product_with, subtree_automaton}
use Rattle.automata.specs.Example.{inserted, leaf, transition}
use Rattle.automata.specs.Minimal.{merge, minimal, quotient, representative}
use Rattle.automata.specs.Others.{cross_trees, two_outputs}
use Rattle.automata.specs.Product.{accessible_pairs, live_pairs, nodes, nodes_of, pair_rule, product}
use Rattle.automata.specs.Product.{product_transition, product_transitions_over}
use Rattle.automata.specs.Renumber.{numbering, renumbered}
use Rattle.lists.specs.Closure.{closure, elem}
use Rattle.lists.specs.Tests.{◌∈◌, every}
use Rattle.trees.specs.Tree.{Forest, Tree, cons, eq_tree, nil, node}
use Rattle.automata.proofs.CanonicalChange.{canonical-fits}
use Rattle.automata.proofs.CanonicalRun.{canonical-accepts}
use Rattle.automata.proofs.Change.{insert-canonical}
use Rattle.lists.proofs.Closure.{elem_in}
use Rattle.lists.proofs.Tests.{eqb_same, every_in, or_cases, or_left, or_right}
use Rattle.trees.proofs.Trees.{eq_tree-same, eq_tree-true}

-- ---- trees put in from the empty set

empty-rejects : (q : ℕ) → accepting empty_automaton q ≡ false
empty-rejects zero = refl
empty-rejects (suc q) = refl

inserted-fits : (ts : List Tree) → Fits (inserted ts)
inserted-fits [] = refl
inserted-fits (t ∷ ts) =
    canonical-fits (λ u. accepts (inserted ts) u || eq_tree u t) (insert_tree t (inserted ts))
    (insert-canonical t (inserted ts) (inserted-fits ts))

inserted-one : (t : Tree) (ts : List Tree) (u : Tree) →
    accepts (inserted (t ∷ ts)) u ≡ (accepts (inserted ts) u || eq_tree u t)
inserted-one t ts =
    canonical-accepts (λ u. accepts (inserted ts) u || eq_tree u t) (insert_tree t (inserted ts))
    (insert-canonical t (inserted ts) (inserted-fits ts))

inserted-in : (ts : List Tree) (u : Tree) → accepts (inserted ts) u ≡ true → u ∈ ts
inserted-in [] u e = absurd (false≢true (sym (empty-rejects (run empty_automaton u)) ∙ e))
inserted-in (t ∷ ts) u e =
    go (λ h. inserted-in ts u h) (or_cases (accepts (inserted ts) u) (eq_tree u t) (sym (inserted-one t ts u) ∙ e))
  where
    go : (accepts (inserted ts) u ≡ true → u ∈ ts) → (accepts (inserted ts) u ≡ true) ⊎ (eq_tree u t ≡ true) →
        u ∈ (t ∷ ts)
    go ih (inl h) = inr (ih h)
    go ih (inr h) = inl (eq_tree-true u t h)

in-inserted : (ts : List Tree) (u : Tree) → u ∈ ts → accepts (inserted ts) u ≡ true
in-inserted [] u x' = elim x' [ ]
in-inserted (t ∷ ts) u (inl e) =
    inserted-one t ts u
    ∙ or_right (accepts (inserted ts) u) (eq_tree u t) (rw e (eq_tree-same t))
in-inserted (t ∷ ts) u (inr i) =
    inserted-one t ts u ∙ or_left (accepts (inserted ts) u) (eq_tree u t) (in-inserted ts u i)

-- ---- the automaton with two outputs

no-children : (f : Forest) → RunEach two_outputs f [] → f ≡ nil
no-children nil r = refl
no-children (cons t f) r = absurd r

out-differs : {σ τ : Transition} → σ ≡ τ → (σ.out ≡ τ.out → ⊥) → ⊥
out-differs e h = h (ap (λ (υ : Transition). υ.out) e)

leaf-of : {q : ℕ} (a b : ℕ) (f : Forest) (qs : List ℕ) → RunEach two_outputs f qs →
    transition a qs q ≡ transition b [] q → node a f ≡ leaf b
leaf-of a b f qs r e =
    let l : a ≡ b = ap (λ (υ : Transition). υ.label) e in
    let n : qs ≡ [] = ap (λ (υ : Transition). υ.args) e in
    cc (no-children f (rw n at r))

runs-to-1 : (t : Tree) → RunsTo two_outputs t 1 → (t ≡ leaf 1) ⊎ (t ≡ leaf 2)
runs-to-1 (node a f) (qs, r, inl e) = inl (leaf-of a 1 f qs r e)
runs-to-1 (node a f) (qs, r, inr (inl e)) = absurd (out-differs e (λ z. omega arith))
runs-to-1 (node a f) (qs, r, inr (inr (inl e))) = inr (leaf-of a 2 f qs r e)
runs-to-1 (node a f) (qs, r, inr (inr (inr (inl e)))) = absurd (out-differs e (λ z. omega arith))
runs-to-1 (node a f) (qs, r, inr (inr (inr (inr (inr x7))))) = elim x7 [ ]
runs-to-1 (node a f) (qs, r, inr (inr (inr (inr (inl e))))) = absurd (out-differs e (λ z. omega arith))

runs-to-2 : (t : Tree) → RunsTo two_outputs t 2 → (t ≡ leaf 1) ⊎ (t ≡ leaf 3)
runs-to-2 (node a f) (qs, r, inl e) = absurd (out-differs e (λ z. omega arith))
runs-to-2 (node a f) (qs, r, inr (inl e)) = inl (leaf-of a 1 f qs r e)
runs-to-2 (node a f) (qs, r, inr (inr (inl e))) = absurd (out-differs e (λ z. omega arith))
runs-to-2 (node a f) (qs, r, inr (inr (inr (inl e)))) = inr (leaf-of a 3 f qs r e)
runs-to-2 (node a f) (qs, r, inr (inr (inr (inr (inr x7))))) = elim x7 [ ]
runs-to-2 (node a f) (qs, r, inr (inr (inr (inr (inl e))))) = absurd (out-differs e (λ z. omega arith))

two-children : (f : Forest) → RunEach two_outputs f (1 ∷ 2 ∷ []) → node 5 f ∈ cross_trees
two-children nil r = absurd r
two-children (cons t nil) r = absurd r.1
two-children (cons t (cons u (cons v f))) r = absurd r.1.1
two-children (cons t (cons u nil)) r = go (runs-to-1 t r.0) (runs-to-2 u r.1.0)
  where
    go : (t ≡ leaf 1) ⊎ (t ≡ leaf 2) → (u ≡ leaf 1) ⊎ (u ≡ leaf 3) → node 5 (cons t (cons u nil)) ∈ cross_trees
    go (inl d) (inl e) = inl cc
    go (inl d) (inr e) = inr (inl cc)
    go (inr d) (inl e) = inr (inr (inl cc))
    go (inr d) (inr e) = inr (inr (inr (inl cc)))

runs-to-3 : (t : Tree) → RunsTo two_outputs t 3 → t ∈ cross_trees
runs-to-3 (node a f) (qs, r, inl e) = absurd (out-differs e (λ z. omega arith))
runs-to-3 (node a f) (qs, r, inr (inl e)) = absurd (out-differs e (λ z. omega arith))
runs-to-3 (node a f) (qs, r, inr (inr (inl e))) = absurd (out-differs e (λ z. omega arith))
runs-to-3 (node a f) (qs, r, inr (inr (inr (inl e)))) = absurd (out-differs e (λ z. omega arith))
runs-to-3 (node a f) (qs, r, inr (inr (inr (inr (inr x7))))) = elim x7 [ ]
runs-to-3 (node a f) (qs, r, inr (inr (inr (inr (inl e))))) =
    let l : a ≡ 5 = ap (λ (υ : Transition). υ.label) e in
    let n : qs ≡ 1 ∷ 2 ∷ [] = ap (λ (υ : Transition). υ.args) e in
    rw l (two-children f (rw n at r))

crossed : (t u : Tree) → RunsTo two_outputs t 1 → RunsTo two_outputs u 2 →
    Accepts two_outputs (node 5 (cons t (cons u nil)))
crossed t u r s = (3, (1 ∷ 2 ∷ [], (r, (s, tt)), inr (inr (inr (inr (inl refl))))), refl)

accepted-cross : (t : Tree) → t ∈ cross_trees → Accepts two_outputs t
accepted-cross t (inl e) = rw e (crossed (leaf 1) (leaf 1) first second)
  where
    first : RunsTo two_outputs (leaf 1) 1
    first = ([], tt, inl refl)

    second : RunsTo two_outputs (leaf 1) 2
    second = ([], tt, inr (inl refl))
accepted-cross t (inr (inl e)) = rw e (crossed (leaf 1) (leaf 3) ([], tt, inl refl) ([], tt, inr (inr (inr (inl refl)))))
accepted-cross t (inr (inr (inl e))) =
    rw e (crossed (leaf 2) (leaf 1) ([], tt, inr (inr (inl refl))) ([], tt, inr (inl refl)))
accepted-cross t (inr (inr (inr (inr x4)))) = elim x4 [ ]
accepted-cross t (inr (inr (inr (inl e)))) =
    rw e (crossed (leaf 2) (leaf 3) ([], tt, inr (inr (inl refl))) ([], tt, inr (inr (inr (inl refl)))))

pub two-outputs-recognizes : Recognizes two_outputs (accepts (inserted cross_trees))
two-outputs-recognizes t = (there, λ e. accepted-cross t (inserted-in cross_trees t e))
  where
    there : Accepts two_outputs t → accepts (inserted cross_trees) t ≡ true
    there (q, r, e) =
        in-inserted cross_trees t
        (runs-to-3 t (subst (RunsTo two_outputs t) (sym (eqb-true 3 q e)) r))

-- the canonical automaton has 4 states and 7 transitions
pub cross-size : (states (inserted cross_trees) ≡ 4) × (length (inserted cross_trees).transitions ≡ 7)
unfolding insert_tree product_with subtree_automaton minimal quotient merge representative renumbered numbering closure nodes_of nodes live_pairs pair_rule accessible_pairs product_transition product_transitions_over product
cross-size = (refl, refl)

three-states : HasStates two_outputs (1 ∷ 2 ∷ 3 ∷ [])
three-states q (τ, i, o) =
    elem_in eqb eqb-true eqb_same q (1 ∷ 2 ∷ 3 ∷ [])
    (every_in (λ p. elem eqb p (1 ∷ 2 ∷ 3 ∷ [])) (τ.out ∷ τ.args)
    (every_in (λ τ. every (λ p. elem eqb p (1 ∷ 2 ∷ 3 ∷ [])) (τ.out ∷ τ.args)) two_outputs.transitions refl τ i) q
    (side o))
  where
    side : (q ∈ τ.args) ⊎ (q ≡ τ.out) → q ∈ (τ.out ∷ τ.args)
    side (inl j) = inr j
    side (inr e) = inl e

-- it has 3 states and 5 transitions: neither bound of NO SMALLER holds of it
pub two-outputs-smaller : (n m : ℕ) → AtLeast n m two_outputs →
    (n < states (inserted cross_trees)) × (m < length (inserted cross_trees).transitions)
two-outputs-smaller n m L =
    omega (
      arith,
      cross-size,
      L.states (1 ∷ 2 ∷ 3 ∷ []) three-states,
      L.transitions two_outputs.transitions (λ τ i. i),
    )

-- TOTAL: the numbers of trees of states and the total count what they say (02, order 2), and they follow one law.
use mathlib.Core.Bool.{Bool, cond, false, true, true≢false}
use mathlib.Core.List.{List, [], ◌++◌, ◌∷◌}
use mathlib.Core.Logic.{◌↔◌, ◌⊎◌, inl, inr}
use mathlib.Core.Path.{◌∙◌, ◌≡◌, ap, refl, subst, sym}
use Prim.Native.Nat.{◌≤◌, suc, zero, ℕ}
use native.Mathlib.Omega.{arith}
use lib.ListN.{length, length-append}
use Rattle.automata.specs.Acyclic.{Bounded, acyclic}
use Rattle.automata.specs.Automaton.{Automaton, IsState, accepting, accepts, run, states}
use Rattle.automata.specs.Canonical.{Canonical}
use Rattle.automata.specs.Order.{rising}
use Rattle.automata.specs.Totals.{FinitelyMany, Within, number_at, sum_accepting, sum_into, total, trees_of}
use Rattle.automata.specs.Totals.{trees_within}
use Rattle.automata.specs.Valid.{states_in_range}
use Rattle.lists.specs.Positions.{up_from}
use Rattle.lists.specs.Tests.{Counts, Distinct, Exactly, ◌∈◌}
use Rattle.trees.specs.Tree.{Tree}
use Rattle.automata.proofs.Bounded.{bounded-acyclic}
use Rattle.automata.proofs.CanonicalChange.{canonical-ranged}
use Rattle.automata.proofs.CanonicalRun.{canonical-accepts}
use Rattle.automata.proofs.Distinguishable.{run_fits}
use Rattle.automata.proofs.TotalsFinite.{acyclic-many, depth-states}
use Rattle.automata.proofs.TotalsWithin.{tree_list, tree_list-exactly, trees_within-length, trees_within-suc}
use Rattle.automata.proofs.TotalsWithin.{within-counted}
use Rattle.automata.proofs.Valid.{in-states, ranged-fits, states-in}
use Rattle.lists.proofs.Counts.{counts_same, counts-unique, exactly-counts, exactly-same}
use Rattle.lists.proofs.Distinct.{append-distinct, up_from-distinct}
use Rattle.lists.proofs.Tests.{append-in, in_append_left, in_append_right, length-if}

-- "no state" is not accepting
pub accepting-some : (A : Automaton) (q : ℕ) → accepting A q ≡ true → 1 ≤ q
accepting-some A zero e = absurd (true≢false (sym e))
accepting-some A (suc q) e = omega arith

-- the trees of the accepting states of a list, state by state
unfoldable pub accepted_over : Automaton → List ℕ → List Tree
accepted_over A [] = []
accepted_over A (q ∷ qs) = cond (accepting A q) (tree_list A (states A) q) [] ++ accepted_over A qs

module _ (A : Automaton) (ranged : states_in_range A ≡ true) (rises : rising A.transitions ≡ true) where
  -- a state with finitely many trees has all of them within any depth from the number of states on
  module _ (q : ℕ) (s : IsState A q) (many : FinitelyMany A q) where
    within_all : (d : ℕ) → states A ≤ d → (t : Tree) → Within A d q t ↔ (run A t ≡ q)
    within_all d h t = (λ w. w.0, λ e. (e, omega (arith, depth-states A ranged q s.0 many t e)))

    all-counted : (d : ℕ) → states A ≤ d → Counts (λ t. run A t ≡ q) (number_at (trees_within A d) q)
    all-counted d h =
        counts_same (Within A d q) (λ t. run A t ≡ q) (number_at (trees_within A d) q) (within_all d h)
        (within-counted A ranged rises d q s)

    pub trees-exactly : Exactly (λ t. run A t ≡ q) (tree_list A (states A) q)
    trees-exactly =
        exactly-same (Within A (states A) q) (λ t. run A t ≡ q) (tree_list A (states A) q)
        (within_all (states A) (omega arith)) (tree_list-exactly A ranged rises (states A) q s)

    -- 02, order 2: the number of a state counts its trees
    pub trees-counted : Counts (λ t. run A t ≡ q) (trees_of A q)
    unfolding trees_of
    trees-counted = all-counted (states A) (omega arith)

    -- 02, order 2: a state's trees are the sum over its transitions of the product of its arguments' trees
    pub trees-sum : trees_of A q ≡ sum_into (trees_of A) q A.transitions
    unfolding trees_of
    trees-sum =
        counts-unique (λ t. run A t ≡ q) (trees_of A q) (number_at (trees_within A (suc (states A))) q) trees-counted
        (all-counted (suc (states A)) (omega arith)) ∙ trees_within-suc A (states A) q s

    -- a state that some tree runs to has a tree
    pub trees-some : (t : Tree) → run A t ≡ q → 1 ≤ trees_of A q
    trees-some t e = go (tree_list A (states A) q) refl
      where
        go : (ts : List Tree) → tree_list A (states A) q ≡ ts → 1 ≤ trees_of A q
        go [] z = absurd (subst (λ (ts : List Tree). t ∈ ts) z ((trees-exactly.members t).1 e))
        go (u ∷ us) z = omega (arith, trees-counted.every-length (tree_list A (states A) q) trees-exactly, ap length z)

  -- ---- the total

  run-state : (t : Tree) → accepts A t ≡ true → IsState A (run A t)
  run-state t e = (accepting-some A (run A t) e, run_fits A (ranged-fits A ranged) t)

  -- every accepting state has finitely many trees
  module _ (many : (q : ℕ) → accepting A q ≡ true → FinitelyMany A q) where
    accepted-in : (qs : List ℕ) → ((q : ℕ) → q ∈ qs → IsState A q) → (t : Tree) → t ∈ accepted_over A qs →
        (run A t ∈ qs) × (accepts A t ≡ true)
    unfolding accepted_over
    accepted-in [] s t i = elim i [ ]
    accepted-in (q ∷ qs) s t i =
        go (λ j. accepted-in qs (λ p k. s p (inr k)) t j) (accepting A q) refl
        (append-in (cond (accepting A q) (tree_list A (states A) q) []) (accepted_over A qs) t i)
      where
        go : (t ∈ accepted_over A qs → (run A t ∈ qs) × (accepts A t ≡ true)) → (b : Bool) → accepting A q ≡ b →
            (t ∈ cond b (tree_list A (states A) q) []) ⊎ (t ∈ accepted_over A qs) →
            (run A t ∈ (q ∷ qs)) × (accepts A t ≡ true)
        go ih true e (inl j) =
            let r = ((trees-exactly q (s q (inl refl)) (many q e)).members t).0 j in (inl r, ap (accepting A) r ∙ e)
        go ih false e (inl j) = absurd j
        go ih b e (inr j) = let r = ih j in (inr r.0, r.1)

    in-accepted : (qs : List ℕ) → ((q : ℕ) → q ∈ qs → IsState A q) → (t : Tree) → run A t ∈ qs →
        accepts A t ≡ true → t ∈ accepted_over A qs
    unfolding accepted_over
    in-accepted [] s t x3 e = elim x3 [ ]
    in-accepted (q ∷ qs) s t (inl r) e =
        let a : accepting A q ≡ true = ap (accepting A) (sym r) ∙ e in
        in_append_left (cond (accepting A q) (tree_list A (states A) q) []) (accepted_over A qs) t
        (rw a (((trees-exactly q (s q (inl refl)) (many q a)).members t).1 r))
    in-accepted (q ∷ qs) s t (inr i) e =
        in_append_right (cond (accepting A q) (tree_list A (states A) q) []) (accepted_over A qs) t
        (in-accepted qs (λ p k. s p (inr k)) t i e)

    accepted-distinct : (qs : List ℕ) → ((q : ℕ) → q ∈ qs → IsState A q) → Distinct qs → Distinct (accepted_over A qs)
    unfolding accepted_over
    accepted-distinct [] s d = tt
    accepted-distinct (q ∷ qs) s d =
        go (accepted-distinct qs (λ p k. s p (inr k)) d.1) (accepting A q) refl
      where
        go : Distinct (accepted_over A qs) → (b : Bool) → accepting A q ≡ b →
            Distinct (cond b (tree_list A (states A) q) [] ++ accepted_over A qs)
        go ih false e = ih
        go ih true e =
            let X = trees-exactly q (s q (inl refl)) (many q e) in
            append-distinct (tree_list A (states A) q) (accepted_over A qs) X.once ih
            (λ t i j. d.0 (subst (λ (p : ℕ). p ∈ qs) ((X.members t).0 i)
            (accepted-in qs (λ p k. s p (inr k)) t j).0))

    pub accepted-length : (qs : List ℕ) → ((q : ℕ) → q ∈ qs → IsState A q) →
        length (accepted_over A qs) ≡ sum_accepting A (trees_of A) qs
    unfolding accepted_over trees_of
    accepted-length [] s = refl
    accepted-length (q ∷ qs) s =
        length-append (cond (accepting A q) (tree_list A (states A) q) []) (accepted_over A qs)
        ∙ cc (
          length-if (accepting A q) (tree_list A (states A) q) (trees_of A q)
              (sym (trees_within-length A ranged rises (states A) q (s q (inl refl)))),
          accepted-length qs (λ p k. s p (inr k)),
        )

    pub accepted-exactly : Exactly (λ t. accepts A t ≡ true) (accepted_over A (up_from 1 (states A)))
    accepted-exactly = let all = up_from 1 (states A) in record {
      once = accepted-distinct all (states-in A) (up_from-distinct 1 (states A));
      members = λ t. (
        λ i. (accepted-in all (states-in A) t i).1,
        λ e. in-accepted all (states-in A) t (in-states A (run A t) (run-state t e)) e,
      );
    }

    -- 02, order 2: the total counts the accepted trees
    pub total-counted : Counts (λ t. accepts A t ≡ true) (total A)
    unfolding total
    total-counted =
        let all = up_from 1 (states A) in
        subst (Counts (λ t. accepts A t ≡ true)) (accepted-length all (states-in A))
        (exactly-counts (λ t. accepts A t ≡ true) (accepted_over A all) accepted-exactly)

-- ---- automata in which no state comes back

module _ (A : Automaton) (ranged : states_in_range A ≡ true) (rises : rising A.transitions ≡ true)
    (ac : acyclic A ≡ true) where
  pub acyclic-counted : (q : ℕ) → IsState A q → Counts (λ t. run A t ≡ q) (trees_of A q)
  acyclic-counted q s = trees-counted A ranged rises q s (acyclic-many A ranged ac q s.0)

  pub acyclic-sum : (q : ℕ) → IsState A q → trees_of A q ≡ sum_into (trees_of A) q A.transitions
  acyclic-sum q s = trees-sum A ranged rises q s (acyclic-many A ranged ac q s.0)

  pub acyclic-total : Counts (λ t. accepts A t ≡ true) (total A)
  acyclic-total = total-counted A ranged rises (λ q e. acyclic-many A ranged ac q (accepting-some A q e))

-- 02, order 2: the total of the automaton of a bounded set counts the trees of the set
pub canonical-total : (S : Tree → Bool) (A : Automaton) → Canonical S A → Bounded S →
    Counts (λ t. S t ≡ true) (total A)
canonical-total S A X bounded =
    counts_same (λ t. accepts A t ≡ true) (λ t. S t ≡ true) (total A)
    (λ t. (λ e. sym (canonical-accepts S A X t) ∙ e, λ e. canonical-accepts S A X t ∙ e))
    (acyclic-total A (canonical-ranged S A X) X.sorted (bounded-acyclic S A X bounded))

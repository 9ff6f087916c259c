-- The trees of a state that have at most d nodes on the longest way down: a list of them, and their number (02,
-- order 2). Nothing here asks that a state has finitely many trees.
use mathlib.Core.Bool.{Bool, cond, false, true}
use mathlib.Core.List.{List, [], ◌++◌, ◌∷◌}
use mathlib.Core.Logic.{◌⊎◌, inl, inr}
use mathlib.Core.Path.{◌∙◌, ◌≡◌, ap, refl, subst, sym}
use Prim.Native.Nat.{◌+◌, ◌≤◌, suc, zero, ℕ}
use native.Mathlib.Omega.{arith}
use lib.Dec.{eqb}
use lib.ListN.{length}
use Rattle.automata.specs.Automaton.{Automaton, IsState, Transition, run, runs, states, step}
use Rattle.automata.specs.Order.{key, lex, rising}
use Rattle.automata.specs.Totals.{Within, number_at, sum_into, trees_within}
use Rattle.automata.specs.Valid.{states_in_range}
use Rattle.lists.specs.Tests.{Counts, Distinct, Exactly, ◌∈◌}
use Rattle.trees.specs.Tree.{Forest, Tree, cons, depths, nil, node}
use Rattle.automata.proofs.Order.{key-equal, lex_irrefl, lookup-transition, rising-head, rising-tail}
use Rattle.automata.proofs.Steps.{Taken, step-view}
use Rattle.automata.proofs.TotalsLists.{Chosen, choices, choices-distinct, choices-in, in-choices, in-nodes_into}
use Rattle.automata.proofs.TotalsLists.{nodes_into, nodes_into-in, nodes_into-length, nodes_over}
use Rattle.automata.proofs.TotalsSums.{sum_same}
use Rattle.automata.proofs.Valid.{ranged-transition}
use Rattle.lists.proofs.Counts.{exactly-counts}
use Rattle.lists.proofs.Intervals.{get_d-tabulated, get_d-zeros}
use Rattle.lists.proofs.Distinct.{append-distinct, map-distinct}
use Rattle.lists.proofs.Tests.{in_map, map-in, none-zero}
use Rattle.trees.proofs.Trees.{node-children, node-label}

-- the trees of state q within depth d, by the transition at the top, then by the children
unfoldable pub tree_list : Automaton → ℕ → ℕ → List Tree
tree_list A zero q = []
tree_list A (suc d) q = nodes_into (tree_list A d) q A.transitions

-- lists of trees by state, with trees of this depth
abbrev Lists : Automaton → ℕ → (ℕ → List Tree) → Type 0
Lists A d T = (q : ℕ) → IsState A q → Exactly (Within A d q) (T q)

trees_within-zero : (A : Automaton) (q : ℕ) → number_at (trees_within A 0) q ≡ 0
unfolding trees_within
trees_within-zero A zero = refl
trees_within-zero A (suc q) = get_d-zeros (states A) q

-- one depth more: the sum over the transitions into the state of the products over their arguments
pub trees_within-suc : (A : Automaton) (d q : ℕ) → IsState A q →
    number_at (trees_within A (suc d)) q ≡ sum_into (number_at (trees_within A d)) q A.transitions
unfolding trees_within
trees_within-suc A d zero s = absurd (omega arith)
trees_within-suc A d (suc q) s =
    let e : 1 + q ≡ suc q = omega arith in
    get_d-tabulated (λ q. sum_into (number_at (trees_within A d)) q A.transitions) 1 (states A) q 0 (omega arith)
    ∙ ap (λ (p : ℕ). sum_into (number_at (trees_within A d)) p A.transitions) e

module _ (A : Automaton) (ranged : states_in_range A ≡ true) (rises : rising A.transitions ≡ true) where
  -- one more node on the way down
  module _ (d : ℕ) (T : ℕ → List Tree) (lists : Lists A d T) where
    chosen-runs : (f : Forest) (qs : List ℕ) → ((q : ℕ) → q ∈ qs → IsState A q) → Chosen T f qs →
        (runs A f ≡ qs) × (depths f ≤ d)
    chosen-runs nil [] s h = (refl, omega arith)
    chosen-runs nil (q ∷ qs) s h = absurd h
    chosen-runs (cons t f) [] s h = absurd h
    chosen-runs (cons t f) (q ∷ qs) s h =
        let (e, l) = ((lists q (s q (inl refl))).members t).0 h.0 in
        let (r, m) = chosen-runs f qs (λ p i. s p (inr i)) h.1 in (cc, omega arith)

    runs-chosen : (f : Forest) → ((q : ℕ) → q ∈ runs A f → IsState A q) → depths f ≤ d → Chosen T f (runs A f)
    runs-chosen nil s l = tt
    runs-chosen (cons t f) s l = (
      ((lists (run A t) (s (run A t) (inl refl))).members t).1 (refl, omega arith),
      runs-chosen f (λ q i. s q (inr i)) (omega arith),
    )

    -- what stands at a transition has its arguments
    over_runs : (τ : Transition) → τ ∈ A.transitions → (t : Tree) → t ∈ nodes_over T τ →
        (f : Forest) × (t ≡ node τ.label f) × (runs A f ≡ τ.args) × (depths f ≤ d)
    unfolding nodes_over
    over_runs τ i t j =
        let (f, k, e) = map-in (node τ.label) (choices T τ.args) t j in
        let (r, l) = chosen-runs f τ.args (ranged-transition A ranged τ i).args (choices-in T τ.args f k) in
        (f, e, r, l)

    over-within : (τ : Transition) → τ ∈ A.transitions → (t : Tree) → t ∈ nodes_over T τ →
        Within A (suc d) τ.out t
    over-within τ i t j =
        let (f, e, r, l) = over_runs τ i t j in
        let z = none-zero τ.args (λ q k. ((ranged-transition A ranged τ i).args q k).0) in
        subst (Within A (suc d) τ.out) (sym e)
        (rw (r, z) (lookup-transition A.transitions rises τ i), omega arith)

    within-into : (q : ℕ) → IsState A q → (t : Tree) → Within A (suc d) q t → t ∈ nodes_into T q A.transitions
    unfolding nodes_over
    within-into q s (node a f) (e, l) = go (step-view A a (runs A f))
      where
        go : (step A a (runs A f) ≡ 0) ⊎ Taken A a (runs A f) → node a f ∈ nodes_into T q A.transitions
        go (inl z) = absurd (omega arith)
        go (inr (n, (τ, i, u, v, w))) =
            in-nodes_into T q A.transitions (node a f) τ i (w ∙ e)
            (rw (u, v)
            (in_map (node a) (choices T (runs A f)) f
            (in-choices T f (runs A f)
            (runs-chosen f (λ p k. (ranged-transition A ranged τ i).args p (rw v k)) (omega arith)))))

    over-distinct : (τ : Transition) → τ ∈ A.transitions → Distinct (nodes_over T τ)
    unfolding nodes_over
    over-distinct τ i =
        map-distinct (node τ.label) (choices T τ.args) (λ f g k l. node-children τ.label τ.label f g)
        (choices-distinct T τ.args (λ q j. (lists q ((ranged-transition A ranged τ i).args q j)).once))

    -- a tree stands at one transition only
    over-one : (σ τ : Transition) → σ ∈ A.transitions → τ ∈ A.transitions → (t : Tree) → t ∈ nodes_over T σ →
        t ∈ nodes_over T τ → key σ ≡ key τ
    over-one σ τ i j t k l =
        let (f, e, r, m) = over_runs σ i t k in
        let (g, d, s, n) = over_runs τ j t l in
        let z : node σ.label f ≡ node τ.label g = sym e ∙ d in
        key-equal σ τ (node-label σ.label τ.label f g z)
        (sym r ∙ ap (runs A) (node-children σ.label τ.label f g z) ∙ s)

    into-distinct : (q : ℕ) (τs : List Transition) → ((τ : Transition) → τ ∈ τs → τ ∈ A.transitions) →
        rising τs ≡ true → Distinct (nodes_into T q τs)
    unfolding nodes_into
    into-distinct q [] within r = tt
    into-distinct q (τ ∷ τs) within r =
        go (into-distinct q τs (λ σ i. within σ (inr i)) (rising-tail τ τs r)) (eqb τ.out q)
      where
        apart : (t : Tree) → t ∈ nodes_over T τ → t ∈ nodes_into T q τs → ⊥
        apart t i j =
            let (σ, k, o, l) = nodes_into-in T q τs t j in
            lex_irrefl (key τ)
            (subst (λ (ks : List ℕ). lex (key τ) ks ≡ true)
            (sym (over-one τ σ (within τ (inl refl)) (within σ (inr k)) t i l)) (rising-head τ τs r σ k))

        go : Distinct (nodes_into T q τs) → (b : Bool) → Distinct (cond b (nodes_over T τ) [] ++ nodes_into T q τs)
        go ih true =
            append-distinct (nodes_over T τ) (nodes_into T q τs) (over-distinct τ (within τ (inl refl))) ih apart
        go ih false = ih

    lists-next : Lists A (suc d) (λ q. nodes_into T q A.transitions)
    lists-next q s = record {
      once = into-distinct q A.transitions (λ τ i. i) rises;
      members = λ t. (to t, within-into q s t);
    }
      where
        to : (t : Tree) → t ∈ nodes_into T q A.transitions → Within A (suc d) q t
        to t i = let (τ, j, o, k) = nodes_into-in T q A.transitions t i in
            subst (λ (p : ℕ). Within A (suc d) p t) o (over-within τ j t k)

  pub tree_list-exactly : (d q : ℕ) → IsState A q → Exactly (Within A d q) (tree_list A d q)
  unfolding tree_list
  tree_list-exactly zero q s = record { once = tt; members = λ t. (λ i. absurd i, λ w. absurd (none t w)) }
    where
      none : (t : Tree) → Within A zero q t → ⊥
      none (node a f) (e, l) = omega arith
  tree_list-exactly (suc d) q s = lists-next d (tree_list A d) (tree_list-exactly d) q s

  pub trees_within-length : (d q : ℕ) → IsState A q → number_at (trees_within A d) q ≡ length (tree_list A d q)
  unfolding tree_list
  trees_within-length zero q s = trees_within-zero A q
  trees_within-length (suc d) q s =
      trees_within-suc A d q s
      ∙ sum_same (number_at (trees_within A d)) (λ q. length (tree_list A d q)) q A.transitions
      (λ τ i o p j. trees_within-length d p ((ranged-transition A ranged τ i).args p j))
      ∙ sym (nodes_into-length (tree_list A d) q A.transitions)

  -- 02, order 2, by depth: the number counts the trees
  pub within-counted : (d q : ℕ) → IsState A q → Counts (Within A d q) (number_at (trees_within A d) q)
  within-counted d q s =
      subst (Counts (Within A d q)) (sym (trees_within-length d q s))
      (exactly-counts (Within A d q) (tree_list A d q) (tree_list-exactly d q s))

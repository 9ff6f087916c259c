-- How a node comes by its state and a row by its states, and what is stored for the nodes.
use mathlib.Core.Bool.{Bool, ◌||◌, cond, false, false≢true, true}
use mathlib.Core.List.{List, [], ◌++◌, ◌∷◌, append_assoc, append-nil}
use mathlib.Core.Logic.{inl, inr}
use mathlib.Core.Path.{◌∙◌, ◌≡◌, ap, refl, sym}
use Prim.Native.Nat.{◌*◌, ◌+◌, ◌≤◌, suc, ℕ}
use native.Mathlib.Omega.{arith}
use lib.Dec.{eqb}
use lib.ListN.{get_or, length, length-append, set, take}
use lib.Seq.{length-sets, sets}
use Rattle.automata.specs.Automaton.{Transition, lookup, matches, run, step}
use Rattle.automata.specs.NodeStates.{forest_states, node_states}
use Rattle.std.specs.Option.{unwrap_or}
use Rattle.std.specs.Prelude.{None, Option, Some, is_some}
use Rattle.format.specs.Format.{label_bytes, max_nodes, node_bytes}
use Rattle.lists.specs.Tests.{◌∈◌, any}
use Rattle.running.specs.Running.{Ahead, Steps, child_states, over, ran_to}
use Rattle.running.specs.declared.Ran.{Ran}
use Rattle.running.specs.declared.Ran.TheVariants.{Nothing, State}
use Rattle.table.specs.Layout.{transitions_in}
use Rattle.trees.specs.Listing.{first_trees, label_at, read_tree, read_trees}
use Rattle.trees.specs.Preorder.{preorder, preorders}
use Rattle.automata.proofs.NodeStates.{node-states-length, states-cons, states-nil, states-node}
use Rattle.lists.proofs.Parts.{part}
use Rattle.running.proofs.Ahead.{FirstRun, first-others, root-reads}
use Rattle.running.proofs.Answers.{nothing-ran, ran-none, ran-state, state-ran}
use Rattle.running.proofs.ChildRows.{none-behind}
use Rattle.running.proofs.NodeBytes.{sets-append, sets-before}
use Rattle.table.proofs.Decoded.{transitions_in-in}

-- ---- the output of a transition that is found

lookup-some : (ts : List Transition) (a : ℕ) (qs : List ℕ) → ((t : Transition) → t ∈ ts → 1 ≤ t.out) →
    any (matches a qs) ts ≡ true → 1 ≤ lookup a qs ts
lookup-some [] a qs h e = absurd (false≢true e)
lookup-some (t ∷ ts) a qs h e = go (matches a qs t) e (λ d. lookup-some ts a qs (λ u m. h u (inr m)) d)
  where
    go : (b : Bool) → (b || any (matches a qs) ts) ≡ true → (any (matches a qs) ts ≡ true → 1 ≤ lookup a qs ts) →
        1 ≤ cond b t.out (lookup a qs ts)
    go true d ih = h t (inl refl)
    go false d ih = ih d

found_some : {s : List ℕ} {n : ℕ} → Steps s n → (a : ℕ) (qs : List ℕ) →
    any (matches a qs) (transitions_in s n) ≡ true → 1 ≤ lookup a qs (transitions_in s n)
found_some {s} {n} v a qs = lookup-some (transitions_in s n) a qs out
  where
    out : (t : Transition) → t ∈ transitions_in s n → 1 ≤ t.out
    out t m = let (i, h, e) = transitions_in-in s n t m in rw e (v.out_some i h)

-- ---- a node

-- its children run to the states qs
module _ (τs : List ℕ) (n a : ℕ) (qs : List ℕ) where
  -- a child has no state
  pub node-short : any (eqb 0) qs ≡ true → Nothing ≡ ran_to (step (over τs n) a qs)
  node-short d = nothing-ran _ (rw d)

  module _ (d : any (eqb 0) qs ≡ false) where
    node-step : lookup a qs (transitions_in τs n) ≡ step (over τs n) a qs
    node-step = rw d

    pub node-lost : {r : Option ℕ} → unwrap_or r 0 ≡ lookup a qs (transitions_in τs n) → r ≡ None →
        Nothing ≡ ran_to (step (over τs n) a qs)
    node-lost g z = nothing-ran _ (sym node-step ∙ sym g ∙ ap (λ o. unwrap_or o 0) z)

    pub node-found : Steps τs n → {r : Option ℕ} (q : ℕ) → unwrap_or r 0 ≡ lookup a qs (transitions_in τs n) →
        is_some r ≡ any (matches a qs) (transitions_in τs n) → r ≡ Some q → State q ≡ ran_to (step (over τs n) a qs)
    node-found u q g i z =
        let out : q ≡ lookup a qs (transitions_in τs n) = sym (ap (λ o. unwrap_or o 0) z) ∙ g in
        let some = found_some u a qs (sym i ∙ ap is_some z) in
        state-ran q (λ y. omega arith) ∙ ap ran_to (out ∙ node-step)

-- ---- a tree

-- k is the number of the root's children
module _ {s : List ℕ} {at : ℕ} (v : Ahead s 1 at) (k : ℕ) (e : k ≡ get_or s label_bytes 0) where
  -- they have m nodes
  pub root-nodes : {m : ℕ} → m ≡ length (preorders (first_trees k (read_trees (part s node_bytes)))) →
      1 + m ≡ length (preorder (read_tree s))
  root-nodes d = rw (root-reads v k e) (omega (arith, d))

  module _ (τs : List ℕ) (n : ℕ) where
    pub root-run : {r : Ran} {a : ℕ} → r ≡ ran_to (step (over τs n) a (child_states τs n (part s node_bytes) k)) →
        a ≡ label_at s 0 → r ≡ ran_to (run (over τs n) (read_tree s))
    root-run h label = h ∙ rw (label, root-reads v k e)

    -- the root's state goes to the byte before those of the nodes below
    pub tree-states : (q : ℕ) → q ≡ run (over τs n) (read_tree s) → (old : List ℕ) {new : List ℕ} →
        new ≡ sets old (at + 1) (forest_states (over τs n) (first_trees k (read_trees (part s node_bytes)))) →
        set new at q ≡ sets old at (node_states (over τs n) (read_tree s))
    tree-states q d old h =
        let z : at + 1 ≡ suc at = omega arith in
        let below = forest_states (over τs n) (first_trees k (read_trees (part s node_bytes))) in
        rw (h, d, z, root-reads v k e, states-node) (sets-before below old (suc at) at _ (omega arith))

-- ---- children

pub children-none : (s : List ℕ) (j : ℕ) → j ≡ 0 → 0 ≡ length (preorders (first_trees j (read_trees s)))
children-none s j e = rw e

-- j trees ahead are the first, which has m nodes, and i others, which have l
pub trees-nodes : {s : List ℕ} {j i at m : ℕ} (w : FirstRun s j i at m) {l : ℕ} →
    l ≡ length (preorders (first_trees i (read_trees (part s (node_bytes * m))))) →
    m + l ≡ length (preorders (first_trees j (read_trees s)))
trees-nodes {s} {i = i} {m = m} w h =
    let others = preorders (first_trees i (read_trees (part s (node_bytes * m)))) in
    rw (first-others w) (omega (arith, w.nodes, h, length-append (preorder (read_tree s)) others))

module _ (τs : List ℕ) (n : ℕ) where
  -- the children of a node are all run
  pub children-done : {r : Ran} (s : List ℕ) {k arity : ℕ} (j a : ℕ) (row : List ℕ) → k ≡ arity → j ≡ 0 →
      r ≡ ran_to (step (over τs n) a (take arity row)) →
      r ≡ ran_to (step (over τs n) a (take k row ++ child_states τs n s j))
  children-done s {k} j a row e d h = rw (d, append-nil, e) h

  pub bytes-none : (s : List ℕ) (j at : ℕ) (old : List ℕ) → j ≡ 0 →
      old ≡ sets old at (forest_states (over τs n) (first_trees j (read_trees s)))
  bytes-none s j at old e = rw (e, states-nil)

  -- j trees ahead are the first, which has m nodes, and i others
  module _ {s : List ℕ} {j i at m : ℕ} (w : FirstRun s j i at m) where
    abbrev rest : List ℕ
    rest = part s (node_bytes * m)

    child-states : {q : ℕ} → q ≡ run (over τs n) (read_tree s) → child_states τs n s j ≡ q ∷ child_states τs n rest i
    child-states h = rw (first-others w) (ap (λ q. q ∷ child_states τs n rest i) (sym h))

    -- what it runs to; a is its parent's label, and qs are the states of the children before it
    module _ {r : Ran} (h : r ≡ ran_to (run (over τs n) (read_tree s))) (a : ℕ) (qs : List ℕ) where
      -- no state, so its parent has none
      pub child-none : r ≡ Nothing → Nothing ≡ ran_to (step (over τs n) a (qs ++ child_states τs n s j))
      child-none e =
          node-short τs n a (qs ++ child_states τs n s j)
          (ap (λ rs. any (eqb 0) (qs ++ rs)) (child-states (ran-none (run (over τs n) (read_tree s)) h e))
          ∙ none-behind qs (child_states τs n rest i))

      -- the state q, which is stored in the row
      pub child-next : {q : ℕ} → r ≡ State q → (row : List ℕ) → row ≡ qs ++ (q ∷ []) → {r' : Ran} →
          r' ≡ ran_to (step (over τs n) a (row ++ child_states τs n rest i)) →
          r' ≡ ran_to (step (over τs n) a (qs ++ child_states τs n s j))
      child-next {q} e row d g =
          let states : row ++ child_states τs n rest i ≡ qs ++ child_states τs n s j =
          ap (λ l. l ++ child_states τs n rest i) d ∙ append_assoc qs (q ∷ []) (child_states τs n rest i)
          ∙ ap (λ l. qs ++ l) (sym (child-states (ran-state (run (over τs n) (read_tree s)) h e))) in
          g ∙ ap (λ l. ran_to (step (over τs n) a l)) states

    -- as many bytes as before
    pub bytes-kept : (old : List ℕ) {mid : List ℕ} → mid ≡ sets old at (node_states (over τs n) (read_tree s)) →
        length old ≡ max_nodes → length mid ≡ max_nodes
    bytes-kept old h d = ap length h ∙ length-sets old at (node_states (over τs n) (read_tree s)) ∙ d

    pub trees-states : (old : List ℕ) {mid new : List ℕ} → mid ≡ sets old at (node_states (over τs n) (read_tree s)) →
        new ≡ sets mid (at + m) (forest_states (over τs n) (first_trees i (read_trees rest))) →
        new ≡ sets old at (forest_states (over τs n) (first_trees j (read_trees s)))
    trees-states old h g =
        let A = over τs n in
        let size : m ≡ length (node_states A (read_tree s)) = w.nodes ∙ sym (node-states-length A (read_tree s)) in
        let F = forest_states A (first_trees i (read_trees rest)) in
        g ∙ ap (λ l. sets l (at + m) F) h
        ∙ ap (λ k. sets (sets old at (node_states A (read_tree s))) (at + k) F) size
        ∙ sym (sets-append (node_states A (read_tree s)) F old at)
        ∙ ap (sets old at) (sym (states-cons A (read_tree s) (first_trees i (read_trees rest)))
        ∙ ap (forest_states A) (sym (first-others w)))

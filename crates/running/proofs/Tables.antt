-- A run over a table that passed 7: what it needs, and what it stores.
use mathlib.Core.Bool.{false, true}
use mathlib.Core.List.{List, []}
use mathlib.Core.Path.{◌∙◌, ◌≡◌, ap, ap₂, refl, sym}
use Prim.Native.Nat.{◌<◌, ◌≤◌, ℕ}
use native.Mathlib.Omega.{arith}
use lib.Dec.{leb}
use lib.ListN.{get_or, get_or-replicate, length, replicate}
use lib.Seq.{length-sets, sets}
use borrow.Author.Tests.{le-leb}
use Rattle.automata.specs.Automaton.{Automaton, Fits, Transition, accepting, accepts, run, states}
use Rattle.automata.specs.NodeStates.{node_states}
use Rattle.fields.specs.Fields.{InTable}
use Rattle.format.specs.Format.{head_bytes, max_arity, max_nodes}
use Rattle.lists.specs.Tests.{◌∈◌}
use Rattle.running.specs.Running.{HoldsStates, Rows, Steps, over}
use Rattle.table.specs.Layout.{class_at, decode, state_count, transition_count, transitions_in}
use Rattle.trees.specs.Listing.{nodes_in, one_tree, read_tree}
use Rattle.trees.specs.Preorder.{preorder}
use Rattle.trees.specs.Tree.{Tree, node}
use Rattle.automata.proofs.Distinguishable.{run_fits}
use Rattle.automata.proofs.NodeStates.{node-state, node-states-length, states-node, states-transitions}
use Rattle.fields.proofs.Transitions.{part_body}
use Rattle.lists.proofs.Parts.{part}
use Rattle.lists.proofs.Tests.{in-every}
use Rattle.running.proofs.NodeBytes.{sets-zeros}
use Rattle.table.proofs.Decoded.{decoded-class, decoded-in, decoded-states, decoded-transitions}
use Rattle.trees.proofs.Listing.{listing-length}
use Rattle.trees.proofs.Preorder.{preorder-bytes, preorder-read}
use Rattle.trees.proofs.Suffixes.{Passed, nodes_from, read_whole}

-- ---- what a run needs

pub table-steps : {b : List ℕ} → InTable b → (n : ℕ) → n ≡ transition_count b → Steps (part b head_bytes) n
table-steps {b} v n e =
    rw (part_body b, e) (record { runs = v.over.runs; out_some = v.over.out_some })

-- rows that no state was stored in
pub rows-blank : Rows (replicate max_nodes (replicate max_arity 0))
rows-blank = record {
  many = refl;
  wide = λ i h. ap length (get_or-replicate max_nodes i (replicate max_arity 0) [] h);
}

-- ---- what the answer says

-- the bytes stored in zeros by a run over a table are the states of the table's automaton
pub table-states : (b : List ℕ) (n : ℕ) (t : Tree) → n ≡ transition_count b → length (preorder t) ≤ max_nodes →
    HoldsStates (decode b) t (sets (replicate max_nodes 0) 0 (node_states (over (part b head_bytes) n) t))
table-states b n t e h = record {
  size = length-sets (replicate max_nodes 0) 0 (node_states (over (part b head_bytes) n) t);
  each = λ i. ap (λ qs. get_or (sets (replicate max_nodes 0) 0 qs) i 0) same
      ∙ sets-zeros max_nodes (node_states (decode b) t) few i;
}
  where
    few : length (node_states (decode b) t) ≤ max_nodes
    few = omega (arith, node-states-length (decode b) t)

    same : node_states (over (part b head_bytes) n) t ≡ node_states (decode b) t
    same = states-transitions (over (part b head_bytes) n) (decode b)
        (ap₂ transitions_in (part_body b) e ∙ sym (decoded-transitions b)) t

-- the byte of the root is the state that the tree runs to
pub root-byte : {A : Automaton} {t : Tree} {bs : List ℕ} → HoldsStates A t bs → get_or bs 0 0 ≡ run A t
root-byte {A} {t} h = h.each 0 ∙ first t
  where
    first : (t : Tree) → get_or (node_states A t) 0 0 ≡ run A t
    first (node a f) = rw (states-node A a f)

-- the byte of node i is the state of the tree that is listed there
pub node-byte : {s : List ℕ} → Passed s → {A : Automaton} {bs : List ℕ} → HoldsStates A (read_tree s) bs → (i : ℕ) →
    i < nodes_in s → get_or bs i 0 ≡ run A (read_tree (nodes_from s i))
unfolding one_tree
node-byte {s} ok {A} h i l =
    let nodes = preorder-bytes (read_tree s) in
    h.each i ∙ node-state A (read_tree s) i (omega (arith, listing-length s ok.lists, ok.even))
    ∙ ap (run A) (preorder-read s (read_whole ok) i)

module _ (b : List ℕ) (v : InTable b) (t : Tree) where
  table_fits : Fits (decode b)
  table_fits = in-every (λ τ. leb τ.out (states (decode b))) (decode b).transitions fits
    where
      fits : (τ : Transition) → τ ∈ (decode b).transitions → leb τ.out (states (decode b)) ≡ true
      fits τ m = let (i, h, e) = decoded-in b τ m in
          rw (e, decoded-states b) (le-leb _ (state_count b) (v.over.out-state i h))

  -- the class byte of the state that a tree runs to
  pub class-reached : (q : ℕ) → q ≡ run (decode b) t → (q ≡ 0 → ⊥) → class_at b q ≡ accepts (decode b) t
  class-reached q e h =
      sym (ap (accepting (decode b)) (sym e)
      ∙ decoded-class b q (omega arith) (omega (arith, e, run_fits (decode b) table_fits t, decoded-states b)))

  pub none-reached : (q : ℕ) → q ≡ run (decode b) t → q ≡ 0 → false ≡ accepts (decode b) t
  none-reached q e z = ap (accepting (decode b)) (sym z ∙ e)

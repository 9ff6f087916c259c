-- The walk over the states of a listing's nodes that finds where its tree stops.
use mathlib.Core.Bool.{Bool, cond, false, true}
use mathlib.Core.List.{List}
use mathlib.Core.Path.{◌∙◌, ◌≡◌, ap, refl, subst, sym}
use Prim.Native.Nat.{◌*◌, ◌+◌, ◌-◌, ◌<◌, ◌≤◌, suc, ℕ}
use native.Mathlib.Omega.{arith}
use lib.Dec.{eqb, ltb}
use lib.ListN.{get_or}
use borrow.Author.Tests.{eqb-false, eqb-true, ltb-false, ltb-true}
use Rattle.automata.specs.Automaton.{Automaton, run}
use Rattle.automata.specs.Stops.{stop_place}
use Rattle.format.specs.Format.{max_arity}
use Rattle.running.specs.Running.{HoldsStates}
use Rattle.running.specs.Stopping.{walk, walked}
use Rattle.running.specs.declared.stops.Below.{Below}
use Rattle.trees.specs.Listing.{children_at, first_tree, first_trees, label_at, later_trees, nodes_in}
use Rattle.trees.specs.Listing.{read_tree, read_trees}
use Rattle.trees.specs.Tree.{Forest, Tree, cons, count, node}
use Rattle.automata.proofs.StopWalk.{Walk, walk_end, walk-on, walk_start, walk-stopped}
use Rattle.running.proofs.Tables.{node-byte}
use Rattle.trees.proofs.Forests.{first-both, later-count}
use Rattle.trees.proofs.Suffixes.{Passed, children-there, nodes-end, nodes_from, read_next, read_whole}

-- Before node i: of the trees that are listed from there on, the first `left` are still to come below node `stop`. So
-- the walk stands for every automaton that has these states.
pub record Walking (s bs : List ℕ) (stop left i : ℕ) : Type 0 where
  pub within : i ≤ nodes_in s
  pub behind : stop < i
  pub enough : left ≤ count (read_trees (nodes_from s i))
  pub few : left ≤ max_arity * i
  pub stands : (A : Automaton) → HoldsStates A (read_tree s) bs → run A (read_tree s) ≡ 0 →
      Walk A (read_tree s) stop i (first_trees left (read_trees (nodes_from s i)))

module _ {s : List ℕ} (ok : Passed s) where
  -- trees are to come, so there is a node
  more-nodes : (i : ℕ) → i ≤ nodes_in s → 1 ≤ count (read_trees (nodes_from s i)) → i < nodes_in s
  more-nodes i h l = go (ltb i (nodes_in s)) refl
    where
      go : (b : Bool) → ltb i (nodes_in s) ≡ b → i < nodes_in s
      go true e = ltb-true i (nodes_in s) e
      go false e =
          let z : i ≡ nodes_in s = omega (arith, ltb-false i (nodes_in s) e) in
          absurd (omega (
            arith,
            ap (λ (n : ℕ). count (read_trees (nodes_from s n))) z,
            ap (λ (l : List ℕ). count (read_trees l)) (nodes-end ok),
          ))

  pub first-node : 0 < nodes_in s
  first-node = more-nodes 0 (omega arith) (omega (arith, ap count (read_whole ok)))

  -- the trees listed after node i, the node's children first among them
  abbrev after : ℕ → Forest
  after i = read_trees (nodes_from s (i + 1))

  abbrev tree : ℕ → Tree
  tree i = node (label_at s i) (first_trees (children_at s i) (after i))

  pub walking_start : (bs : List ℕ) → Walking s bs 0 (children_at s 0) 1
  walking_start bs = record {
    within = first-node;
    behind = omega arith;
    enough = children-there ok 0 first-node;
    few = omega (arith, ok.narrow 0 first-node);
    stands = λ A H e.
        let top : read_tree s ≡ tree 0 = ap first_tree (read_next ok 0 first-node) in
        subst (λ (t : Tree). Walk A t 0 1 (first_trees (children_at s 0) (after 0))) (sym top)
        (walk_start A (label_at s 0) (first_trees (children_at s 0) (after 0)) (ap (run A) (sym top) ∙ e));
  }

  module _ {bs : List ℕ} {stop left i : ℕ} (some : 1 ≤ left) (W : Walking s bs stop left i) where
    pub next-node : i < nodes_in s
    next-node = more-nodes i W.within (omega (arith, W.enough))

    -- the byte of node i is the state of its subtree
    state-there : (A : Automaton) → HoldsStates A (read_tree s) bs → get_or bs i 0 ≡ run A (tree i)
    state-there A H =
        node-byte ok H i next-node ∙ ap (λ (f : Forest). run A (first_tree f)) (read_next ok i next-node)

    -- it is the first of the trees to come
    first-there : first_trees left (read_trees (nodes_from s i)) ≡
        cons (tree i) (first_trees (left - 1) (later_trees (children_at s i) (after i)))
    first-there =
        let e : left ≡ suc (left - 1) = omega arith in
        rw (read_next ok i next-node)
        (ap (λ (n : ℕ). first_trees n (cons (tree i) (later_trees (children_at s i) (after i)))) e)

    stood : (A : Automaton) → HoldsStates A (read_tree s) bs → run A (read_tree s) ≡ 0 →
        Walk A (read_tree s) stop i (cons (tree i) (first_trees (left - 1) (later_trees (children_at s i) (after i))))
    stood A H e = subst (Walk A (read_tree s) stop i) first-there (W.stands A H e)

    pub walking-next : (b : Below) → b ≡ walked stop left i (get_or bs i 0) (children_at s i) →
        Walking s bs b.stop b.left (i + 1)
    walking-next b e = rw e (go (eqb (get_or bs i 0) 0) refl)
      where
        c : ℕ
        c = children_at s i

        there : c ≤ count (after i)
        there = children-there ok i next-node

        go : (z : Bool) → eqb (get_or bs i 0) 0 ≡ z →
            Walking s bs (cond z (walk i c) (walk stop (left - 1 + c))).stop
            (cond z (walk i c) (walk stop (left - 1 + c))).left (i + 1)
        go true z = record {
          within = omega (arith, next-node);
          behind = omega arith;
          enough = there;
          few = omega (arith, ok.narrow i next-node);
          stands = λ A H e.
              walk-stopped A (read_tree s) stop i (label_at s i) _ _
              (sym (state-there A H) ∙ eqb-true (get_or bs i 0) 0 z) (stood A H e);
        }
        go false z = record {
          within = omega (arith, next-node);
          behind = omega (arith, W.behind);
          enough = omega (arith, there, W.enough, ap count (read_next ok i next-node), later-count c (after i));
          few = omega (arith, W.few, ok.narrow i next-node);
          stands = λ A H e.
              subst (Walk A (read_tree s) stop (i + 1)) (first-both c (left - 1) (after i))
              (walk-on A (read_tree s) stop i (label_at s i) _ _
              (omega (arith, state-there A H, eqb-false (get_or bs i 0) 0 z)) (stood A H e));
        }

-- nothing is left
pub walking-end : {s bs : List ℕ} {stop left i : ℕ} → left ≤ 0 → Walking s bs stop left i → (A : Automaton) →
    HoldsStates A (read_tree s) bs → run A (read_tree s) ≡ 0 → stop + 1 ≡ stop_place A (read_tree s)
walking-end {s} {bs} {stop} {left} {i} h W A H e =
    let z : left ≡ 0 = omega arith in
    let W' = W.stands A H e in
    sym (walk_end A (read_tree s) stop i
    (subst (λ (n : ℕ). Walk A (read_tree s) stop i (first_trees n (read_trees (nodes_from s i)))) z W'))

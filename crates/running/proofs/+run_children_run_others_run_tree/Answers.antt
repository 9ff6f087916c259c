use mathlib.Core.Bool.{false}
use mathlib.Core.List.{List, []}
use mathlib.Core.Path.{◌≡◌, refl}
use Prim.Native.Nat.{◌+◌, ◌-◌, ◌<◌, ◌≤◌, ℕ, suc}
use native.Mathlib.Omega.{arith}
use lib.ListN.{get_or, length, take}
use Rattle.automata.specs.Automaton.{run}
use Rattle.format.specs.Format.{label_bytes, max_arity, max_nodes, node_bytes}
use Rattle.running.specs.Running.{Ahead, over}
use Rattle.trees.specs.Listing.{read_tree}
use Rattle.trees.specs.Preorder.{preorder}
use Rattle.lists.proofs.Parts.{part_length}
use Rattle.running.proofs.Ahead.{FirstRun, ahead-nodes, children-ahead, first-ahead, first-room, first-shorter}
use Rattle.running.proofs.Ahead.{first-within, one_more, others-ahead, others-room, root-arity, root-row, root-size}
use Rattle.running.proofs.Answers.{ran-byte, ran-some}
use Rattle.running.proofs.ChildRows.{joins-next, kept-before, kept_put, kept_then, put-row}
use Rattle.running.proofs.Nodes.{bytes-kept, bytes-none, child-next, child-none, root-nodes, root-run, tree-states}
use Rattle.running.proofs.Nodes.{trees-nodes, trees-states}
use Rattle.running.proofs.+run_children_run_others_run_tree.Goals as goal

-- ---- the children of a node, one after another, and then the node

-- the first of them is run
children-first : (arity k : ℕ) {s : List ℕ} {node m : ℕ} → Ahead s (arity - k) node → k ≤ arity → (k ≡ arity → ⊥) →
    m ≡ length (preorder (read_tree s)) → FirstRun s (arity - k) (arity - (k + 1)) node m
children-first arity k v place more nodes = record { ahead = v; more = one_more place more; nodes = nodes }

pub run_children-returns-then-k-parent-clause-states_after : goal.run_children-returns-then-k-parent-clause-states_after
run_children-returns-then-k-parent-clause-states_after t c =
    let a = c.args in
    bytes-none a.transitions.now a.count a.s.now (a.parent.arity - a.k) a.node a.states.now (omega arith)

pub run_children-run_tree-child-requires : goal.run_children-run_tree-child-requires
run_children-run_tree-child-requires t c =
    let p = c.requires in
    let e = one_more p.joins.place c.if-k-parent.false in
    (omega (arith, c.decreases), (p.steps, (first-ahead p.ahead e, (p.rows, p.states_len))))

pub run_children-overflow_mul-rest : goal.run_children-overflow_mul-rest
run_children-overflow_mul-rest t c =
    let p = c.requires in
    omega (
      arith,
      first-room (children-first c.args.parent.arity c.args.k p.ahead p.joins.place c.if-k-parent.false
          c.run_tree-child.ensures.nodes_value),
    )

pub run_children-slice_bounds-rest-count : goal.run_children-slice_bounds-rest-count
run_children-slice_bounds-rest-count t c =
    let p = c.requires in
    first-within (children-first c.args.parent.arity c.args.k p.ahead p.joins.place c.if-k-parent.false
    c.run_tree-child.ensures.nodes_value)

pub run_children-slice_bounds-rest-start : goal.run_children-slice_bounds-rest-start
run_children-slice_bounds-rest-start t c =
    let p = c.requires in
    first-within (children-first c.args.parent.arity c.args.k p.ahead p.joins.place c.if-k-parent.false
    c.run_tree-child.ensures.nodes_value)

pub run_children-overflow_add-next : goal.run_children-overflow_add-next
run_children-overflow_add-next t c =
    let p = c.requires in
    omega (
      arith,
      first-room (children-first c.args.parent.arity c.args.k p.ahead p.joins.place c.if-k-parent.false
          c.run_tree-child.ensures.nodes_value),
    )

pub run_children-run_others-others-requires : goal.run_children-run_others-others-requires
run_children-run_others-others-requires t c =
    let a = c.args in
    let p = c.requires in
    let first = c.run_tree-child.ensures in
    let w = children-first a.parent.arity a.k p.ahead p.joins.place c.if-k-parent.false first.nodes_value in
    let bytes = bytes-kept a.transitions.now a.count w a.states.now first.states_after p.states_len in
    (omega (arith, c.decreases, first-shorter w), (p.steps, (others-ahead w, (first.rows_kept.rows, bytes))))

pub run_children-overflow_add-result : goal.run_children-overflow_add-result
run_children-overflow_add-result t c =
    let p = c.requires in
    let w = children-first c.args.parent.arity c.args.k p.ahead p.joins.place c.if-k-parent.false
    c.run_tree-child.ensures.nodes_value in
    omega (arith, others-room w c.run_others-others.ensures.value)

pub run_children-returns-in_default : goal.run_children-returns-in_default
run_children-returns-in_default t c =
    let a = c.args in
    let p = c.requires in
    let τs = a.transitions.now in
    let first = c.run_tree-child.ensures in
    let w = children-first a.parent.arity a.k p.ahead p.joins.place c.if-k-parent.false first.nodes_value in
    let others = c.run_others-others.ensures in
    let before = p.joins.before in
    let i = a.parent.node in
    let row = take a.k (get_or a.rows.now i []) in
    let m = c.run_tree-child.result.nodes in
    let first-kept = kept-before i a.node (omega (arith, before)) first.rows_kept in
    let others-kept = kept-before i (a.node + m) (omega (arith, before)) others.rows_kept in
    record {
      nodes_value = trees-nodes w others.value;
      ran_value = child-none τs a.count w first.ran_value a.parent.label row c.in_default.is;
      rows_kept = kept_then first-kept others-kept;
      states_after = trees-states τs a.count w a.states.now first.states_after others.states_after;
    }

pub run_children-run_children-others-requires : goal.run_children-run_children-others-requires
run_children-run_children-others-requires t c =
    let a = c.args in
    let p = c.requires in
    let joins = p.joins in
    let first = c.run_tree-child.ensures in
    let more = c.if-k-parent.false in
    let w = children-first a.parent.arity a.k p.ahead joins.place more first.nodes_value in
    let bytes = bytes-kept a.transitions.now a.count w a.states.now first.states_after p.states_len in
    let q = c.in-State.q in
    let i = a.parent.node in
    let here : i < max_nodes = omega (arith, joins.before, root-row (first-ahead w.ahead w.more)) in
    let place : a.k < max_arity = omega (arith, joins.place, joins.narrow, more) in
    let rows = (kept_put joins.before first.rows_kept here a.k q).rows in
    let row = put-row joins.before first.rows_kept here a.k q place in
    let some = ran-some (run (over a.transitions.now a.count) (read_tree a.s.now)) first.ran_value c.in-State.is in
    let after : a.node ≤ a.node + c.run_tree-child.result.nodes = omega arith in
    let next = joins-next joins more after row some in
    (omega (arith, c.decreases, first-shorter w), (p.steps, (others-ahead w, (rows, (bytes, next)))))

pub run_children-overflow_add-result-2 : goal.run_children-overflow_add-result-2
run_children-overflow_add-result-2 t c =
    let p = c.requires in
    let w = children-first c.args.parent.arity c.args.k p.ahead p.joins.place c.if-k-parent.false
    c.run_tree-child.ensures.nodes_value in
    omega (arith, others-room w c.run_children-others.ensures.nodes_value)

pub run_children-returns : goal.run_children-returns
run_children-returns t c =
    let a = c.args in
    let p = c.requires in
    let τs = a.transitions.now in
    let first = c.run_tree-child.ensures in
    let more = c.if-k-parent.false in
    let joins = p.joins in
    let w = children-first a.parent.arity a.k p.ahead joins.place more first.nodes_value in
    let others = c.run_children-others.ensures in
    let q = c.in-State.q in
    let i = a.parent.node in
    let here : i < max_nodes = omega (arith, joins.before, root-row (first-ahead w.ahead w.more)) in
    let place : a.k < max_arity = omega (arith, joins.place, joins.narrow, more) in
    let row = put-row joins.before first.rows_kept here a.k q place in
    let qs = take a.k (get_or a.rows.now i []) in
    record {
      nodes_value = trees-nodes w others.nodes_value;
      ran_value = child-next τs a.count w first.ran_value a.parent.label qs c.in-State.is _ row others.ran_value;
      rows_kept = kept_then (kept_put joins.before first.rows_kept here a.k q) others.rows_kept;
      states_after = trees-states τs a.count w a.states.now first.states_after others.states_after;
    }

-- ---- the children after one without a state, for the bytes of their nodes

-- the first of them is run
others-first : (left : ℕ) {s : List ℕ} {node m : ℕ} → Ahead s left node → (left ≡ 0 → ⊥) →
    m ≡ length (preorder (read_tree s)) → FirstRun s left (left - 1) node m
others-first left v more nodes = record { ahead = v; more = omega arith; nodes = nodes }

pub run_others-returns-then-left-eq0-clause-states_after : goal.run_others-returns-then-left-eq0-clause-states_after
run_others-returns-then-left-eq0-clause-states_after t c =
    let a = c.args in
    bytes-none a.transitions.now a.count a.s.now a.left a.node a.states.now (omega arith)

pub run_others-run_tree-first-requires : goal.run_others-run_tree-first-requires
run_others-run_tree-first-requires t c =
    let p = c.requires in
    let left = c.if-left-eq0.false in
    let e : c.args.left ≡ suc (c.args.left - 1) = omega arith in
    (omega (arith, c.decreases), (p.steps, (first-ahead p.ahead e, (p.rows, p.states_len))))

pub run_others-overflow_mul-rest : goal.run_others-overflow_mul-rest
run_others-overflow_mul-rest t c =
    omega (
      arith,
      first-room (others-first c.args.left c.requires.ahead c.if-left-eq0.false c.run_tree-first.ensures.nodes_value),
    )

pub run_others-slice_bounds-rest-count : goal.run_others-slice_bounds-rest-count
run_others-slice_bounds-rest-count t c =
    first-within (others-first c.args.left c.requires.ahead c.if-left-eq0.false c.run_tree-first.ensures.nodes_value)

pub run_others-slice_bounds-rest-start : goal.run_others-slice_bounds-rest-start
run_others-slice_bounds-rest-start t c =
    first-within (others-first c.args.left c.requires.ahead c.if-left-eq0.false c.run_tree-first.ensures.nodes_value)

pub run_others-overflow_add-next : goal.run_others-overflow_add-next
run_others-overflow_add-next t c =
    omega (
      arith,
      first-room (others-first c.args.left c.requires.ahead c.if-left-eq0.false c.run_tree-first.ensures.nodes_value),
    )

pub run_others-run_others-others-requires : goal.run_others-run_others-others-requires
run_others-run_others-others-requires t c =
    let a = c.args in
    let p = c.requires in
    let first = c.run_tree-first.ensures in
    let w = others-first a.left p.ahead c.if-left-eq0.false first.nodes_value in
    let bytes = bytes-kept a.transitions.now a.count w a.states.now first.states_after p.states_len in
    (omega (arith, c.decreases, first-shorter w), (p.steps, (others-ahead w, (first.rows_kept.rows, bytes))))

pub run_others-overflow_add-result : goal.run_others-overflow_add-result
run_others-overflow_add-result t c =
    let w = others-first c.args.left c.requires.ahead c.if-left-eq0.false c.run_tree-first.ensures.nodes_value in
    omega (arith, others-room w c.run_others-others.ensures.value)

pub run_others-returns : goal.run_others-returns
run_others-returns t c =
    let a = c.args in
    let first = c.run_tree-first.ensures in
    let w = others-first a.left c.requires.ahead c.if-left-eq0.false first.nodes_value in
    let others = c.run_others-others.ensures in
    let m = c.run_tree-first.result.nodes in
    record {
      value = trees-nodes w others.value;
      rows_kept = kept_then first.rows_kept (kept-before a.node (a.node + m) (omega arith) others.rows_kept);
      states_after = trees-states a.transitions.now a.count w a.states.now first.states_after others.states_after;
    }

-- ---- a tree: its children, then its root

pub run_tree-label_at-requires : goal.run_tree-label_at-requires
run_tree-label_at-requires t c = root-size c.requires.ahead

pub run_tree-children_at-requires : goal.run_tree-children_at-requires
run_tree-children_at-requires t c = root-size c.requires.ahead

pub run_tree-slice_bounds-rest-count : goal.run_tree-slice_bounds-rest-count
run_tree-slice_bounds-rest-count t c = root-size c.requires.ahead

pub run_tree-slice_bounds-rest-start : goal.run_tree-slice_bounds-rest-start
run_tree-slice_bounds-rest-start t c = root-size c.requires.ahead

pub run_tree-run_children-below-requires : goal.run_tree-run_children-below-requires
run_tree-run_children-below-requires t c =
    let a = c.args in
    let p = c.requires in
    let v = p.ahead in
    let k = c.from.result in
    let e : k - 0 ≡ get_or a.s.now label_bytes 0 = omega (arith, c.from.ensures, c.children_at.ensures) in
    let less = part_length a.s.now node_bytes in
    let narrow : k ≤ max_arity = omega (arith, root-arity v, e) in
    let none = refl {a = false} in (
      omega (arith, c.decreases, root-size v),
      (
        p.steps,
        (
          children-ahead v (k - 0) e,
          (
            p.rows,
            (p.states_len, record { before = omega arith; place = omega arith; narrow = narrow; states = none }),
          ),
        ),
      ),
    )

pub run_tree-bounds-states-node : goal.run_tree-bounds-states-node
run_tree-bounds-states-node t c = root-row c.requires.ahead

pub run_tree-overflow_add-result : goal.run_tree-overflow_add-result
run_tree-overflow_add-result t c =
    let s = c.args.s.now in
    let v = c.requires.ahead in
    let k = c.from.result - 0 in
    let e : k ≡ get_or s label_bytes 0 = omega (arith, c.from.ensures, c.children_at.ensures) in
    let nodes = ahead-nodes (children-ahead v k e) in
    omega (arith, c.run_children-below.ensures.nodes_value, part_length s node_bytes, v.room)

pub run_tree-returns : goal.run_tree-returns
run_tree-returns t c =
    let a = c.args in
    let v = c.requires.ahead in
    let τs = a.transitions.now in
    let k = c.from.result - 0 in
    let e : k ≡ get_or a.s.now label_bytes 0 = omega (arith, c.from.ensures, c.children_at.ensures) in
    let below = c.run_children-below.ensures in
    let ran = root-run v k e τs a.count below.ran_value c.label_at.ensures.value in
    let state = ran-byte (run (over τs a.count) (read_tree a.s.now)) ran c.state_byte.ensures in
    record {
      nodes_value = root-nodes v k e below.nodes_value;
      ran_value = ran;
      rows_kept = below.rows_kept;
      states_after = tree-states v k e τs a.count _ state a.states.now below.states_after;
    }

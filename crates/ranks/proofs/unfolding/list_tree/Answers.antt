use native.Mathlib.Omega.{arith}
use mathlib.Core.Path.{refl}
use Rattle.fields.proofs.Transitions.{readable}
use Rattle.ranks.proofs.Listings.{bytes-size, next-trees, walk_end, walk-next, walk_start, walk-stops}
use Rattle.ranks.proofs.unfolding.list_tree.Goals as goal

pub loop-top-init : goal.loop-top-init
loop-top-init c =
    walk_start c.requires.le_q c.requires.q_le_n c.requires.number_bound refl refl refl refl c.requires.bytes_value

pub choose_transition-choice-requires : goal.choose_transition-choice-requires
choose_transition-choice-requires c = record {
  holds_transitions = c.requires.holds_transitions_over.runs;
  number_bound = rw c.from.ensures (next-trees c.loop-top.invariant c.loop-top-test.true c.requires.lawful);
}

pub arity_of-arity-requires : goal.arity_of-arity-requires
arity_of-arity-requires c =
    let chose = c.choose_transition-choice in
    (readable c.requires.holds_transitions_over.runs chose.result.place chose.ensures.within).inside

pub overflow_add-nodes : goal.overflow_add-nodes
overflow_add-nodes c =
    let chose = c.choose_transition-choice in
    omega (
      arith,
      c.loop-top.invariant.few,
      c.loop-top.invariant.within,
      c.arity_of-arity.ensures,
      c.requires.holds_transitions_over.runs.narrow chose.result.place chose.ensures.within,
    )

pub returns-then-nodes-arity : goal.returns-then-nodes-arity
returns-then-nodes-arity c =
    let chosen = rw c.from.ensures at c.choose_transition-choice.ensures in
    record {
      bytes_len = bytes-size c.loop-top.invariant;
      by_index = λ T G. walk-stops c.loop-top.invariant c.loop-top-test.true chosen
          (omega (arith, c.arity_of-arity.ensures, c.if-nodes-arity.true)) T G;
    }

pub put_node-requires : goal.put_node-requires
put_node-requires c =
    let more = c.loop-top-test.true in
    let chose = c.choose_transition-choice in
    record {
      bytes_len = bytes-size c.loop-top.invariant;
      node_lt_max_nodes = omega (arith, c.loop-top.invariant.few);
      label_le_max_label = c.label_of.ensures.upper_bound;
      arity_le_max_arity = omega (
        arith,
        c.arity_of-arity.ensures,
        c.requires.holds_transitions_over.runs.narrow chose.result.place chose.ensures.within,
      );
    }

pub put_children-requires : goal.put_children-requires
put_children-requires c =
    let more = c.loop-top-test.true in
    let chose = c.choose_transition-choice in
    let room = c.if-nodes-arity.false in
    record {
      readable = readable c.requires.holds_transitions_over.runs chose.result.place chose.ensures.within;
      number_bound = chose.ensures.below;
      states_len = c.loop-top.invariant.states-size;
      lefts_len = c.loop-top.invariant.numbers-size;
      at_bound = omega (arith, c.arity_of-arity.ensures, room, more);
    }

pub loop-top-preserved : goal.loop-top-preserved
loop-top-preserved c =
    let chosen = rw c.from.ensures at
    c.choose_transition-choice.ensures in
    let room = c.if-nodes-arity.false in
    walk-next c.loop-top.invariant c.loop-top-test.true chosen c.requires.holds_transitions_over (omega (arith, c.arity_of-arity.ensures, room))
    (omega (arith, c.arity_of-arity.ensures)) c.put_children.ensures
    (rw (c.label_of.ensures.value, c.arity_of-arity.ensures) at
    c.put_node.ensures)

pub returns : goal.returns
returns c = record {
  bytes_len = bytes-size c.loop-top.invariant;
  by_index = λ T G. walk_end c.loop-top.invariant (omega arith) T G;
}

use Rattle.std.proofs.Common.{◌≡◌, ◌+◌, ◌-◌, [], ◌∙◌, arith}
use Rattle.validity.proofs.Fixpoints.{acyclic-end, returnless-ground}
use Rattle.marking.proofs.Spreading.{growing-less, growing-more, growing-none}
use Rattle.validity.proofs.grounding.all_grounded.Goals as goal

pub loop-init : goal.loop-init
loop-init c = λ cl. growing-none

pub ground_all-requires : goal.ground_all-requires
ground_all-requires c = record {
  holds_transitions = c.requires.holds_transitions_over.runs;
  n_lt_byte_values = omega (arith, c.requires.n_bound);
  marks_len = (c.loop.invariant []).size;
}

pub loop-smaller : goal.loop-smaller
loop-smaller c = growing-less c.ground_all.ensures c.loop-test.true

pub loop-preserved : goal.loop-preserved
loop-preserved c =
    λ cl. growing-more
    (returnless-ground cl c.args.transitions.now c.args.n c.args.count c.requires.holds_transitions_over)
    (c.loop.invariant cl) c.ground_all.ensures

pub returns : goal.returns
returns c =
    let e : c.args.n + 1 - 1 ≡ c.args.n = omega arith in
    λ cl. rw e at c.all_marked.ensures ∙ acyclic-end cl c.args.transitions.now c.args.n
    c.args.count c.requires.holds_transitions_over (c.loop.invariant cl)
    c.ground_all.ensures c.loop-test.false

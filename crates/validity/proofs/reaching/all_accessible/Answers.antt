use Rattle.std.proofs.Common.{◌≡◌, ◌+◌, ◌-◌, [], ◌∙◌, arith}
use Rattle.validity.proofs.Fixpoints.{accessible-up, all-accessible-end}
use Rattle.marking.proofs.Spreading.{growing-less, growing-more, growing-none}
use Rattle.validity.proofs.reaching.all_accessible.Goals as goal

pub loop-init : goal.loop-init
loop-init c = λ cl. growing-none

pub mark_outputs-requires : goal.mark_outputs-requires
mark_outputs-requires c = record {
  holds_transitions = c.requires.holds_transitions_over.runs;
  marks_len = (c.loop.invariant []).size;
}

pub loop-smaller : goal.loop-smaller
loop-smaller c = growing-less c.mark_outputs.ensures c.loop-test.true

pub loop-preserved : goal.loop-preserved
loop-preserved c =
    λ cl. growing-more
    (accessible-up cl c.args.transitions.now c.args.n c.args.count c.requires.holds_transitions_over)
    (c.loop.invariant cl) c.mark_outputs.ensures

pub returns : goal.returns
returns c =
    let e : c.args.n + 1 - 1 ≡ c.args.n = omega arith in
    λ cl. rw e at c.all_marked.ensures ∙ all-accessible-end cl c.args.transitions.now c.args.n
    c.args.count c.requires.holds_transitions_over (c.loop.invariant cl)
    c.mark_outputs.ensures c.loop-test.false

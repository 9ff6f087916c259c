use Rattle.std.proofs.Common.{arith}
use Rattle.validity.proofs.Fixpoints.{using-end, using-more, using-start}
use Rattle.marking.proofs.Spreading.{growing-less}
use Rattle.validity.proofs.usefulness.useful.Goals as goal

pub accepting_marks-marks-requires : goal.accepting_marks-marks-requires
accepting_marks-marks-requires c = record { n_in_bounds = c.requires.classes; n_lt_byte_values = omega (arith, c.requires.states) }

pub loop-init : goal.loop-init
loop-init c =
    using-start c.args.classes.now c.args.transitions.now c.args.n c.args.count
    c.requires.over c.accepting_marks-marks.ensures

pub use_all-requires : goal.use_all-requires
use_all-requires c = record { holds_transitions = c.requires.over.runs; marks_len = c.loop.invariant.growing.size }

pub loop-smaller : goal.loop-smaller
loop-smaller c = growing-less c.use_all.ensures c.loop-test.true

pub loop-preserved : goal.loop-preserved
loop-preserved c =
    using-more c.args.classes.now c.args.transitions.now c.args.n c.args.count
    c.requires.over c.loop.invariant c.use_all.ensures

pub returns : goal.returns
returns c =
    using-end c.args.classes.now c.args.transitions.now c.args.n c.args.count
    c.requires.over c.loop.invariant c.use_all.ensures c.loop-test.false

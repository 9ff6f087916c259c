-- `packed::layout::transition_fits` meets its contract: at each early return one test of the definition fails.
use native.Mathlib.Omega.{arith}
use Rattle.packed.proofs.LayoutChecks.{broken-arg, broken-rest, many-args, no_label, out-decides}
use Rattle.packed.proofs.layout.transition_fits.Goals as goal

pub returns-then-label_of-lt1 : goal.returns-then-label_of-lt1
returns-then-label_of-lt1 c =
    no_label c.args.transitions.now c.args.states c.args.at (omega arith)

pub returns-then-arity-gt-MAX_ARITY : goal.returns-then-arity-gt-MAX_ARITY
returns-then-arity-gt-MAX_ARITY c =
    many-args c.args.transitions.now c.args.states c.args.at (omega arith) (omega arith)

pub returns-then-not-args_in_range : goal.returns-then-not-args_in_range
returns-then-not-args_in_range c =
    broken-arg c.args.transitions.now c.args.states c.args.at (omega arith) (omega arith) c.arity_of-arity.ensures
    c.args_in_range.ensures c.if-not-args_in_range.true

pub returns-then-not-rest_empty : goal.returns-then-not-rest_empty
returns-then-not-rest_empty c =
    broken-rest c.args.transitions.now c.args.states c.args.at (omega arith) (omega arith) c.arity_of-arity.ensures
    c.args_in_range.ensures c.if-not-args_in_range.false c.rest_empty.ensures
    c.if-not-rest_empty.true

pub returns : goal.returns
returns c =
    out-decides c.args.transitions.now c.args.states c.args.at (omega arith) (omega arith) c.arity_of-arity.ensures
    c.args_in_range.ensures c.if-not-args_in_range.false c.rest_empty.ensures
    c.if-not-rest_empty.false c.out_of-out.ensures.value c.in_range.ensures

use native.Mathlib.Omega.{arith}
use mathlib.Core.Path.{◌∙◌, ap}
use Rattle.pairs.specs.Counts.{entry}
use Rattle.quotient.proofs.OneChoice.{firsts-end, firsts-next, firsts-start}
use Rattle.quotient.proofs.Padding.{digit-fits}
use Rattle.quotient.proofs.choosing.choices_of.Goals as goal

pub loop-k-init : goal.loop-k-init
loop-k-init c =
    firsts-start c.args.names.now c.args.transitions.now c.args.at

pub overflow_mul-prefix : goal.overflow_mul-prefix
overflow_mul-prefix c =
    let arity-of-call = c.arity_of-arity in
    let loop = c.loop-k in
    let first = c.index-x in
    omega (
      arith,
      digit-fits loop.k loop.prefix first.result (omega (arith, arity-of-call.ensures, c.requires.narrow))
          loop.invariant.below first.ensures.upper_bound,
    )

pub overflow_add-prefix : goal.overflow_add-prefix
overflow_add-prefix c =
    let arity-of-call = c.arity_of-arity in
    let loop = c.loop-k in
    let first = c.index-x in
    omega (
      arith,
      digit-fits loop.k loop.prefix first.result (omega (arith, arity-of-call.ensures, c.requires.narrow))
          loop.invariant.below first.ensures.upper_bound,
    )

pub loop-k-preserved : goal.loop-k-preserved
loop-k-preserved c =
    let arity-of-call = c.arity_of-arity in
    let loop = c.loop-k in
    let first = c.index-x in
    firsts-next c.args.names.now c.args.transitions.now c.args.at first.result
    loop.invariant (omega (arith, arity-of-call.ensures))
    (first.ensures.value ∙ ap (entry c.args.names.now.kept.now.firsts) c.arg_of.ensures.value)
    first.ensures.upper_bound

pub returns-then-only : goal.returns-then-only
returns-then-only c =
    let loop = c.loop-k in
    let both = firsts-end c.args.names.now c.args.transitions.now c.args.at loop.invariant
    (omega (arith, c.arity_of-arity.ensures, loop.invariant.within)) in
    (both.0, both.1.1 c.if-none.false c.if-only.true)

use Rattle.minimize.proofs.Ordering.{ordering-end, ordering_few, ordering-next, ordering-start}
use native.Mathlib.Omega.{arith}
use mathlib.Core.Path.{◌∙◌, ap, refl, sym}
use Rattle.minimize.specs.Numbering.{picked}
use Rattle.minimize.proofs.number.number.Goals as goal

pub loop-first-init : goal.loop-first-init
loop-first-init c =
    ordering-start c.args.transitions.now c.args.count c.requires.order_len c.requires.numbers_len
    c.requires.unnumbered

pub overflow_cast-numbers : goal.overflow_cast-numbers
overflow_cast-numbers c =
    omega (
      arith,
      ordering_few c.loop-first.invariant (c.in-Some.ensures.upper_bound _ refl) c.in-Some.ensures.by_index
          c.out_of-q.ensures.value c.requires.outputs (omega (arith, c.out_of-q.ensures.upper_bound)),
    )

pub loop-first-preserved : goal.loop-first-preserved
loop-first-preserved c =
    ordering-next c.loop-first.invariant (c.in-Some.ensures.upper_bound _ refl) c.in-Some.ensures.by_index
    c.out_of-q.ensures.value c.requires.outputs (omega (arith, c.out_of-q.ensures.upper_bound)) refl

pub returns : goal.returns
returns c =
    ordering-end c.loop-first.invariant (λ o of. ap (picked c.args.transitions.now) (sym c.in_default.is) ∙
    c.first_ready.ensures.by_index o of)

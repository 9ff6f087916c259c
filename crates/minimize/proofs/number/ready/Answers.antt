-- `minimize::number::ready` meets its contract: the output first, then the arguments.
use Rattle.minimize.proofs.Ready.{numbered-unready, unnumbered-ready}
use Rattle.marking.proofs.Sweeps.{nonzero-false, nonzero-true}
use Rattle.table.specs.Layout.{transition_at}
use Rattle.marking.specs.Marks.{marked}
use mathlib.Core.Path.{◌∙◌, ap, sym}
use Rattle.minimize.proofs.number.ready.Goals as goal

pub returns-then-numbers-out-ne0 : goal.returns-then-numbers-out-ne0
returns-then-numbers-out-ne0 c =
    numbered-unready c.args.numbers.now (transition_at c.args.transitions.now c.args.at) (ap
    (marked c.args.numbers.now) (sym c.out_of-out.ensures.value) ∙ nonzero-true _ c.if-numbers-out-ne0.true)

pub returns : goal.returns
returns c =
    c.args_marked.ensures ∙ unnumbered-ready c.args.numbers.now (transition_at c.args.transitions.now
    c.args.at) (ap (marked c.args.numbers.now) (sym c.out_of-out.ensures.value)
    ∙
    nonzero-false _ c.if-numbers-out-ne0.false)

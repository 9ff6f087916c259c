use mathlib.Core.Path.{◌∙◌, ap, sym}
use native.Mathlib.Omega.{arith}
use Rattle.automata.specs.Valid.{in_range}
use Rattle.lists.proofs.Loops.{every-broken, every-end, every-next, every-start}
use Rattle.packed.proofs.layout.args_in_range.Goals as goal

pub loop-k-init : goal.loop-k-init
loop-k-init c = every-start c.args.arity (omega arith)

pub returns-then-not-in_range : goal.returns-then-not-in_range
returns-then-not-in_range c =
    every-broken c.loop-k.invariant (omega arith)
    (sym (c.in_range.ensures ∙ ap (in_range c.args.states) c.arg_of-q.ensures.value) ∙ c.if-not-in_range.true)

pub loop-k-preserved : goal.loop-k-preserved
loop-k-preserved c =
    every-next c.loop-k.invariant (omega arith)
    (sym (c.in_range.ensures ∙ ap (in_range c.args.states) c.arg_of-q.ensures.value) ∙ c.if-not-in_range.false)

pub returns : goal.returns
returns c = every-end c.loop-k.invariant (omega arith)

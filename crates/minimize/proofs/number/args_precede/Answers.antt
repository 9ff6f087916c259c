use Rattle.minimize.proofs.Arguments.{names-start}
use Rattle.fields.proofs.Searching.{lex-decided, lex-end, lex-next}
use Rattle.minimize.specs.Renaming.{name_in}
use lib.Dec.{ltb}
use native.Mathlib.Omega.{arith}
use mathlib.Core.Path.{◌∙◌, ap, ap₂, sym}
use Rattle.minimize.proofs.number.args_precede.Goals as goal

pub loop-k-init : goal.loop-k-init
loop-k-init c =
    names-start c.args.numbers.now c.args.transitions.now c.args.a c.args.b c.args.n

pub bounds-numbers-p : goal.bounds-numbers-p
bounds-numbers-p c =
    omega arith

pub bounds-numbers-q : goal.bounds-numbers-q
bounds-numbers-q c =
    omega arith

pub returns-then-x-y : goal.returns-then-x-y
returns-then-x-y c =
    let numbers = c.args.numbers.now in
    let x = ap (name_in numbers) c.arg_of-p.ensures.value in
    let y = ap (name_in numbers) c.arg_of-q.ensures.value in
    ap₂ ltb x y ∙ lex-decided c.loop-k.invariant (omega arith) (λ e. c.if-x-y.true (x ∙ e ∙ sym y))

pub loop-k-preserved : goal.loop-k-preserved
loop-k-preserved c =
    let numbers = c.args.numbers.now in
    lex-next c.loop-k.invariant (omega arith) (sym (ap (name_in numbers) c.arg_of-p.ensures.value) ∙ c.if-x-y.false ∙
    ap (name_in numbers) c.arg_of-q.ensures.value)

pub returns : goal.returns
returns c = lex-end c.loop-k.invariant (omega arith)

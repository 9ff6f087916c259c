use native.Mathlib.Omega.{arith}
use mathlib.Core.Path.{◌∙◌, sym}
use Prim.Native.Nat.{◌≤◌}
use lib.ListN.{drop, length, length-drop}
use lib.Seq.{get_or-drop}
use Rattle.fields.proofs.Searching.{agree-next, agree-start, alike, unlike-arg, unlike-arity, unlike-label}
use Rattle.ranks.proofs.ranking.is_own.Goals as goal

pub returns-then-label_of-label : goal.returns-then-label_of-label
returns-then-label_of-label c =
    let enough : c.args.arity ≤ length (drop c.args.top c.args.stack.now) =
    omega (arith, length-drop c.args.top c.args.stack.now, c.requires.stack_len, c.requires.arity_bound) in
    sym (unlike-label c.args.transitions.now c.args.at c.args.label c.args.arity (drop c.args.top c.args.stack.now) enough
    (λ e. c.if-label_of-label.true (c.label_of.ensures.value ∙ e)))

pub returns-then-arity_of-arity : goal.returns-then-arity_of-arity
returns-then-arity_of-arity c =
    let enough : c.args.arity ≤ length (drop c.args.top c.args.stack.now) =
    omega (arith, length-drop c.args.top c.args.stack.now, c.requires.stack_len, c.requires.arity_bound) in
    sym (unlike-arity c.args.transitions.now c.args.at c.args.label c.args.arity (drop c.args.top c.args.stack.now) enough
    (λ e. c.if-arity_of-arity.true (c.arity_of.ensures ∙ e)))

pub loop-k-init : goal.loop-k-init
loop-k-init c =
    agree-start c.args.transitions.now c.args.at c.args.arity (drop c.args.top c.args.stack.now)

pub returns-then-arg_of-from : goal.returns-then-arg_of-from
returns-then-arg_of-from c =
    let enough : c.args.arity ≤ length (drop c.args.top c.args.stack.now) =
    omega (arith, length-drop c.args.top c.args.stack.now, c.requires.stack_len, c.requires.arity_bound) in
    sym (unlike-arg c.args.transitions.now c.args.at c.args.label c.args.arity (drop c.args.top c.args.stack.now) enough
    c.loop-k.k (sym c.arity_of.ensures ∙ c.if-arity_of-arity.false)
    c.loop-k-test.true
    (λ e. c.if-arg_of-from.true (c.arg_of.ensures.value ∙ e
    ∙ get_or-drop c.args.top c.args.stack.now c.loop-k.k 0 ∙ sym c.from.ensures)))

pub loop-k-smaller : goal.loop-k-smaller
loop-k-smaller c = omega (arith, c.loop-k-test.true)

pub loop-k-preserved : goal.loop-k-preserved
loop-k-preserved c =
    agree-next c.loop-k.invariant c.loop-k-test.true
    (sym c.arg_of.ensures.value ∙ c.if-arg_of-from.false ∙ c.from.ensures
    ∙ sym (get_or-drop c.args.top c.args.stack.now c.loop-k.k 0))

pub returns : goal.returns
returns c =
    let enough : c.args.arity ≤ length (drop c.args.top c.args.stack.now) =
    omega (arith, length-drop c.args.top c.args.stack.now, c.requires.stack_len, c.requires.arity_bound) in
    sym (alike c.args.transitions.now c.args.at c.args.label c.args.arity (drop c.args.top c.args.stack.now) enough
    (sym c.label_of.ensures.value ∙ c.if-label_of-label.false)
    (sym c.arity_of.ensures ∙ c.if-arity_of-arity.false)
    (λ k l. c.loop-k.invariant.same k (omega (arith, c.loop-k.invariant.within, c.loop-k-test.false))))

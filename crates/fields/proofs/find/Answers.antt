use Rattle.format.specs.Format.{transition_bytes}
use Rattle.fields.proofs.Searching.{agree-next, agree-start, alike, search-end}
use Rattle.fields.proofs.Searching.{search-hit, search-passed, search-start, unlike-arg, unlike-arity}
use Rattle.fields.proofs.Searching.{unlike-label}
use lib.ListN.{length, take}
use native.Mathlib.Omega.{arith}
use Prim.Native.Nat.{◌*◌, ◌≤◌}
use mathlib.Core.Path.{◌∙◌, sym}
use Rattle.fields.proofs.find.Goals as goal

pub search-init : goal.search-init
search-init c =
    search-start c.args.label (take c.args.arity c.args.args) c.args.transitions.now
    c.args.count

pub search-preserved-then-label_of-label : goal.search-preserved-then-label_of-label
search-preserved-then-label_of-label c =
    let enough : c.args.arity ≤ length c.args.args = omega arith in
    search-passed c.search.invariant (omega arith)
    (unlike-label c.args.transitions.now (transition_bytes * c.search.i) c.args.label
    c.args.arity c.args.args enough (λ e. c.if-label_of-label.true (c.label_of.ensures.value ∙ e)))

pub search-preserved-then-arity_of-arity : goal.search-preserved-then-arity_of-arity
search-preserved-then-arity_of-arity c =
    let enough : c.args.arity ≤ length c.args.args = omega arith in
    search-passed c.search.invariant (omega arith)
    (unlike-arity c.args.transitions.now (transition_bytes * c.search.i) c.args.label c.args.arity c.args.args enough
    (λ e. c.if-arity_of-arity.true (c.arity_of.ensures ∙ e)))

pub loop-k-init : goal.loop-k-init
loop-k-init c =
    agree-start c.args.transitions.now (transition_bytes * c.search.i)
    c.args.arity c.args.args

pub search-preserved : goal.search-preserved
search-preserved c =
    let enough : c.args.arity ≤ length c.args.args = omega arith in
    search-passed c.search.invariant
    (omega arith)
    (unlike-arg c.args.transitions.now (transition_bytes * c.search.i)
    c.args.label c.args.arity c.args.args enough c.loop-k.k
    (sym c.arity_of.ensures ∙ c.if-arity_of-arity.false) (omega arith)
    (λ e. c.if-arg_of-from.true (c.arg_of.ensures.value ∙ e ∙ sym c.from.ensures)))

pub loop-k-preserved : goal.loop-k-preserved
loop-k-preserved c =
    agree-next c.loop-k.invariant (omega arith) (sym c.arg_of.ensures.value ∙ c.if-arg_of-from.false ∙ c.from.ensures)

pub returns-then-i-count : goal.returns-then-i-count
returns-then-i-count c =
    let both = search-end c.search.invariant (omega arith) in
    record { result_value = both.0; result_value_2 = both.1 }

pub returns-after-loop-k : goal.returns-after-loop-k
returns-after-loop-k c =
    let enough : c.args.arity ≤ length c.args.args = omega arith in
    let hit =
    search-hit c.search.invariant (omega arith)
    (alike c.args.transitions.now (transition_bytes * c.search.i) c.args.label
    c.args.arity c.args.args enough (sym c.label_of.ensures.value ∙ c.if-label_of-label.false)
    (sym c.arity_of.ensures ∙ c.if-arity_of-arity.false)
    (λ j h. c.loop-k.invariant.same j (omega arith))) in
    record { result_value = c.out_of.ensures.value ∙ hit.0; result_value_2 = hit.1 }

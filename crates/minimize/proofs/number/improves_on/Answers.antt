-- `minimize::number::improves_on` meets its contract, for every order that has these numbers.
use mathlib.Core.Path.{◌∙◌, ap, sym}
use native.Mathlib.Omega.{arith}
use Rattle.table.specs.Layout.{nth_transition}
use Rattle.fields.proofs.Transitions.{readable}
use Rattle.minimize.specs.Numbering.{improves}
use Rattle.minimize.proofs.Ready.{improves-before, improves-first, improves-unready, precedes-by-numbers}
use Rattle.minimize.proofs.Ready.{ready_by_lem}
use Rattle.minimize.proofs.number.improves_on.Goals as goal

pub ready-requires : goal.ready-requires
ready-requires c = readable c.requires.holds_transitions c.args.i (omega arith)

pub returns-then-not-ready : goal.returns-then-not-ready
returns-then-not-ready c =
    λ o of. improves-unready o c.args.transitions.now c.args.i c.args.best
    (sym (ready_by_lem of (nth_transition c.args.transitions.now c.args.i)) ∙ sym c.ready.ensures ∙
    c.if-not-ready.true)

pub returns-in_default : goal.returns-in_default
returns-in_default c =
    λ o of. let run = c.args.transitions.now in
    let i = c.args.i in
    improves-first o run i (sym (ready_by_lem of (nth_transition run i)) ∙ sym c.ready.ensures ∙ c.if-not-ready.false) ∙
    ap (λ x. improves o run x i) (sym c.in_default.is)

pub precedes_by-requires : goal.precedes_by-requires
precedes_by-requires c = record {
  readable = readable c.requires.holds_transitions c.args.i (omega arith);
  readable_2 = readable c.requires.holds_transitions c.in-Some.first (c.requires.best_lt_count _ c.in-Some.is);
}

pub returns : goal.returns
returns c =
    λ o of. let run = c.args.transitions.now in
    let i = c.args.i in
    let b = c.in-Some.first in
    c.precedes_by.ensures ∙ precedes-by-numbers of (nth_transition run i) (nth_transition run b) ∙
    improves-before o run i (sym (ready_by_lem of (nth_transition run i)) ∙ sym c.ready.ensures ∙
    c.if-not-ready.false) b ∙ ap (λ x. improves o run x i) (sym c.in-Some.is)

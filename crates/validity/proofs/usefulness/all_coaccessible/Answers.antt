-- `validity::usefulness::all_coaccessible` meets its contract: marks that are coaccessible states, all of them at
-- the end.
use Rattle.std.proofs.Common.{◌≡◌, ◌+◌, ◌-◌, ◌∙◌, arith}
use Rattle.validity.proofs.Fixpoints.{all-coaccessible-early, all-coaccessible-end, using-more, using-start}
use Rattle.validity.proofs.usefulness.all_coaccessible.Goals as goal

pub returns-then-all_marked : goal.returns-then-all_marked
returns-then-all_marked c =
    let e : c.args.n + 1 - 1 ≡ c.args.n = omega arith in all-coaccessible-early
    c.args.classes.now c.args.transitions.now c.args.n c.args.count c.requires.over
    (using-more c.args.classes.now c.args.transitions.now c.args.n c.args.count
    c.requires.over (using-start c.args.classes.now c.args.transitions.now c.args.n
    c.args.count c.requires.over c.accepting_marks-marks.ensures)
    c.use_all.ensures) (rw e at c.all_marked.ensures) c.if-all_marked.true

pub returns : goal.returns
returns c =
    let e : c.args.n + 1 - 1 ≡ c.args.n = omega arith in rw e at c.all_marked-2.ensures ∙
    all-coaccessible-end c.args.classes.now c.args.transitions.now c.args.n c.args.count
    c.requires.over c.useful.ensures

use mathlib.Core.Path.{◌∙◌, ◌≡◌, subst, sym}
use Prim.Native.Nat.{◌+◌}
use native.Mathlib.Omega.{arith}
use Rattle.minimize.proofs.Ready.{BestFrom, best-end, best-keep, best-start, best-take}
use Rattle.minimize.proofs.number.first_ready.Goals.{else-improves_on, then-improves_on}
use Rattle.minimize.proofs.number.first_ready.Goals as goal

pub loop-i-init : goal.loop-i-init
loop-i-init c = (λ x e. absurd (cc), λ o of. best-start)

pub loop-i-preserved : goal.loop-i-preserved
loop-i-preserved c =
    let (below, from) = c.loop-i.invariant in
    let run = c.args.transitions.now in
    elim c.if-improves_on.branch [
      | then-improves_on w ↦ (
        λ x e. let same : x ≡ c.loop-i.i = cc in omega arith,
        λ o of. subst (λ b. BestFrom o run c.args.count b (c.loop-i.i + 1)) (sym w.best-is)
            (best-take (from o of) (omega arith) (sym w.if-improves_on.true ∙ c.improves_on.ensures o of)),
      )
      | else-improves_on w ↦ (
        λ x e. below x (sym w.best-is ∙ e),
        λ o of. subst (λ b. BestFrom o run c.args.count b (c.loop-i.i + 1)) (sym w.best-is)
            (best-keep (from o of) (omega arith) (sym w.if-improves_on.false ∙ c.improves_on.ensures o of)),
      )
    ]

pub returns : goal.returns
returns c = record {
  upper_bound = c.loop-i.invariant.0;
  by_index = λ o of. best-end (c.loop-i.invariant.1 o of) (omega arith);
}

use Rattle.std.proofs.Common.{◌-◌, sym, ◌∙◌, arith}
use Rattle.marking.specs.Marks.{marked}
use Rattle.marking.proofs.Sweeps.{nonzero-false}
use Rattle.lists.proofs.Intervals.{at_every}
use Rattle.validity.proofs.Passing.{every-missed, spanned}
use Rattle.validity.proofs.numbering.all_seen.Goals as goal

pub loop-q-init : goal.loop-q-init
loop-q-init c = (omega arith, λ p a b. absurd (omega arith))

pub returns-then-least-eq0 : goal.returns-then-least-eq0
returns-then-least-eq0 c =
    every-missed (marked c.args.seen.now) c.args.from (c.args.end - c.args.from)
    (c.loop-q.q - 1) (omega arith) (omega (arith, c.loop-q.invariant.0))
    (nonzero-false _ (sym c.from-least.ensures ∙ c.if-least-eq0.true))

pub loop-q-smaller : goal.loop-q-smaller
loop-q-smaller c =
    omega (arith, c.requires.spans.down (c.loop-q.q - 1), c.from-least.ensures)

pub loop-q-preserved : goal.loop-q-preserved
loop-q-preserved c = (
  omega (arith, c.requires.spans.down (c.loop-q.q - 1), c.from-least.ensures, c.loop-q.invariant.0),
  λ p a b.
      spanned c.requires.spans c.loop-q.q c.args.end (omega arith)
      (λ e. c.if-least-eq0.false (c.from-least.ensures ∙ e)) c.loop-q.invariant.1 p
      (omega (arith, c.from-least.ensures)) b,
)

pub returns : goal.returns
returns c =
    sym (at_every (marked c.args.seen.now) c.args.from (c.args.end - c.args.from)
    (λ i h l. c.loop-q.invariant.1 i (omega arith) (omega arith)))

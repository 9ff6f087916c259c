use mathlib.Core.Bool.{false≢true}
use mathlib.Core.Path.{◌∙◌, ap₂}
use Prim.Native.Nat.{max, min}
use native.Mathlib.Omega.{arith}
use Rattle.uses.specs.Settings.{arrays_in}
use Rattle.uses.specs.Walks.{Walkable}
use Rattle.uses.proofs.walking.walk_agrees.Invariants.{places-none, places-next, walked-before, walked_all}
use Rattle.uses.proofs.walking.walk_agrees.Goals as goal

pub returns-then-p-eq0 : goal.returns-then-p-eq0
returns-then-p-eq0 c = λ e. absurd (false≢true e)

pub returns-then-q-eq0 : goal.returns-then-q-eq0
returns-then-q-eq0 c = λ e. absurd (false≢true e)

pub width-places-requires : goal.width-places-requires
width-places-requires c =
    let last = c.max-to.ensures ∙ ap₂ max c.entry.ensures c.entry-2.ensures in
    record {
      to_le_count = omega (arith, last, c.args.setting.now.uses.known c.args.p, c.args.setting.now.uses.known c.args.q);
    }

pub loop-k-init : goal.loop-k-init
loop-k-init c =
    places-none (arrays_in c.args.setting.now c.args.frames) c.args.setting.now.transitions.now c.args.setting.now.count c.args.p c.args.q c.max-to.result

pub place_agrees_in_step-requires : goal.place_agrees_in_step-requires
place_agrees_in_step-requires c =
    let last = c.max-to.ensures ∙ ap₂ max c.entry.ensures c.entry-2.ensures in
    let first = c.min.ensures ∙ ap₂ min c.entry-3.ensures c.entry-4.ensures in
    let k = c.loop-k.k in
    let w : Walkable c.args.setting.now.transitions.now c.args.setting.now.count c.args.setting.now.n k c.args.p c.args.q c.max-to.result = record {
      searchable = c.args.setting.now.searchable;
      over = c.args.setting.now.over;
      inside = omega (arith, last, c.args.setting.now.uses.known c.args.p, c.args.setting.now.uses.known c.args.q);
      place = omega (arith, c.width-places.ensures.upper_bound, c.loop-k-test.true);
      first_some = omega (arith, c.if-p-eq0.false);
      second-some = omega (arith, c.if-q-eq0.false);
    } in
    record {
      framed = c.requires.framed;
      walkable = w;
      from_le_to = omega (arith, c.min-from.ensures);
      walked = walked-before c.args.setting.now.uses (arrays_in c.args.setting.now c.args.frames) w c.min-from.result (omega (arith, c.min-from.ensures))
          (omega (arith, c.min-from.ensures, first)) (omega (arith, c.min-from.ensures, first));
    }

pub returns-then-not-place_agrees_in_step : goal.returns-then-not-place_agrees_in_step
returns-then-not-place_agrees_in_step c = λ e. absurd (false≢true e)

pub loop-k-smaller : goal.loop-k-smaller
loop-k-smaller c = omega (arith, c.width-places.ensures.upper_bound, c.loop-k-test.true)

pub loop-k-preserved : goal.loop-k-preserved
loop-k-preserved c =
    places-next c.loop-k.invariant
    (c.place_agrees_in_step.ensures c.if-not-place_agrees_in_step.false)

pub returns : goal.returns
returns c =
    let last = c.max-to.ensures ∙ ap₂ max c.entry.ensures c.entry-2.ensures in
    let past = c.loop-k-test.false in
    λ _. walked_all c.args.setting.now.uses (arrays_in c.args.setting.now c.args.frames) c.args.p c.args.q last (λ i h. c.width-places.ensures.by_index i h)
    (record { each = λ h l. c.loop-k.invariant.each h (omega arith) })

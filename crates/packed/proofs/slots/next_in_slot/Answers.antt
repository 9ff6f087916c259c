use mathlib.Core.Path.{◌≡◌, subst, sym}
use Prim.Native.Nat.{◌<◌, ◌≤◌, ℕ}
use native.Mathlib.Omega.{arith}
use Rattle.std.specs.Option.{ForSome}
use Rattle.std.specs.Prelude.{Some}
use Rattle.packed.specs.Slots.{InSlot}
use Rattle.packed.proofs.Walks.{none-past, walk-next, walk-past, walk_start}
use Rattle.packed.proofs.slots.next_in_slot.Goals as goal

pub loop-i-init : goal.loop-i-init
loop-i-init c = (omega arith, walk_start c.args.transitions.now c.args.z c.args.from)

pub meta_at-meta-requires : goal.meta_at-meta-requires
meta_at-meta-requires c = omega (arith, c.requires.searchable.padded.runs.inside)

pub args_at-args-requires : goal.args_at-args-requires
args_at-args-requires c = omega (arith, c.requires.searchable.padded.runs.inside)

pub returns-then-is_past : goal.returns-then-is_past
returns-then-is_past c =
    let bytes = c.type_inv.transitions in
    let past = c.is_past.ensures c.if-is_past.true in
    record {
      here = λ i e. absurd (cc);
      others = walk-past c.loop-i.invariant.1
          (none-past c.args.z (λ j. omega (arith, bytes j)) c.requires.searchable past
          c.meta_at-meta.ensures c.args_at-args.ensures);
    }

pub returns-then-is_in_slot : goal.returns-then-is_in_slot
returns-then-is_in_slot c = let inv = c.loop-i.invariant in
    let P : ℕ → Type 0 = λ i. (c.args.from ≤ i) × (i < c.args.count) × InSlot c.args.transitions.now c.args.z i in
    let found : ForSome (Some c.loop-i.i) P = λ i e. let same : i ≡ c.loop-i.i = cc in
    subst P (sym same) (inv.0, omega arith, c.is_in_slot.ensures.in_slot c.if-is_in_slot.true) in
    record { here = found; others = inv.1.none }

pub loop-i-preserved : goal.loop-i-preserved
loop-i-preserved c = let inv = c.loop-i.invariant in
    (omega (arith, inv.0), walk-next inv.1 (c.is_in_slot.ensures.fact c.if-is_in_slot.false))

pub returns : goal.returns
returns c = record {
  here = λ i e. absurd (cc);
  others = walk-past c.loop-i.invariant.1 (λ j h l I. omega arith);
}

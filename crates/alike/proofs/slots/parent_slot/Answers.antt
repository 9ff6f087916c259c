use mathlib.Core.Path.{◌∙◌, subst, sym}
use Prim.Native.Nat.{ℕ}
use native.Mathlib.Omega.{arith}
use Rattle.alike.specs.Slots.{SlotOf}
use Rattle.alike.proofs.slots.parent_slot.Goals as goal

pub loop-k-init : goal.loop-k-init
loop-k-init c = c.from-arity.ensures

pub overflow_add-i : goal.overflow_add-i
overflow_add-i c = omega (arith, c.loop-k.invariant, c.requires.shaped.few, c.requires.shaped.narrow c.args.i (omega arith))

pub bounds-subtrees-i-in-loop-k : goal.bounds-subtrees-i-in-loop-k
bounds-subtrees-i-in-loop-k c = omega (arith, c.loop-k.invariant, c.requires.shaped.few, c.requires.shaped.narrow c.args.i (omega arith))

pub frame_slot-requires : goal.frame_slot-requires
frame_slot-requires c = record {
  shaped = c.requires.shaped;
  i_lt_m = c.requires.i_lt_m;
  name_some = omega (arith, c.if-names-i-eq0.false);
  k_bound = omega (arith, c.loop-k.invariant);
}

pub returns-then-from-j : goal.returns-then-from-j
returns-then-from-j c = subst (λ (j : ℕ). SlotOf c.args.subtrees.now.count j c.args.subtrees.now.labels c.args.subtrees.now.arities c.args.subtrees.now.children c.args.subtrees.now.states
    c.args.names.now c.frame_slot.result)
    (sym c.from.ensures ∙ c.if-from-j.true) c.frame_slot.ensures

pub loop-k-preserved : goal.loop-k-preserved
loop-k-preserved c = c.loop-k.invariant

use Prim.Native.Nat.{◌<◌}
use native.Mathlib.Omega.{arith}
use lib.ListN.{get_or}
use Rattle.naming.proofs.Spans.{noted-child, noted-node}
use Rattle.naming.proofs.parents.note_children.Goals as goal

pub loop-k-init : goal.loop-k-init
loop-k-init c = (
  c.from-arity.ensures,
  omega arith,
  record {
    sizes = c.requires.parents_noted.sizes;
    low = c.requires.parents_noted.low;
    known = λ x. omega (arith, c.requires.parents_noted.known x);
    above = λ x k g. c.requires.parents_noted.above x k (omega arith);
    below = λ x k g. c.requires.parents_noted.below x k (omega arith);
  },
)

pub overflow_add-i : goal.overflow_add-i
overflow_add-i c =
    omega (arith, c.args.setting.now.shaped.few, c.args.setting.now.shaped.narrow c.args.i c.requires.i_lt_m, c.loop-k-test.true, c.loop-k.invariant.0)

pub bounds-setting-i-in-loop-k : goal.bounds-setting-i-in-loop-k
bounds-setting-i-in-loop-k c =
    omega (arith, c.args.setting.now.shaped.few, c.args.setting.now.shaped.narrow c.args.i c.requires.i_lt_m, c.loop-k-test.true, c.loop-k.invariant.0)

pub note_child-requires : goal.note_child-requires
note_child-requires c =
    let now = c.loop-k in
    let inside : now.k < get_or c.args.setting.now.subtrees.now.arities c.args.i 0 =
    omega (arith, now.invariant.0, c.loop-k-test.true) in
    record {
      i_lt_max_nodes = omega (arith, c.args.setting.now.shaped.few);
      le_j = omega (arith, c.from-j.ensures, c.args.setting.now.shaped.child-some c.args.i now.k c.requires.i_lt_m inside);
      j_le_max_nodes = omega (
        arith,
        c.from-j.ensures,
        c.args.setting.now.shaped.few,
        c.args.setting.now.shaped.child-before c.args.i now.k c.requires.i_lt_m inside,
      );
      froms_len = now.invariant.2.sizes.0;
      tos_len = now.invariant.2.sizes.1;
    }

pub loop-k-preserved : goal.loop-k-preserved
loop-k-preserved c =
    let now = c.loop-k in (
      now.invariant.0,
      omega (arith, c.loop-k-test.true),
      noted-child c.args.setting.now.shaped c.requires.i_lt_m (omega (arith, now.invariant.0, c.loop-k-test.true))
          c.from-j.ensures now.invariant.2
          c.note_child.ensures,
    )

pub returns : goal.returns
returns c =
    let now = c.loop-k in
    noted-node c.args.setting.now.shaped c.requires.i_lt_m (omega (arith, now.invariant.0, c.loop-k-test.false)) now.invariant.2

-- `naming::mark_shared` meets its contract: a state or j's own name marks nothing, any other name marks its subtree.
use mathlib.Core.Path.{◌∙◌}
use Prim.Native.Nat.{◌-◌}
use native.Mathlib.Omega.{arith}
use lib.ListN.{length-set}
use Rattle.naming.proofs.Sharing.{marked-none, marked-own, marked_other}
use Rattle.naming.proofs.mark_shared.Goals as goal

pub returns-then-own-n : goal.returns-then-own-n
returns-then-own-n c = record {
  shared_len_2 = c.requires.shared_len;
  marked = marked-none (omega (arith, c.from-own.ensures, c.if-own-n.true));
}

pub overflow_add-n : goal.overflow_add-n
overflow_add-n c = omega (arith, c.requires.j_le_m, c.args.setting.now.states, c.args.setting.now.shaped.few)

pub returns-then-own-n-2 : goal.returns-then-own-n-2
returns-then-own-n-2 c = record {
  shared_len_2 = c.requires.shared_len;
  marked = marked-own (omega (
    arith,
    c.from-own.ensures,
    c.if-own-n-2.true,
  ));
}

pub returns : goal.returns
returns c = record {
  shared_len_2 = length-set c.args.shared.now (c.from-own.result - c.args.setting.now.n - 1) 1 ∙ c.requires.shared_len;
  marked = marked_other (omega (arith, c.from-own.ensures, c.if-own-n.false)) (omega (
    arith,
    c.from-own.ensures,
    c.if-own-n.false,
    c.requires.name_bound,
    c.args.setting.now.shaped.few,
  ));
}

-- `naming::parents::raises_child` meets its contract: the result is false as soon as one test fails.
use Prim.Native.Nat.{◌-◌}
use native.Mathlib.Omega.{arith}
use lib.ListN.{get_or}
use borrow.Author.Tests.{le-ltb, lt-ltb}
use Rattle.naming.specs.Parents.{raises}
use Rattle.naming.proofs.parents.raises_child.Goals as goal

pub returns-then-from-setting : goal.returns-then-from-setting
unfolding raises
returns-then-from-setting c =
    rw (le-ltb c.args.setting.now.n ((get_or c.args.names.now (c.args.i - 1) 0)) (omega (
      arith,
      c.from.ensures,
      c.if-from-setting.true,
    )))

pub returns : goal.returns
unfolding raises
returns c =
    rw (lt-ltb c.args.setting.now.n ((get_or c.args.names.now (c.args.i - 1) 0)) (omega (
      arith,
      c.from.ensures,
      c.if-from-setting.false,
    ))) c.is_child.ensures

-- `naming::parents::anchors_child` meets its contract: the result is false as soon as one test fails.
use mathlib.Core.Path.{◌∙◌, sym}
use Prim.Native.Nat.{◌+◌, ◌-◌}
use lib.ListN.{get_or}
use borrow.Author.Tests.{eq-eqb, ne_eqb}
use Rattle.naming.specs.Parents.{anchors}
use Rattle.naming.proofs.parents.anchors_child.Goals as goal

pub returns-then-from-setting : goal.returns-then-from-setting
unfolding anchors
returns-then-from-setting c =
    rw (ne_eqb ((get_or c.args.names.now (c.args.i - 1) 0)) (c.args.setting.now.n + c.args.i) (λ e. c.if-from-setting.true (c.from.ensures ∙ e)))

pub returns-then-shared-i-ne0 : goal.returns-then-shared-i-ne0
unfolding anchors
returns-then-shared-i-ne0 c =
    rw (
      eq-eqb ((get_or c.args.names.now (c.args.i - 1) 0)) (c.args.setting.now.n + c.args.i) (sym c.from.ensures ∙ c.if-from-setting.false),
      ne_eqb ((get_or c.args.shared.now
          (c.args.i - 1) 0)) 0 c.if-shared-i-ne0.true,
    )

pub returns : goal.returns
unfolding anchors
returns c =
    rw (
      eq-eqb ((get_or c.args.names.now (c.args.i - 1) 0)) (c.args.setting.now.n + c.args.i) (sym c.from.ensures ∙ c.if-from-setting.false),
      eq-eqb ((get_or c.args.shared.now (c.args.i - 1) 0)) 0 c.if-shared-i-ne0.false,
    ) c.is_child.ensures

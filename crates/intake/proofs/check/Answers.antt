-- `intake::check` meets its contract: the length first, then the contents.
use Rattle.intake.proofs.Checks.{refused-5, right-length}
use Rattle.intake.proofs.check.Goals as goal

pub returns-then-table-ne-TABLE_BYTES : goal.returns-then-table-ne-TABLE_BYTES
returns-then-table-ne-TABLE_BYTES c = refused-5 c.args.table.now c.if-table-ne-TABLE_BYTES.true

pub returns : goal.returns
returns c =
    right-length c.args.table.now c.if-table-ne-TABLE_BYTES.false c.check_content.ensures

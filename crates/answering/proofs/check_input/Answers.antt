-- `answering::check_input` meets its contract: 1 to 13 in their order.
use mathlib.Core.Path.{◌∙◌, ◌≡◌, refl}
use borrow.Author.Rules.{rules}
use Rattle.format.proofs.Refusals.{refusal-some}
use Rattle.format.specs.Refusals.{broken, refusal_number}
use Rattle.answering.proofs.Changing.{input-5, input-6, input-content, input-listing}
use Rattle.answering.proofs.check_input.Goals as goal

pub returns-in_err-check : goal.returns-in_err-check
returns-in_err-check c =
    let same : broken c.from_residual.result ≡ refusal_number c.in_err-check.field-0.0 = search rules in
    same ∙ input-listing c.args.tree.now c.args.table.now c.args.scratch.now c.in_err-check.ensures (refusal-some _)

pub returns-then-table-ne-TABLE_BYTES : goal.returns-then-table-ne-TABLE_BYTES
returns-then-table-ne-TABLE_BYTES c =
    input-5 c.args.tree.now c.args.table.now c.args.scratch.now c.in_ok-check.ensures refl
    c.if-table-ne-TABLE_BYTES.true

pub returns-then-scratch-ne-SCRATCH_BYTES : goal.returns-then-scratch-ne-SCRATCH_BYTES
returns-then-scratch-ne-SCRATCH_BYTES c =
    input-6 c.args.tree.now c.args.table.now c.args.scratch.now c.in_ok-check.ensures refl
    c.if-table-ne-TABLE_BYTES.false c.if-scratch-ne-SCRATCH_BYTES.true

pub returns : goal.returns
returns c =
    input-content c.args.tree.now c.args.table.now c.args.scratch.now c.in_ok-check.ensures refl
    c.if-table-ne-TABLE_BYTES.false c.if-scratch-ne-SCRATCH_BYTES.false c.check_content.ensures

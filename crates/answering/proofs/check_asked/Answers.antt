-- `answering::check_asked` meets its contract: the listing decides before the table.
use mathlib.Core.Path.{◌∙◌, ◌≡◌, refl, sym}
use borrow.Author.Rules.{rules}
use Rattle.format.proofs.Refusals.{refusal-some}
use Rattle.format.specs.Refusals.{broken, refusal_number}
use Rattle.answering.proofs.Reading.{listing-refused, listing-passed}
use Rattle.answering.proofs.check_asked.Goals as goal

pub returns-in_err-check : goal.returns-in_err-check
returns-in_err-check c =
    let same : broken c.from_residual.result ≡ refusal_number c.in_err-check.field-0.0 = search rules in
    same ∙ listing-refused c.args.tree.now c.args.table.now c.in_err-check.ensures (refusal-some _)

pub returns : goal.returns
returns c =
    listing-passed c.args.tree.now c.args.table.now c.in_ok-check.ensures refl c.check-2.ensures

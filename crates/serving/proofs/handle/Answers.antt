-- `serving::handle` meets its contract: what was read names the call, and the lent bytes start with its listing.
use Rattle.std.proofs.Common.{ap, ◌∙◌, sym}
use Rattle.std.specs.Prelude.{Ok}
use Rattle.std.proofs.lemmas.Result.{err_from_is_err_and}
use Rattle.serving.specs.Serving.{called}
use Rattle.text.specs.Grammar.{to_add, to_ask, to_drop}
use Rattle.serving.proofs.Handled.{call-handled, listing-within, malformed-handled, total-handled}
use Rattle.serving.proofs.handle.Goals as goal

pub returns-in_err-command : goal.returns-in_err-command
returns-in_err-command c =
    let p = err_from_is_err_and c.from_residual.result c.from_residual.ensures.1 in
    rw (p.1, p.2) (malformed-handled _ _ (sym c.in_err-command.ensures.answer) _ _)

pub slice_bounds-add-end : goal.slice_bounds-add-end
slice_bounds-add-end c =
    listing-within _ to_add _ (sym c.in_ok-command.ensures.answer ∙ ap Ok c.in-Add.is) _
    c.in_ok-command.ensures.listing

pub slice_bounds-remove-end : goal.slice_bounds-remove-end
slice_bounds-remove-end c =
    listing-within _ to_drop _ (sym c.in_ok-command.ensures.answer ∙ ap Ok c.in-Drop.is) _
    c.in_ok-command.ensures.listing

pub slice_bounds-ask-end : goal.slice_bounds-ask-end
slice_bounds-ask-end c =
    listing-within _ to_ask _ (sym c.in_ok-command.ensures.answer ∙ ap Ok c.in-Ask.is) _
    c.in_ok-command.ensures.listing

pub returns-in-Add : goal.returns-in-Add
unfolding called
returns-in-Add c =
    call-handled _ to_add _ (sym c.in_ok-command.ensures.answer ∙ ap Ok c.in-Add.is) _
    c.in_ok-command.ensures.listing _ _ _ c.add.ensures

pub returns-in-Drop : goal.returns-in-Drop
unfolding called
returns-in-Drop c =
    call-handled _ to_drop _ (sym c.in_ok-command.ensures.answer ∙ ap Ok c.in-Drop.is) _
    c.in_ok-command.ensures.listing _ _ _ c.remove.ensures

pub returns-in-Ask : goal.returns-in-Ask
unfolding called
returns-in-Ask c =
    let b = c.args.table.now in
    let w = c.args.scratch.now in
    call-handled _ to_ask _ (sym c.in_ok-command.ensures.answer ∙ ap Ok c.in-Ask.is) _
    c.in_ok-command.ensures.listing b w _ (λ i. record { answer = c.ask.ensures i; table = b; scratch = w })

pub returns-in-Total : goal.returns-in-Total
returns-in-Total c =
    total-handled _ (sym c.in_ok-command.ensures.answer ∙ ap Ok c.in-Total.is) c.args.table.now
    c.args.scratch.now _ c.total.ensures

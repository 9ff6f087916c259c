-- `text::put_label` meets its contract: the two bytes are stored one after the other.
use Rattle.std.proofs.Common.{ℕ, ◌+◌, List, get_or, length, set, ap, ◌∙◌, length-set}
use Rattle.format.proofs.Labels.{label-stored}
use Rattle.text.proofs.put_label.Goals as goal

pub put-requires-2 : goal.put-requires-2
put-requires-2 c =
    ap length c.put.ensures ∙ length-set c.args.listing.now c.args.at _ ∙ c.requires.listing_len

pub returns : goal.returns
returns c =
    c.put-2.ensures ∙ ap (λ (l : List ℕ). set l (c.args.at + 1) (get_or c.to_be_bytes.result 1 0)) c.put.ensures
    ∙ label-stored c.args.listing.now c.args.at c.args.value c.requires.value_le_max_label c.to_be_bytes.ensures

-- `change::change` meets its contract: the result of `work`, with the scratch cleared.
use mathlib.Core.Path.{◌∙◌, ◌≡◌, ap}
use borrow.Author.Rules.{rules}
use lib.ListN.{length, replicate}
use Rattle.trees.specs.Listing.{read_tree}
use Rattle.change.specs.Changing.{change_of}
use Rattle.change.proofs.Answering.{cleared-outcome}
use Rattle.change.proofs.change.Goals as goal

pub returns : goal.returns
returns c =
    let cleared : c.fill.new.self ≡ replicate (length c.work-answer.new.scratch) 0 = search rules in
    cleared-outcome (change_of c.args.inserting (read_tree c.args.tree.now)) c.work-answer.ensures c.args.scratch.now
    (cleared ∙ ap (λ k. replicate k 0) c.work-answer.auto.scratch)

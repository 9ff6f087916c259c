-- `change::rebuilding::rebuild_in` meets its contract: a failed first attempt leaves the table as it was.
use mathlib.Core.Path.{◌∙◌}
use borrow.Author.Rules.{rules}
use Rattle.change.proofs.Rebuilt.{fitting-same, some_same}
use Rattle.change.proofs.rebuilding.rebuild_in.Goals as goal

pub returns-then-attempt : goal.returns-then-attempt
returns-then-attempt g c =
    let both = rw c.if-attempt.true at c.attempt.ensures in
    record { table_after = both.table_after; table_unchanged = both.table_unchanged }

pub attempt-requires-2 : goal.attempt-requires-2
attempt-requires-2 g c = (
  search rules,
  (some_same (c.attempt.ensures.table_unchanged c.if-attempt.false) c.requires.some_fitting, c.requires.few_enough),
)

pub returns : goal.returns
returns g c =
    let same = c.attempt.ensures.table_unchanged c.if-attempt.false in
    record {
      table_after = λ inserting t o F. rw same at (c.attempt-2.ensures.table_after inserting t o (fitting-same same F));
      table_unchanged = λ h. c.attempt-2.ensures.table_unchanged h ∙ same;
    }

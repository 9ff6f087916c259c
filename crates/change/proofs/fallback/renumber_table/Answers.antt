-- `change::fallback::renumber_table` meets its contract: the transitions in the scratch, numbered by the rule, are
-- the changed automaton.
use mathlib.Core.Path.{◌≡◌}
use native.Mathlib.Omega.{arith}
use lib.ListN.{length}
use Rattle.change.proofs.Inputs.{given-few, given-size}
use Rattle.change.proofs.Rebuilt.{written}
use borrow.Author.Rules.{rules}
use Rattle.change.proofs.fallback.renumber_table.Goals as goal

pub overflow_add-named : goal.overflow_add-named
overflow_add-named c =
    omega (arith, given-few c.requires.some_fitting.4.named.given, c.requires.some_fitting.4.named.given.lists.few)

pub write-requires : goal.write-requires
write-requires c = record {
  viewed = record {
    over = (c.write_scratch-made.ensures c.requires.some_fitting.0 c.requires.some_fitting.1 c.requires.some_fitting.2 c.requires.some_fitting.3 c.requires.some_fitting.4).over;
    states = omega (
      arith,
      given-few c.requires.some_fitting.4.named.given,
      c.requires.some_fitting.4.named.given.lists.few,
    );
    classes = let e : length c.args.classes.now ≡
        256 = search rules in omega (
          arith,
          given-few c.requires.some_fitting.4.named.given,
          c.requires.some_fitting.4.named.given.lists.few,
          e,
        );
  };
  table_len = given-size c.requires.some_fitting.4.named.given;
}

pub returns : goal.returns
returns c =
    λ inserting t o F. written F (c.write_scratch-made.ensures inserting t o c.args.classes.now F) c.write.ensures.table_after

-- `subtrees::enter` meets its contract: the node was found before, or the arrays hold it after the others.
use Rattle.subtrees.proofs.Entering.{enter-missing, enter-new, enter-old, sized_new}
use Rattle.format.specs.Format.{max_arity}
use lib.ListN.{length}
use native.Mathlib.Omega.{arith}
use mathlib.Core.Path.{◌≡◌}
use Rattle.subtrees.proofs.enter.Goals as goal

pub returns-in-Some : goal.returns-in-Some
returns-in-Some c =
    let sought = c.in-Some in
    let eight : length c.args.numbers ≡ max_arity = omega (arith, c.well_formed) in
    record {
      sized_2 = c.requires.sized;
      number_given = omega (arith, sought.ensures.within);
      entered = λ A ts e st. enter-old st c.args.label c.requires.children eight sought.ensures.there sought.ensures.within;
    }

pub returns : goal.returns
returns c =
    let eight : length c.args.numbers ≡ max_arity = omega (arith, c.well_formed) in
    record {
      sized_2 = sized_new c.requires.sized c.args.subtrees.now.count c.args.label c.args.arity c.args.q c.store_children.ensures;
      number_given = omega arith;
      entered = λ A ts e st. enter-new st c.args.label c.requires.children eight c.requires.sized c.requires.found_lt_max_nodes c.requires.label_le_max_label
          c.store_children.ensures e (enter-missing st c.args.label c.requires.children eight c.in_default.ensures);
    }

-- `totals::rounds::add_product` meets its contract: one state gets the product.
use Rattle.automata.specs.Totals.{product_over}
use Rattle.table.specs.Layout.{transition_at}
use Rattle.totals.specs.Numbers.{number_in}
use Rattle.totals.proofs.Sums.{put-product}
use Rattle.totals.proofs.rounds.add_product.Goals as goal

pub returns : goal.returns
returns c =
    put-product (product_over (number_in c.args.numbers.now) (transition_at c.args.transitions.now c.args.at).args)
    c.add.ensures c.out_of.ensures.value c.product-more.ensures

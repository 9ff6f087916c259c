-- `pairs::sums::product` meets its contract: a product of ones is 1.
use Rattle.pairs.proofs.sums.product.Goals as goal

pub returns-then-all_ones : goal.returns-then-all_ones
returns-then-all_ones c = c.all_ones.ensures c.if-all_ones.true

-- `pairs::sums::add_product` meets its contract: the sum of the output gets the product, unless its number is 0.
use mathlib.Core.Path.{ap, refl}
use native.Mathlib.Omega.{arith}
use Rattle.pairs.specs.Counts.{entry, product_at}
use Rattle.pairs.proofs.Summing.{raised-put}
use Rattle.table.specs.Layout.{out_of}
use Rattle.pairs.proofs.sums.add_product.Goals as goal

pub returns-then-numbers-out-eq0 : goal.returns-then-numbers-out-eq0
returns-then-numbers-out-eq0 c =
    let e = ap (entry c.args.numbers.now) c.out_of-out.ensures.value in
    record { size = refl; here = λ h. absurd (omega (arith, h, e, c.if-numbers-out-eq0.true)); elsewhere = λ q d. refl }

pub returns : goal.returns
returns c =
    raised-put (entry c.args.numbers.now) (out_of c.args.transitions.now c.args.at)
    (product_at c.args.numbers.now c.args.transitions.now c.args.at) c.requires.sums_len c.out_of-out.ensures.upper_bound
    c.out_of-out.ensures.value c.raised.ensures c.multiplied-more.ensures

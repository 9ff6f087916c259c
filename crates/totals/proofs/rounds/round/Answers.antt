use native.Mathlib.Omega.{arith}
use Rattle.fields.proofs.Transitions.{readable}
use borrow.Author.Rules.{rules}
use Rattle.totals.proofs.Sums.{sums_next, sums-start, sums-end}
use Rattle.totals.proofs.rounds.round.Goals as goal

pub loop-i-init : goal.loop-i-init
loop-i-init c = sums-start c.args.transitions.now (search rules)

pub add_product-requires : goal.add_product-requires
add_product-requires c = readable c.requires c.loop-i.i (omega arith)

pub loop-i-preserved : goal.loop-i-preserved
loop-i-preserved c = sums_next c.args.transitions.now c.loop-i.i c.loop-i.invariant c.add_product.ensures

pub returns : goal.returns
returns c = sums-end c.args.transitions.now c.loop-i.i c.args.count c.loop-i.invariant (omega arith)

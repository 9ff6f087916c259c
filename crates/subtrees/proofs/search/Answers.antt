use borrow.Author.Count.{below_more}
use mathlib.Core.Path.{◌∙◌, sym}
use native.Mathlib.Omega.{arith}
use Rattle.subtrees.proofs.search.Goals as goal

pub loop-j-init : goal.loop-j-init
loop-j-init c = (omega arith, λ i h. absurd (omega arith))

pub returns-then-same_node : goal.returns-then-same_node
returns-then-same_node c =
    record {
      within = c.loop-j-test.true;
      before = c.loop-j.invariant.1;
      there = sym c.same_node.ensures ∙ c.if-same_node.true;
    }

pub loop-j-preserved : goal.loop-j-preserved
loop-j-preserved c =
    let passed = c.loop-j.invariant.1 in
    (omega arith, below_more _ _ passed (sym c.same_node.ensures ∙ c.if-same_node.false))

pub returns : goal.returns
returns c = λ i h. c.loop-j.invariant.1 i (omega arith)

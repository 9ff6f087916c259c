use native.Mathlib.Omega.{arith}
use mathlib.Core.Path.{◌∙◌, sym}
use Rattle.fields.proofs.Transitions.{readable}
use Rattle.ranks.proofs.Before.{counted-end, counted-found, counted_next, counted_start}
use Rattle.ranks.proofs.ranking.sum_before.Goals as goal

pub loop-i-init : goal.loop-i-init
loop-i-init c = counted_start

pub is_own-requires : goal.is_own-requires
is_own-requires c =
    record {
      readable = readable c.requires.holds_transitions c.loop-i.i c.loop-i-test.true;
      stack_len = c.requires.stack_len;
      arity_bound = c.requires.arity_bound;
      arity_le_max_arity = c.requires.arity_le_max_arity;
    }

pub returns-then-is_own : goal.returns-then-is_own
returns-then-is_own c =
    counted-found c.loop-i.invariant c.loop-i-test.true
    (sym c.is_own.ensures ∙ c.if-is_own.true)

pub trees_into-requires : goal.trees_into-requires
trees_into-requires c =
    readable c.requires.holds_transitions c.loop-i.i c.loop-i-test.true

pub loop-i-smaller : goal.loop-i-smaller
loop-i-smaller c = omega (arith, c.loop-i-test.true)

pub loop-i-preserved : goal.loop-i-preserved
loop-i-preserved c =
    counted_next c.loop-i.invariant
    c.loop-i-test.true
    (sym c.is_own.ensures ∙ c.if-is_own.false) c.trees_into.ensures
    c.plus-sum.ensures

pub returns : goal.returns
returns c = counted-end c.loop-i.invariant (omega arith)

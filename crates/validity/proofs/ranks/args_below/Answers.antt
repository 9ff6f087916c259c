use Rattle.std.proofs.Common.{ltb, refl, arith, le-ltb, lt-ltb}
use Rattle.fields.proofs.Transitions.{args-every}
use Rattle.lists.proofs.Loops.{every-broken, every-end, every-next}
use Rattle.validity.specs.Ranks.{rank_of}
use Rattle.validity.proofs.ranks.args_below.Goals as goal

pub loop-k-init : goal.loop-k-init
loop-k-init c = (
  c.arity_of-arity.ensures,
  args-every (λ q. ltb (rank_of c.args.ranks.now q) c.args.bound)
      c.args.transitions.now c.args.at refl,
)

pub returns-then-ranks-q : goal.returns-then-ranks-q
returns-then-ranks-q c =
    every-broken c.loop-k.invariant.1 (omega arith)
    (le-ltb _ _ (rw c.arg_of-q.ensures.value at c.if-ranks-q.true))

pub loop-k-preserved : goal.loop-k-preserved
loop-k-preserved c = (
  c.loop-k.invariant.0,
  every-next c.loop-k.invariant.1 (omega arith)
      (lt-ltb _ _ (rw c.arg_of-q.ensures.value at c.if-ranks-q.false)),
)

pub returns : goal.returns
returns c = every-end c.loop-k.invariant.1 (omega arith)

use lib.Bits.{bit_xor}
use Rattle.std.proofs.Common.{ℕ, ◌+◌, sym, ap, ◌∙◌, arith}
use Rattle.fingerprints.specs.Fingerprints.{xored}
use Rattle.fingerprints.proofs.Arguments.{args_from, xored-end, xored-next, xored-start}
use Rattle.fingerprints.proofs.values.xor_args.Goals as goal

pub loop-k-init : goal.loop-k-init
loop-k-init c =
    (c.arity_of-arity.ensures, xored-start c.args.transitions.now c.args.at c.args.y)

pub loop-k-preserved : goal.loop-k-preserved
loop-k-preserved c = (
  c.loop-k.invariant.0,
  ap (λ (m : ℕ). xored (args_from c.args.transitions.now c.args.at (c.loop-k.k + 1))
      (c.loop-k.k + 1) (bit_xor c.loop-k.all m)) c.scaled-all.ensures
      ∙ sym (xored-next c.args.transitions.now c.args.at c.loop-k.k c.loop-k.all
      (omega (arith, c.loop-k.invariant.0)) c.arg_of.ensures.value)
      ∙ c.loop-k.invariant.1,
)

pub returns : goal.returns
returns c =
    sym (xored-end c.args.transitions.now c.args.at c.loop-k.k c.loop-k.all
    (omega (arith, c.loop-k.invariant.0))) ∙ c.loop-k.invariant.1

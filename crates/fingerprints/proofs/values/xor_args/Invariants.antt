-- `fingerprints::values::xor_args` meets its contract: with the arguments from `k` on, what is there gives the whole.
use Rattle.std.proofs.Common.{◌≡◌}
use Rattle.fingerprints.specs.Fingerprints.{xored}
use Rattle.fingerprints.proofs.Arguments.{args_from}
use Rattle.table.specs.Layout.{arity_of, transition_at}
use Rattle.fingerprints.proofs.values.xor_args.Given as goal

abbrev pub invariant-loop-k : goal.invariant-loop-k
invariant-loop-k l = (l.arity ≡ arity_of l.transitions l.at) ×
    (xored (args_from l.transitions l.at l.k) l.k l.all ≡ xored (transition_at l.transitions l.at).args 0 l.y)

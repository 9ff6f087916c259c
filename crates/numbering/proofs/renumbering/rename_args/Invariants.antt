-- `numbering::renumbering::rename_args` meets its contract: the first k arguments have their numbers.
use Rattle.numbering.proofs.Numbers.{ArgsRenamed}
use Rattle.numbering.proofs.renumbering.rename_args.Given as goal

abbrev pub invariant-loop-k : goal.invariant-loop-k
invariant-loop-k l = ArgsRenamed l.numbers l.args l.arity l.whole l.v l.k

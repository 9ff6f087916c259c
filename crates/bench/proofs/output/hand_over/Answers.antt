-- `bench::output::hand_over` meets its contract.
use Rattle.std.proofs.Common.{rules}
use Rattle.bench.specs.Output.{HandedAll}
use Rattle.bench.proofs.output.hand_over.Goals as goal

pub returns-in_err-write_all : goal.returns-in_err-write_all
unfolding HandedAll
returns-in_err-write_all c = search rules

pub returns : goal.returns
unfolding HandedAll
returns c = search rules

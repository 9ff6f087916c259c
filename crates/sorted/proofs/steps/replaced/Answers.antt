-- `sorted::steps::replaced` meets its contract: the entry is the transition with argument k replaced.
use Rattle.fields.proofs.Entries.{then-arg}
use Rattle.sorted.proofs.Stepping.{replaced-output}
use Rattle.sorted.proofs.steps.replaced.Goals as goal

pub returns : goal.returns
returns c =
    replaced-output c.args.transitions.now c.args.count c.args.at c.args.k c.args.q
    (then-arg c.entry_at-entry.ensures c.args.k c.args.q c.put_arg.ensures) c.requires.k_bound
    c.requires.readable.narrow c.output.ensures

-- `partition::repairing::repair` meets its contract: step i repairs transition i.
use Rattle.std.proofs.Common.{rules}
use Rattle.partition.specs.Parts.{Grouped}
use Rattle.partition.specs.Splits.{Mates, StableLine}
use Rattle.partition.proofs.Splitting.{split-mates, steps-split}
use Rattle.partition.proofs.repairing.repair.Goals as goal

pub sweep-requires : goal.sweep-requires
sweep-requires c = λ i p r h t.
    let u = steps-split {s = c.args.transitions.now} {n = c.args.n} {c = c.args.count}
    (StableLine c.args.transitions.now c.args.n c.args.count) i c.requires.grouped (λ j p q x l e. search rules) t in
    let grouped : Grouped c.args.n p.now = u.grouped in
    let mates : Mates c.args.n p.now c.mated_states-mated.result = split-mates u c.mated_states-mated.ensures in
    search rules

pub returns : goal.returns
returns c =
    steps-split {s = c.args.transitions.now} {n = c.args.n} {c = c.args.count}
    (StableLine c.args.transitions.now c.args.n c.args.count) c.args.count c.requires.grouped
    (λ j p q x l e. search rules) c.sweep.ensures

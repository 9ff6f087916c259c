-- `partition::repairing::repair_line` meets its contract: step k repairs argument k.
use Rattle.std.proofs.Common.{rules}
use Rattle.partition.specs.Parts.{Grouped}
use Rattle.partition.specs.Splits.{Mates, Stable}
use Rattle.partition.proofs.Splitting.{split-mates, steps-split}
use Rattle.partition.proofs.repairing.repair_line.Goals as goal

pub sweep-requires : goal.sweep-requires
sweep-requires c = λ k p r h t.
    let u = steps-split {s = c.args.transitions.now} {n = c.args.n} {c = c.args.count}
    (Stable c.args.transitions.now c.args.n c.args.count c.args.i) k c.requires.grouped (λ j p q x l e. search rules) t in
    let grouped : Grouped c.args.n p.now = u.grouped in
    let mates : Mates c.args.n p.now c.args.mated.now = split-mates u c.requires.mates in
    search rules

pub returns : goal.returns
returns c =
    rw c.arity_of-arity.ensures at
    (steps-split {s = c.args.transitions.now} {n = c.args.n} {c = c.args.count}
    (Stable c.args.transitions.now c.args.n c.args.count c.args.i) c.arity_of-arity.result c.requires.grouped
    (λ j p q x l e. search rules) c.sweep.ensures)

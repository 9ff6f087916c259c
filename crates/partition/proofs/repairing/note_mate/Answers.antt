-- `partition::repairing::note_mate` meets its contract: q leads, or it and its leader are marked.
use mathlib.Core.Path.{◌∙◌, sym}
use native.Mathlib.Omega.{arith}
use Rattle.partition.proofs.Filling.{noted-both, noted-none}
use Rattle.partition.proofs.repairing.note_mate.Goals as goal

pub returns-then-lead-q : goal.returns-then-lead-q
returns-then-lead-q c = noted-none (sym c.from-lead.ensures ∙ c.if-lead-q.true)

pub bounds-mated-lead : goal.bounds-mated-lead
bounds-mated-lead c =
    omega (arith, c.from-lead.ensures, c.requires.q_bound, c.requires.q_bound_2)

pub returns : goal.returns
returns c =
    noted-both (omega (arith, c.requires.mated_len, c.requires.q_bound))
    (omega (arith, c.requires.mated_len, c.from-lead.ensures, c.requires.q_bound, c.requires.q_bound_2))
    c.from-lead.ensures

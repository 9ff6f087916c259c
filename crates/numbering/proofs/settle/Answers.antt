-- `numbering::settle` meets its contract: transitions that pass the check are right by the rule.
use Rattle.numbering.proofs.Rebuilt.{numbered-bytes, settled, settled-holds}
use Rattle.std.proofs.Common.{rules}
use Rattle.numbering.proofs.settle.Goals as goal

pub renumber-requires-clause-all_bytes : goal.renumber-requires-clause-all_bytes
renumber-requires-clause-all_bytes c =
    numbered-bytes (c.number_names.ensures c.if-not-number_names.false) (search rules) c.requires.states_le_max_states

pub invariant_of-sorted : goal.invariant_of-sorted
invariant_of-sorted c = record {
  holds = settled-holds (c.renumber.ensures.renumbered c.if-not-renumber.false) c.sort.ensures.picked;
}

pub returns : goal.returns
returns c =
    λ e. settled (search rules) c.requires.states_le_max_states (c.number_names.ensures
    c.if-not-number_names.false) (c.renumber.ensures.renumbered c.if-not-renumber.false)
    c.sort.ensures.picked (c.sound.ensures e)

-- `partition::repairing::repair_at` meets its contract: the argument has its part for itself, or agrees with its
-- leader, or the part is split by where the slot takes its states.
use mathlib.Core.Path.{◌∙◌, ap, subst, sym}
use Prim.Native.Nat.{◌≤◌, ℕ}
use native.Mathlib.Omega.{arith}
use Rattle.marking.specs.Marks.{marked}
use Rattle.partition.specs.Parts.{part_of}
use Rattle.partition.specs.Splits.{PartKeys, part_to}
use Rattle.fields.proofs.Transitions.{readable}
use Rattle.marking.proofs.Sweeps.{nonzero-false}
use Rattle.partition.proofs.Slotted.{led-stable, lone-stable, split_at}
use Rattle.partition.proofs.Splitting.{split-none}
use Rattle.partition.proofs.repairing.repair_at.Goals as goal

pub arg_of-a-requires : goal.arg_of-a-requires
arg_of-a-requires c =
    let read = readable c.requires.holds_transitions_over.runs c.args.i c.requires.i_lt_count in
    record {
      transition_bytes_in_bounds = read.inside;
      k_lt_max_arity = omega (arith, read.narrow, c.requires.k_bound);
    }

pub returns-then-mated-a-eq0 : goal.returns-then-mated-a-eq0
returns-then-mated-a-eq0 c =
    let s = c.args.transitions.now in
    let a = c.arg_of-a.ensures.value in
    split-none c.requires.grouped
    (lone-stable s c.args.n c.args.count c.requires.holds_transitions_over c.requires.sorted.rises c.args.i
    c.args.k c.requires.i_lt_count c.requires.k_bound c.requires.grouped c.requires.mates
    (ap (marked c.args.mated.now) (sym a) ∙ nonzero-false _ c.if-mated-a-eq0.true))

pub leader_agrees-requires : goal.leader_agrees-requires
leader_agrees-requires c =
    let a = c.arg_of-a.ensures.value in
    let b = c.requires.holds_transitions_over.arg-state c.args.i c.args.k c.requires.i_lt_count
    c.requires.k_bound in
    let d = c.requires.grouped.below c.arg_of-a.result (omega (arith, a, b)) in
    let small : c.from-lead.result ≤ 255 = omega (arith, c.from-lead.ensures, d, c.requires.grouped.few, a, b) in
    record {
      sorted = c.requires.sorted;
      holds_transitions_over = c.requires.holds_transitions_over;
      n_bound = c.requires.grouped.few;
      i_lt_count = c.requires.i_lt_count;
      k_bound = c.requires.k_bound;
      lead_bound = small;
    }

pub returns-then-leader_agrees : goal.returns-then-leader_agrees
returns-then-leader_agrees c =
    let s = c.args.transitions.now in
    let e = c.from-lead.ensures ∙ ap (part_of c.args.parts.now) c.arg_of-a.ensures.value in
    split-none c.requires.grouped
    (led-stable s c.args.n c.args.count c.requires.holds_transitions_over c.requires.sorted.rises c.args.i
    c.args.k c.requires.i_lt_count c.requires.k_bound c.requires.grouped
    (λ d. c.leader_agrees.ensures.k_nonzero c.if-leader_agrees.true (d ∙ sym e))
    (ap (part_to s c.args.count c.args.parts.now c.args.i c.args.k) (sym e)
    ∙ c.leader_agrees.ensures.lead_value c.if-leader_agrees.true))

pub part_keys-keys-requires : goal.part_keys-keys-requires
part_keys-keys-requires c = record {
  sorted = c.requires.sorted;
  holds_transitions_over = c.requires.holds_transitions_over;
  n_bound = c.requires.grouped.few;
  i_lt_count = c.requires.i_lt_count;
  k_bound = c.requires.k_bound;
}

pub returns : goal.returns
returns c =
    let s = c.args.transitions.now in
    let m = c.args.parts.now in
    let e = c.from-lead.ensures ∙ ap (part_of m) c.arg_of-a.ensures.value in
    split_at s c.args.n c.args.count c.requires.holds_transitions_over c.requires.sorted.rises c.args.i
    c.args.k c.requires.i_lt_count c.requires.k_bound c.requires.grouped
    (subst (λ (lead : ℕ). PartKeys s c.args.n c.args.count m c.args.i c.args.k lead
    c.part_keys-keys.result) e c.part_keys-keys.ensures)
    c.regroup.ensures

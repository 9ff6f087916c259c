-- `partition::repairing::part_to` meets its contract: the argument leads to the output, another state where the search
-- says.
use mathlib.Core.Path.{◌∙◌, ap, sym}
use Prim.Native.Nat.{◌*◌}
use native.Mathlib.Omega.{arith}
use Rattle.fields.proofs.Transitions.{readable}
use Rattle.format.specs.Format.{transition_bytes}
use Rattle.partition.specs.Parts.{part_of}
use Rattle.sorted.specs.Steps.{step_at}
use Rattle.partition.proofs.Slotted.{own-part}
use Rattle.partition.proofs.repairing.part_to.Goals as goal

pub arg_of-requires : goal.arg_of-requires
arg_of-requires c =
    let read = readable c.requires.holds_transitions_over.runs c.args.i c.requires.i_lt_count in
    record {
      transition_bytes_in_bounds = read.inside;
      k_lt_max_arity = omega (arith, read.narrow, c.requires.k_bound);
    }

pub returns-then-arg_of-q : goal.returns-then-arg_of-q
returns-then-arg_of-q c =
    let m = c.args.parts.now in
    let e = sym c.arg_of.ensures.value ∙ c.if-arg_of-q.true in
    ap (part_of m) (
    c.out_of.ensures.value
    ∙ sym (own-part c.args.transitions.now c.args.n c.args.count c.requires.holds_transitions_over
    c.requires.sorted.rises c.args.i c.args.k c.requires.i_lt_count c.requires.k_bound
    c.requires.n_bound)
    ∙ ap (step_at c.args.transitions.now c.args.count (transition_bytes * c.args.i) c.args.k) e
    )

pub returns : goal.returns
returns c =
    ap (part_of c.args.parts.now) (c.from.ensures ∙ c.stepped.ensures)

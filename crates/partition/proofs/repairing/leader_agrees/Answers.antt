-- `partition::repairing::leader_agrees` meets its contract: if it says so, both hold.
use mathlib.Core.Bool.{false≢true}
use mathlib.Core.Path.{◌∙◌, ap, sym}
use native.Mathlib.Omega.{arith}
use borrow.Author.Tests.{eqb-true}
use Rattle.fields.proofs.Transitions.{readable}
use Rattle.partition.specs.Parts.{part_of}
use Rattle.partition.proofs.repairing.leader_agrees.Goals as goal

pub arg_of-requires : goal.arg_of-requires
arg_of-requires c =
    let read = readable c.requires.holds_transitions_over.runs c.args.i c.requires.i_lt_count in
    record {
      transition_bytes_in_bounds = read.inside;
      k_lt_max_arity = omega (arith, read.narrow, c.requires.k_bound);
    }

pub returns-then-arg_of-lead : goal.returns-then-arg_of-lead
returns-then-arg_of-lead c = record { k_nonzero = λ e. absurd (false≢true e); lead_value = λ e. absurd (false≢true e) }

pub returns : goal.returns
returns c =
    let a = c.arg_of.ensures.value in
    record {
      k_nonzero = λ e d. c.if-arg_of-lead.false (a ∙ d);
      lead_value = λ e. sym c.part_to-to.ensures ∙ eqb-true _ _ e
          ∙ ap (part_of c.args.parts.now) c.out_of.ensures.value;
    }

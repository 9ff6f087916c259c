use Rattle.format.specs.Format.{transition_bytes}
use Rattle.std.proofs.Common.{ℕ, ◌*◌, ap, ◌∙◌, arith}
use Rattle.fields.proofs.Transitions.{readable}
use Rattle.fingerprints.specs.Fingerprints.{salted, xored}
use Rattle.fingerprints.proofs.Adding.{filling-end, filling-next, filling-start, gain-end, gain-start}
use Rattle.fingerprints.proofs.Adding.{gain-step}
use Rattle.table.specs.Layout.{nth_transition}
use Rattle.fingerprints.proofs.prints.add_uses.Goals as goal

pub xor_args-all-requires : goal.xor_args-all-requires
xor_args-all-requires c =
    readable c.requires.holds_transitions_over.runs c.args.i c.requires.i_lt_count

pub loop-k-init : goal.loop-k-init
loop-k-init c = (
  c.arity_of-arity.ensures,
  c.xor_args-all.ensures ∙ ap (xored (nth_transition c.args.transitions.now c.args.i).args 0)
      (c.salt-s.ensures ∙ ap (λ (l : ℕ). salted l c.args.x) (c.from.ensures
      ∙ c.label_of.ensures.value)),
  filling-start c.requires.prints (λ q. gain-start c.args.transitions.now (transition_bytes * c.args.i) c.args.x q),
)

pub arg_of-q-requires : goal.arg_of-q-requires
arg_of-q-requires c =
    let r = readable c.requires.holds_transitions_over.runs c.args.i c.requires.i_lt_count in
    record {
      transition_bytes_in_bounds = r.inside;
      k_lt_max_arity = omega (arith, r.narrow, c.loop-k.invariant.0);
    }

pub scaled-requires : goal.scaled-requires
scaled-requires c =
    let r = readable c.requires.holds_transitions_over.runs c.args.i c.requires.i_lt_count in
    record {
      q_bound = c.arg_of-q.ensures.upper_bound;
      k_lt_max_arity = omega (arith, r.narrow, c.loop-k.invariant.0);
    }

pub add-requires : goal.add-requires
add-requires c = record {
  prints = c.loop-k.invariant.2.prints;
  q_bound = omega (arith, c.arg_of-q.ensures.upper_bound);
}

pub loop-k-preserved : goal.loop-k-preserved
loop-k-preserved c = (
  c.loop-k.invariant.0,
  c.loop-k.invariant.1,
  filling-next c.loop-k.invariant.2 c.add.ensures (gain-step c.args.transitions.now
      (transition_bytes * c.args.i) c.args.x c.loop-k.k (omega (arith, c.loop-k.invariant.0))
      c.arg_of-q.ensures.value c.loop-k.invariant.1 c.scaled.ensures
      c.value.ensures),
)

pub returns : goal.returns
returns c =
    filling-end c.loop-k.invariant.2 (λ q. gain-end c.args.transitions.now (transition_bytes * c.args.i) c.args.x c.loop-k.k q (omega (arith, c.loop-k.invariant.0)))

-- The argument's digit is taken away.
use native.Mathlib.Omega.{arith}
use mathlib.Core.Path.{◌∙◌, ap, refl}
use Prim.Native.Nat.{◌*◌, ◌-◌, ◌^◌, ℕ}
use Rattle.format.specs.Format.{transition_bytes}
use Rattle.packed.proofs.Exchange.{place_inside}
use Rattle.uses.proofs.using.slot_at.Goals as goal

pub at_place-requires : goal.at_place-requires
at_place-requires c = record {
  q_lt_byte_values = omega (arith, c.from.ensures, c.ranges.p);
  k_lt_max_arity = omega (
    arith,
    c.requires.searchable.padded.runs.narrow c.args.i
        c.requires.i_lt_count,
    c.requires.k_bound,
  );
}

pub overflow_sub-args : goal.overflow_sub-args
overflow_sub-args c =
    let out = c.at_place.ensures ∙ ap (λ (v : ℕ). v * 2 ^ (8 * (7 -
    c.args.k))) (c.from.ensures
    ∙ c.requires.p_value) in
    omega (
      arith,
      out,
      c.args_at.ensures,
      place_inside
          c.args.transitions.now (transition_bytes *
          c.args.i) c.args.k
          (c.requires.searchable.padded.each
          c.args.i c.requires.i_lt_count)
          c.requires.k_bound,
    )

pub returns : goal.returns
returns c =
    let out = c.at_place.ensures ∙ ap (λ (v : ℕ). v * 2 ^ (8 * (7 -
    c.args.k))) c.from.ensures in
    record {
      meta_value = c.meta_at-meta.ensures;
      args_value = omega (
        arith,
        out,
        c.args_at.ensures,
      );
      place_value = refl;
      out_value = c.out_of-out.ensures.value;
    }

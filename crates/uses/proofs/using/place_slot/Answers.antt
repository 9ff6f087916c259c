-- A use that is not covered gives a slot; any other place gives none.
use native.Mathlib.Omega.{arith}
use mathlib.Core.Path.{◌∙◌, sym}
use Rattle.fields.proofs.Transitions.{readable}
use Rattle.uses.specs.Settings.{arrays_of}
use Rattle.uses.proofs.UseSlots.{used-slot}
use Rattle.uses.proofs.using.place_slot.Goals as goal

pub arg_of-requires : goal.arg_of-requires
arg_of-requires c =
    let r = readable c.args.used.now.over.runs c.args.i c.requires.i_lt_count in
    record {
      transition_bytes_in_bounds = r.inside;
      k_lt_max_arity = omega
          (arith, r.narrow, c.requires.k_bound);
    }

pub is_covered-requires : goal.is_covered-requires
is_covered-requires c = record {
  readable = readable c.args.used.now.over.runs c.args.i
      c.requires.i_lt_count;
  nodes = c.args.used.now.nodes;
  k_bound = c.requires.k_bound;
  framed = c.requires.framed;
}

pub returns : goal.returns
returns c =
    used-slot (arrays_of c.args.used.now.subtrees.now c.args.used.now.weights.now c.args.j 0) c.args.used.now.searchable c.args.used.now.over c.args.i c.args.k c.requires.i_lt_count c.requires.k_bound (sym
    c.from.ensures ∙ sym c.if-arg_of-from.false
    ∙ c.arg_of.ensures.value) (sym c.is_covered.ensures
    ∙ c.if-is_covered.false) c.slot_at.result c.slot_at.ensures.meta_value c.slot_at.ensures.args_value c.slot_at.ensures.place_value c.slot_at.ensures.out_value

-- An argument is p, or q, or neither.
use mathlib.Core.Path.{◌∙◌, sym}
use Prim.Native.Nat.{◌*◌}
use native.Mathlib.Omega.{arith}
use Rattle.format.specs.Format.{transition_bytes}
use Rattle.fields.proofs.Transitions.{readable}
use Rattle.uses.specs.Settings.{arrays_in}
use Rattle.uses.proofs.Scanned.{own-either, place-either, place_other}
use Rattle.uses.proofs.swapping.place_agrees.Goals as goal

pub arg_of-arg-requires : goal.arg_of-arg-requires
arg_of-arg-requires c =
    let r = readable c.args.setting.now.over.runs c.args.i c.requires.i_lt_count in
    record {
      transition_bytes_in_bounds = r.inside;
      k_lt_max_arity = omega (arith, r.narrow, c.requires.k_bound);
    }

pub returns-then-is_neither : goal.returns-then-is_neither
returns-then-is_neither c =
    place_other (arrays_in c.args.setting.now c.args.frames) c.args.setting.now.transitions.now c.args.setting.now.count (transition_bytes * c.args.i) c.args.p c.args.q c.args.k
    c.arg_of-arg.ensures.value (sym c.is_neither.ensures ∙ c.if-is_neither.true)

pub swap_agrees-requires : goal.swap_agrees-requires
swap_agrees-requires c =
    let arg = c.arg_of-arg in
    let none = sym c.is_neither.ensures ∙ c.if-is_neither.false in
    let own = own-either arg.result c.args.p c.args.q none c.either-x.ensures
    ∙ arg.ensures.value in
    record {
      framed = c.requires.framed;
      i_lt_count = c.requires.i_lt_count;
      k_bound = c.requires.k_bound;
      meta_value = c.requires.meta_value;
      args_value = c.requires.args_value;
      x_value = own;
    }

pub returns : goal.returns
returns c =
    let none = sym c.is_neither.ensures ∙ c.if-is_neither.false in
    place-either (arrays_in c.args.setting.now c.args.frames) c.args.setting.now.transitions.now c.args.setting.now.count (transition_bytes * c.args.i) c.args.p c.args.q c.args.k
    c.arg_of-arg.ensures.value none c.either-y.ensures
    c.swap_agrees.ensures

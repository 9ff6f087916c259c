-- Equal outputs agree; different ones do if the slot is covered.
use Prim.Native.Nat.{◌*◌}
use Rattle.format.specs.Format.{transition_bytes}
use Rattle.fields.proofs.Transitions.{readable}
use Rattle.uses.specs.Settings.{arrays_in}
use Rattle.uses.proofs.Both.{shaped-nodes}
use Rattle.uses.proofs.Scanned.{swap-covered, swap-same}
use Rattle.uses.proofs.swapping.swap_agrees.Goals as goal

pub swapped_out-out-requires : goal.swapped_out-out-requires
swapped_out-out-requires c = record {
  i_lt_count = c.requires.i_lt_count;
  k_bound = c.requires.k_bound;
  meta_value = c.requires.meta_value;
  args_value = c.requires.args_value;
  x_value = c.requires.x_value;
}

pub returns-then-out-out_of : goal.returns-then-out-out_of
returns-then-out-out_of c =
    swap-same (arrays_in c.args.setting.now c.args.frames) c.args.setting.now.transitions.now c.args.setting.now.count (transition_bytes * c.args.i) c.args.k c.args.y
    c.swapped_out-out.ensures c.out_of.ensures.value c.if-out-out_of.true

pub is_covered-requires : goal.is_covered-requires
is_covered-requires c = record {
  readable = readable c.args.setting.now.over.runs c.args.i c.requires.i_lt_count;
  nodes = shaped-nodes c.args.setting.now.shaped;
  k_bound = c.requires.k_bound;
  framed = c.requires.framed;
}

pub returns : goal.returns
returns c =
    swap-covered (arrays_in c.args.setting.now c.args.frames) c.args.setting.now.transitions.now c.args.setting.now.count (transition_bytes * c.args.i) c.args.k c.args.y
    c.swapped_out-out.ensures c.out_of.ensures.value c.if-out-out_of.false
    c.is_covered.ensures

use Rattle.std.proofs.Common.{◌≡◌, arith}
use Rattle.fields.proofs.Transitions.{readable}
use Rattle.validity.proofs.grounding.block_all.Goals as goal

pub block-requires : goal.block-requires
block-requires c = record {
  readable = readable c.requires.holds_transitions c.loop-i.i (omega arith);
  blocks = c.loop-i.invariant;
}

pub returns : goal.returns
returns c = let e : c.loop-i.i ≡ c.args.count = omega arith in rw e at c.loop-i.invariant

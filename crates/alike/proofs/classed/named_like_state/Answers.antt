-- `alike::classed::named_like_state` meets its contract: the class, then the frames.
use native.Mathlib.Omega.{arith}
use lib.ListN.{get_or}
use Rattle.subtrees.specs.Store.{tree_numbered}
use Prim.Native.Nat.{◌-◌}
use Rattle.alike.proofs.Criterion.{numbered-class, state-named, state-names, state-other}
use Rattle.alike.proofs.FrameNames.{numbered-parents}
use Rattle.alike.proofs.classed.named_like_state.Goals as goal

pub returns-then-not-same_class : goal.returns-then-not-same_class
returns-then-not-same_class c =
    λ A t ts S N e holds known mine other.
    state-other A t S N (tree_numbered ts c.args.j) c.args.q (get_or c.args.setting.now.classes.now (c.from-number.result - 1) 0) c.args.class
    (numbered-class c.args.setting.now.classes.now c.from-number.ensures mine) other c.same_class.ensures c.if-not-same_class.true

pub frames_agree-requires : goal.frames_agree-requires
frames_agree-requires c = record {
  parents_within = numbered-parents c.from-number.ensures c.requires.parents_within;
  numbered = tt;
}

pub returns : goal.returns
returns c =
    λ A t ts S N e holds known mine other.
    let r = c.frames_agree.ensures A t ts N c.args.j e holds known (omega arith) tt in
    state-named A t S N (tree_numbered ts c.args.j) c.args.q (get_or c.args.setting.now.classes.now (c.from-number.result - 1) 0) c.args.class
    (numbered-class c.args.setting.now.classes.now c.from-number.ensures mine) other c.same_class.ensures c.if-not-same_class.false
    (state-names holds N c.args.j c.requires.le_j c.requires.j_le_m c.args.q c.from-number.ensures r)

-- `alike::classed::named_like_subtree` meets its contract: the class, then the frames of each.
use native.Mathlib.Omega.{arith}
use Prim.Native.Nat.{◌-◌}
use lib.ListN.{get_or}
use Rattle.subtrees.specs.Store.{tree_numbered}
use Rattle.alike.proofs.Criterion.{numbered-class, subtree-first, subtree-named, subtree-names, subtree-other, turned-names}
use Rattle.alike.proofs.FrameNames.{numbered-parents}
use Rattle.alike.proofs.classed.named_like_subtree.Goals as goal

pub returns-then-not-same_class : goal.returns-then-not-same_class
returns-then-not-same_class c =
    let cl = c.args.setting.now.classes.now in
    let w = c.from-first in
    let w2 = c.from-second in
    λ A t ts S N e holds known mine other.
    subtree-other t S N (tree_numbered ts c.args.j) (tree_numbered ts c.args.v) (get_or cl (w.result - 1) 0)
    (get_or cl (w2.result - 1) 0) (numbered-class cl w.ensures mine) (numbered-class cl w2.ensures other)
    c.same_class.ensures c.if-not-same_class.true

pub frames_agree-requires : goal.frames_agree-requires
frames_agree-requires c = record {
  parents_within = numbered-parents c.from-first.ensures c.requires.parents_within;
  numbered = (omega arith, c.requires.v_le_m);
}

pub returns-then-not-frames_agree : goal.returns-then-not-frames_agree
returns-then-not-frames_agree c =
    let cl = c.args.setting.now.classes.now in
    let w = c.from-first in
    let w2 = c.from-second in
    λ A t ts S N e holds known mine other.
    let r = c.frames_agree.ensures A t ts N c.args.j e holds known (omega (arith, w.ensures)) (omega arith) in
    subtree-first t S N (tree_numbered ts c.args.j) (tree_numbered ts c.args.v) (get_or cl (w.result - 1) 0)
    (get_or cl (w2.result - 1) 0) (numbered-class cl w.ensures mine) (numbered-class cl w2.ensures other)
    c.same_class.ensures c.if-not-same_class.false
    (subtree-names holds N c.args.j c.requires.le_j (omega arith) c.args.v w.ensures r) c.if-not-frames_agree.true

pub frames_agree-requires-2 : goal.frames_agree-requires-2
frames_agree-requires-2 c = record {
  parents_within = numbered-parents c.from-second.ensures c.requires.parents_within_2;
  numbered = (c.requires.le_j, omega arith);
}

pub returns : goal.returns
returns c =
    let cl = c.args.setting.now.classes.now in
    let w = c.from-first in
    let w2 = c.from-second in
    λ A t ts S N e holds known mine other.
    let r = c.frames_agree.ensures A t ts N c.args.j e holds known (omega (arith, w.ensures)) (omega arith) in
    let r2 = c.frames_agree-2.ensures A t ts N c.args.j e holds known (omega (arith, w2.ensures)) (omega arith) in
    subtree-named t S N (tree_numbered ts c.args.j) (tree_numbered ts c.args.v) (get_or cl (w.result - 1) 0)
    (get_or cl (w2.result - 1) 0) (numbered-class cl w.ensures mine) (numbered-class cl w2.ensures other)
    c.same_class.ensures c.if-not-same_class.false
    (subtree-names holds N c.args.j c.requires.le_j (omega arith) c.args.v w.ensures r) c.if-not-frames_agree.false
    (turned-names holds N c.args.v (omega arith) c.requires.v_le_m c.args.j w2.ensures r2)

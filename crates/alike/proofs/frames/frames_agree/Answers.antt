use native.Mathlib.Omega.{arith}
use mathlib.Core.Path.{◌∙◌, sym}
use Rattle.lists.proofs.Loops.{every-broken, every-end, every-next}
use Rattle.alike.proofs.FrameNames.{parents-within}
use Rattle.alike.proofs.frames.frames_agree.Goals as goal

pub loop-i-init : goal.loop-i-init
loop-i-init c = (
  omega arith,
  λ A t ts N j e holds known above sub. parents-within A N ts c.args.setting.now.subtrees.now.labels c.args.setting.now.subtrees.now.arities c.args.setting.now.subtrees.now.children
      c.args.a c.args.x c.requires.parents_within,
)

pub parent_agrees-requires : goal.parent_agrees-requires
parent_agrees-requires c = record {
  i_lt_m = omega (arith, c.requires.parents_within.known);
  numbered = c.requires.numbered;
}

pub returns-then-not-parent_agrees : goal.returns-then-not-parent_agrees
returns-then-not-parent_agrees c =
    λ A t ts N j e holds known above sub. every-broken (c.loop-i.invariant.1 A t ts N j e holds known above sub) (omega arith)
    (sym (c.parent_agrees.ensures A t ts N j e holds known above sub) ∙ c.if-not-parent_agrees.true)

pub loop-i-preserved : goal.loop-i-preserved
loop-i-preserved c =
    let now = c.loop-i in (
      omega (arith, now.invariant.0),
      λ A t ts N j e holds known above sub. every-next (now.invariant.1 A t ts N j e holds known above sub) (omega arith)
          (sym (c.parent_agrees.ensures A t ts N j e holds known above sub) ∙ c.if-not-parent_agrees.false),
    )

pub returns : goal.returns
returns c =
    λ A t ts N j e holds known above sub. every-end (c.loop-i.invariant.1 A t ts N j e holds known above sub)
    (omega (arith, c.loop-i.invariant.0))

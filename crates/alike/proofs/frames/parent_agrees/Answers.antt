use native.Mathlib.Omega.{arith}
use mathlib.Core.Path.{◌∙◌, sym}
use lib.ListN.{get_or}
use Rattle.lists.proofs.Loops.{every-broken, every-end, every-next, every-start}
use Rattle.alike.proofs.frames.parent_agrees.Goals as goal

pub loop-k-init : goal.loop-k-init
loop-k-init c =
    (c.from-arity.ensures, λ A t ts N j e holds known above sub. every-start (get_or c.args.setting.now.subtrees.now.arities c.args.i 0) (omega arith))

pub place_agrees-requires : goal.place_agrees-requires
place_agrees-requires c = record {
  i_lt_m = c.requires.i_lt_m;
  k_bound = omega (arith, c.loop-k.invariant.0);
  numbered = c.requires.numbered;
}

pub returns-then-not-place_agrees : goal.returns-then-not-place_agrees
returns-then-not-place_agrees c =
    λ A t ts N j e holds known above sub. every-broken (c.loop-k.invariant.1 A t ts N j e holds known above sub) (omega (arith, c.loop-k.invariant.0))
    (sym (c.place_agrees.ensures A t ts N j e holds known above sub) ∙ c.if-not-place_agrees.true)

pub loop-k-preserved : goal.loop-k-preserved
loop-k-preserved c = (
  c.loop-k.invariant.0,
  λ A t ts N j e holds known above sub. every-next (c.loop-k.invariant.1 A t ts N j e holds known above sub) (omega (arith, c.loop-k.invariant.0))
      (sym (c.place_agrees.ensures A t ts N j e holds known above sub) ∙ c.if-not-place_agrees.false),
)

pub returns : goal.returns
returns c =
    λ A t ts N j e holds known above sub. every-end (c.loop-k.invariant.1 A t ts N j e holds known above sub) (omega (arith, c.loop-k.invariant.0))

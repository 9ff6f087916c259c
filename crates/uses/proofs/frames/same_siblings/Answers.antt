use lib.ListN.{get_or}
use Prim.Native.Nat.{◌<◌}
use native.Mathlib.Nat.{zero-add}
use native.Mathlib.Omega.{arith}
use Rattle.lists.proofs.Loops.{every-broken, every-end, every-next, every-start}
use Rattle.table.specs.Layout.{arity_of}
use mathlib.Core.Path.{◌∙◌, sym}
use Rattle.uses.proofs.frames.same_siblings.Goals as goal

pub loop-x-init : goal.loop-x-init
loop-x-init c =
    (c.arity_of-arity.ensures, every-start (arity_of c.args.transitions.now c.args.at) (zero-add (arity_of c.args.transitions.now c.args.at)))

pub same_sibling-requires : goal.same_sibling-requires
same_sibling-requires c =
    let h : c.loop-x.x < get_or c.args.subtrees.now.arities c.args.i 0 = omega (arith, c.loop-x.invariant.0, c.requires.i_value, c.loop-x-test.true) in
    record {
      readable = c.requires.readable;
      i_lt_max_nodes = omega (arith, c.requires.i_lt_m, c.requires.nodes.few);
      x_lt_max_arity = omega (arith, h, c.requires.nodes.narrow c.args.i c.requires.i_lt_m);
      bound = c.requires.nodes.child-some c.args.i c.loop-x.x c.requires.i_lt_m h;
      x_bound = omega (arith, c.requires.nodes.few, c.requires.nodes.child-known c.args.i c.loop-x.x c.requires.i_lt_m h);
    }

pub returns-then-not-same_sibling : goal.returns-then-not-same_sibling
returns-then-not-same_sibling c =
    every-broken c.loop-x.invariant.1 (omega (arith, c.loop-x.invariant.0)) (sym c.same_sibling.ensures ∙ c.if-not-same_sibling.true)

pub loop-x-preserved : goal.loop-x-preserved
loop-x-preserved c =
    (c.loop-x.invariant.0, every-next c.loop-x.invariant.1 (omega (arith, c.loop-x.invariant.0)) (sym c.same_sibling.ensures ∙ c.if-not-same_sibling.false))

pub returns : goal.returns
returns c =
    every-end c.loop-x.invariant.1 (omega (arith, c.loop-x.invariant.0))

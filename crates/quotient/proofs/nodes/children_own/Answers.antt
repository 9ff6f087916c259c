use native.Mathlib.Omega.{arith}
use mathlib.Core.Path.{◌∙◌, sym}
use lib.ListN.{get_or}
use Rattle.lists.proofs.Loops.{every-broken, every-end, every-next, every-start}
use Rattle.quotient.proofs.nodes.children_own.Goals as goal

pub loop-k-init : goal.loop-k-init
loop-k-init c =
    (c.from-arity.ensures, every-start (get_or c.args.named.now.subtrees.now.arities c.args.j 0) (omega arith))

pub overflow_add-j : goal.overflow_add-j
overflow_add-j c =
    omega (
      arith,
      c.loop-k.invariant.0,
      c.args.named.now.nodes.narrow c.args.j c.requires,
      c.args.named.now.nodes.few,
    )

pub bounds-named-j-in-loop-k : goal.bounds-named-j-in-loop-k
bounds-named-j-in-loop-k c =
    omega (
      arith,
      c.loop-k.invariant.0,
      c.args.named.now.nodes.narrow c.args.j c.requires,
      c.args.named.now.nodes.few,
    )

pub has_own-requires : goal.has_own-requires
has_own-requires c =
    let loop = c.loop-k in
    record {
      le_child = c.args.named.now.nodes.some c.args.j loop.k c.requires (omega (arith, loop.invariant.0));
      child_le_max_nodes = c.args.named.now.nodes.known c.args.j loop.k c.requires (omega (
        arith,
        loop.invariant.0,
        c.args.named.now.nodes.narrow c.args.j c.requires,
      ));
    }

pub returns-then-not-has_own : goal.returns-then-not-has_own
returns-then-not-has_own c =
    let loop = c.loop-k in
    every-broken loop.invariant.1 (omega (arith, loop.invariant.0)) (sym c.has_own.ensures ∙ c.if-not-has_own.true)

pub loop-k-preserved : goal.loop-k-preserved
loop-k-preserved c =
    let loop = c.loop-k in (
      loop.invariant.0,
      every-next loop.invariant.1 (omega (arith, loop.invariant.0)) (sym c.has_own.ensures ∙
          c.if-not-has_own.false),
    )

pub returns : goal.returns
returns c = every-end c.loop-k.invariant.1 (omega (arith, c.loop-k.invariant.0))

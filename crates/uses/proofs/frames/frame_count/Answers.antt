use native.Mathlib.Omega.{arith}
use Rattle.uses.proofs.Counting.{count_next, count_small}
use Rattle.uses.proofs.Framing.{frames-end, frames-start}
use Rattle.uses.proofs.frames.frame_count.Goals as goal

pub loop-i-init : goal.loop-i-init
loop-i-init c =
    frames-start c.args.transitions.now c.args.at c.args.k c.args.subtrees.now.labels c.args.subtrees.now.arities c.args.subtrees.now.children
    c.args.subtrees.now.states c.args.subtrees.now.count c.args.frames.first c.args.frames.second c.requires.k_bound c.requires.framed.first c.requires.framed.second

pub framed_at-found-requires : goal.framed_at-found-requires
framed_at-found-requires c = record {
  readable = c.requires.readable;
  nodes = c.requires.nodes;
  k_lt_max_arity = omega (arith, c.requires.readable.narrow, c.requires.k_bound);
  i_lt_m = omega (
    arith,
    c.requires.framed.first.known,
    c.loop-i-test.true,
  );
}

pub overflow_add-found : goal.overflow_add-found
overflow_add-found c =
    let h = count_small c.loop-i.invariant c.framed_at-found.ensures in omega (
      arith,
      h,
      c.requires.nodes.few,
      c.requires.framed.first.known,
      c.loop-i-test.true,
    )

pub loop-i-preserved : goal.loop-i-preserved
loop-i-preserved c =
    count_next c.loop-i.invariant (omega (
      arith,
      c.requires.framed.first.known,
      c.loop-i-test.true,
    )) c.framed_at-found.ensures

pub returns : goal.returns
returns c = record {
  value = frames-end c.args.transitions.now c.args.at c.args.k c.args.subtrees.now.labels c.args.subtrees.now.arities c.args.subtrees.now.children
      c.args.subtrees.now.states c.args.subtrees.now.count c.args.frames.first c.args.frames.second c.requires.k_bound c.requires.framed.first c.requires.framed.second c.loop-i.invariant c.loop-i-test.false;
  upper_bound = omega (arith, c.loop-i.invariant.within, c.requires.nodes.few);
}

-- `alike::like_subtree` meets its contract: the class and the names in the frames, then the uses.
use native.Mathlib.Omega.{arith}
use mathlib.Core.List.{◌++◌}
use Rattle.automata.specs.Alike.{frames_of, uses_agree}
use Rattle.automata.specs.Automaton.{run}
use Rattle.subtrees.specs.Store.{tree_numbered}
use Rattle.alike.proofs.Carried.{holds-subtrees}
use Rattle.alike.proofs.Criterion.{first-fails, like-subtree-parts, second-decides}
use Rattle.alike.proofs.like_subtree.Goals as goal

pub named_like_subtree-requires : goal.named_like_subtree-requires
named_like_subtree-requires c = record {
  le_j = c.requires.le_j;
  j_lt_v = c.requires.j_lt_v;
  v_le_m = c.requires.v_le_m;
  parents_within = c.requires.parents_within;
  parents_within_2 = c.requires.parents_within_2;
}

pub returns-then-not-named_like_subtree : goal.returns-then-not-named_like_subtree
returns-then-not-named_like_subtree c =
    λ A t ts S N holds known mine other.
    let u = tree_numbered ts c.args.j in
    let v = tree_numbered ts c.args.v in
    first-fails (uses_agree A t (frames_of t u ++ frames_of t v) (run A u) (run A v)) (c.named_like_subtree.ensures A t ts S N holds.transitions (holds-subtrees holds) known mine other)
    (like-subtree-parts A t S N u v) c.if-not-named_like_subtree.true

pub subtree_uses_agree-requires : goal.subtree_uses_agree-requires
subtree_uses_agree-requires c = record {
  le_j = c.requires.le_j;
  j_le_m = omega arith;
  le_v = omega arith;
  v_le_m = c.requires.v_le_m;
  fact = λ z. omega arith;
  parents_within = c.requires.parents_within;
  parents_within_2 = c.requires.parents_within_2;
}

pub returns : goal.returns
returns c =
    λ A t ts S N holds known mine other.
    second-decides (c.named_like_subtree.ensures A t ts S N holds.transitions (holds-subtrees holds) known mine other)
    (like-subtree-parts A t S N (tree_numbered ts c.args.j) (tree_numbered ts c.args.v)) c.if-not-named_like_subtree.false (c.subtree_uses_agree.ensures A t ts holds)

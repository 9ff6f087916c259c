-- `alike::like_state` meets its contract: the class and the names in the frames, then the uses.
use Rattle.automata.specs.Alike.{frames_of, uses_agree}
use Rattle.automata.specs.Automaton.{run}
use Rattle.subtrees.specs.Store.{tree_numbered}
use Rattle.alike.proofs.Carried.{holds-subtrees}
use Rattle.alike.proofs.Criterion.{first-fails, like-state-parts, second-decides}
use Rattle.alike.proofs.like_state.Goals as goal

pub named_like_state-requires : goal.named_like_state-requires
named_like_state-requires c = record {
  le_j = c.requires.le_j;
  j_le_m = c.requires.j_le_m;
  parents_within = c.requires.parents_within;
}

pub returns-then-not-named_like_state : goal.returns-then-not-named_like_state
returns-then-not-named_like_state c =
    λ A t ts S N holds known mine other.
    let u = tree_numbered ts c.args.j in
    first-fails (uses_agree A t (frames_of t u) (run A u) c.args.q) (c.named_like_state.ensures A t ts S N holds.transitions (holds-subtrees holds) known mine other)
    (like-state-parts A t S N u c.args.q) c.if-not-named_like_state.true

pub state_uses_agree-requires : goal.state_uses_agree-requires
state_uses_agree-requires c = record {
  le_j = c.requires.le_j;
  j_le_m = c.requires.j_le_m;
  parents_within = c.requires.parents_within;
}

pub returns : goal.returns
returns c =
    λ A t ts S N holds known mine other.
    second-decides (c.named_like_state.ensures A t ts S N holds.transitions (holds-subtrees holds) known mine other)
    (like-state-parts A t S N (tree_numbered ts c.args.j) c.args.q) c.if-not-named_like_state.false (c.state_uses_agree.ensures A t ts holds)

-- The frames of one subtree, and its state from the arrays.
use mathlib.Core.Path.{◌∙◌, ap}
use Prim.Native.Nat.{ℕ}
use Rattle.automata.specs.Alike.{frames_of, uses_agree}
use Rattle.subtrees.specs.Store.{tree_numbered}
use Rattle.uses.proofs.Both.{first-only, no-parents, shaped-nodes, state-read}
use Rattle.uses.proofs.state_uses_agree.Goals as goal

pub uses_agree-requires : goal.uses_agree-requires
uses_agree-requires c = record {
  framed = record {
    first = c.requires.parents_within;
    second = no-parents (shaped-nodes c.args.setting.now.shaped) c.requires.parents_within;
  };
}

pub returns : goal.returns
returns c =
    λ A t ts holds. c.uses_agree.ensures A t ts (frames_of t (tree_numbered ts c.args.j)) holds (first-only t ts
    c.args.setting.now.subtrees.now.count c.args.j c.requires.le_j c.requires.j_le_m) ∙ ap (λ (x : ℕ). uses_agree A t (frames_of t (tree_numbered ts
    c.args.j)) x c.args.q) (state-read holds c.args.j c.requires.le_j c.requires.j_le_m c.from.ensures)

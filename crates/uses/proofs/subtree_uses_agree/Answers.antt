-- The frames of two subtrees, and their states from the arrays.
use mathlib.Core.List.{◌++◌}
use mathlib.Core.Path.{◌∙◌, ap₂}
use Rattle.automata.specs.Alike.{frames_of, uses_agree}
use Rattle.subtrees.specs.Store.{tree_numbered}
use Rattle.uses.proofs.Both.{both-subtrees, state-read}
use Rattle.uses.proofs.subtree_uses_agree.Goals as goal

pub returns : goal.returns
returns c =
    λ A t ts holds. c.uses_agree.ensures A t ts (frames_of t (tree_numbered ts c.args.j) ++ frames_of t
    (tree_numbered ts c.args.v)) holds (both-subtrees t ts c.args.setting.now.subtrees.now.count c.args.j c.args.v c.requires.le_j c.requires.j_le_m c.requires.le_v
    c.requires.v_le_m c.requires.fact) ∙ ap₂ (uses_agree A t (frames_of t (tree_numbered ts c.args.j) ++ frames_of t
    (tree_numbered ts c.args.v))) (state-read holds c.args.j c.requires.le_j c.requires.j_le_m
    c.from.ensures) (state-read holds c.args.v c.requires.le_v c.requires.v_le_m
    c.from-2.ensures)

-- `answering::asked` meets its contract: what the state of the root says, and where the tree stops if it has none.
use mathlib.Core.Path.{◌∙◌, sym}
use native.Mathlib.Omega.{arith}
use Rattle.table.specs.Layout.{decode}
use Rattle.trees.specs.Listing.{read_tree}
use Rattle.running.proofs.Tables.{root-byte}
use Rattle.answering.proofs.Reading.{asked-approved, asked-part, asked-stopped}
use Rattle.answering.proofs.asked.Goals as goal

pub returns-then-q-eq0 : goal.returns-then-q-eq0
returns-then-q-eq0 c =
    let none = sym (root-byte c.requires.holds_states) ∙ c.if-q-eq0.true in
    asked-stopped (decode c.args.table.now) (read_tree c.args.tree.now) none
    (c.stop_place.ensures _ c.requires.holds_states none)

pub returns-then-accepts_state : goal.returns-then-accepts_state
returns-then-accepts_state c =
    let tree = read_tree c.args.tree.now in
    asked-approved (decode c.args.table.now) tree
    (sym (c.accepts_state.ensures tree (root-byte c.requires.holds_states)) ∙ c.if-accepts_state.true)

pub returns : goal.returns
returns c =
    let tree = read_tree c.args.tree.now in
    let root = root-byte c.requires.holds_states in
    asked-part (decode c.args.table.now) tree (λ e. absurd (omega (arith, root, e)))
    (sym (c.accepts_state.ensures tree root) ∙ c.if-accepts_state.false)

use mathlib.Core.Path.{◌∙◌}
use native.Mathlib.Omega.{arith}
use Rattle.listing.proofs.Reader.{children-bad, children-bad-later, children-good, children-none}
use Rattle.listing.proofs.Reader.{first_some, first-within, part-within, tree-bad, tree-good, tree-short}
use Rattle.lists.proofs.Parts.{part_length}
use Rattle.listing.proofs.+children_tree.Goals as goal

pub children-returns-then-count-eq0 : goal.children-returns-then-count-eq0
children-returns-then-count-eq0 t c = search children-none

pub children-returns-in_err-len : goal.children-returns-in_err-len
children-returns-in_err-len t c =
    c.from_residual.ensures ∙ children-bad _ _ c.if-count-eq0.false c.tree.ensures c.in_err-len.was

pub children-slice_bounds-children-count : goal.children-slice_bounds-children-count
children-slice_bounds-children-count t c = first-within _ c.tree.ensures c.in_ok-len.was

pub children-slice_bounds-children-start : goal.children-slice_bounds-children-start
children-slice_bounds-children-start t c = first-within _ c.tree.ensures c.in_ok-len.was

pub children-children-requires : goal.children-children-requires
children-children-requires t c =
    let s = c.args.s.now in
    let z = c.in_ok-len.was in
    let shorter = part_length s c.in_ok-len.len in
    (omega (arith, first_some s c.tree.ensures z, first-within s c.tree.ensures z, shorter, c.decreases), tt)

pub children-returns-in_err-more : goal.children-returns-in_err-more
children-returns-in_err-more t c =
    c.from_residual-in_err-more.ensures ∙
    children-bad-later _ _ c.if-count-eq0.false c.tree.ensures c.in_ok-len.was c.children.ensures c.in_err-more.was

pub children-overflow_add-result : goal.children-overflow_add-result
children-overflow_add-result t c =
    let s = c.args.s.now in
    let w = first-within s c.tree.ensures c.in_ok-len.was in
    let later = part-within s _ _ c.children.ensures c.in_ok-more.was w in
    omega (arith, c.well_formed.0.0)

pub children-returns : goal.children-returns
children-returns t c =
    children-good _ _ c.if-count-eq0.false c.tree.ensures c.in_ok-len.was c.children.ensures c.in_ok-more.was

pub tree-returns-then-s-lt-NODE_BYTES : goal.tree-returns-then-s-lt-NODE_BYTES
tree-returns-then-s-lt-NODE_BYTES t c = search tree-short

pub tree-returns-in_err-len : goal.tree-returns-in_err-len
tree-returns-in_err-len t c =
    c.from_residual.ensures ∙ tree-bad _ _ c.if-s-lt-NODE_BYTES.false
    (c.from-count.ensures ∙ c.children_at.ensures) c.children.ensures c.in_err-len.was

pub tree-overflow_add-result : goal.tree-overflow_add-result
tree-overflow_add-result t c =
    let s = c.args.s.now in
    let w = c.if-s-lt-NODE_BYTES.false in
    let later = part-within s _ _ c.children.ensures c.in_ok-len.was w in
    omega (arith, c.well_formed.0.0)

pub tree-returns : goal.tree-returns
tree-returns t c =
    tree-good _ _ c.if-s-lt-NODE_BYTES.false
    (c.from-count.ensures ∙ c.children_at.ensures) c.children.ensures c.in_ok-len.was

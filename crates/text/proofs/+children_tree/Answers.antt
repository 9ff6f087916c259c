use Rattle.std.specs.Prelude.{Err, Ok}
use Rattle.std.proofs.Common.{◌≡◌, arith, rules}
use Rattle.text.proofs.ChildrenReader.{children-broken, children-broken-later, children-count-fits}
use Rattle.text.proofs.ChildrenReader.{children-end, children-none, children-other, children-whole, later-ready}
use Rattle.text.proofs.TreeReader.{children-ready, tree-broken}
use Rattle.text.proofs.TreeReader.{tree-nameless}
use Rattle.text.proofs.TreeReader.{tree-none, tree-other, tree-whole}
use Rattle.text.proofs.+children_tree.Goals as goal

pub children-returns-then-place-line : goal.children-returns-then-place-line
children-returns-then-place-line t c = search children-none

pub children-returns-then-line-place-eq-CLOSE : goal.children-returns-then-line-place-eq-CLOSE
children-returns-then-line-place-eq-CLOSE t c = search children-end

pub children-returns-then-line-place-ne-SPACE : goal.children-returns-then-line-place-ne-SPACE
children-returns-then-line-place-ne-SPACE t c = search children-other

pub children-returns-in_err-first : goal.children-returns-in_err-first
children-returns-in_err-first t c = search (rules, children-broken)

pub children-children-requires : goal.children-children-requires
children-children-requires t c =
    later-ready _ _ _ _ c.requires c.if-place-line.false _ c.stepped-2.ensures c.if-line-place-ne-SPACE.false _ _
    c.in_ok-first.ensures t c.decreases

pub children-returns-in_err-others : goal.children-returns-in_err-others
children-returns-in_err-others t c =
    let read : c.children.result ≡ Err c.in_err-others.field-0.0 = grind arith in
    let left = rw read at c.children.ensures in
    search (rules, children-broken-later)

pub children-overflow_add-result : goal.children-overflow_add-result
children-overflow_add-result t c =
    let read : c.children.result ≡ Ok c.in_ok-others.others = grind arith in
    children-count-fits _ _ _ _ c.requires c.if-place-line.false _ c.stepped-2.ensures c.if-line-place-ne-SPACE.false _ _
    c.in_ok-first.ensures _ _ (rw read at c.children.ensures)

pub children-returns : goal.children-returns
children-returns t c =
    let read : c.children.result ≡ Ok c.in_ok-others.others = grind arith in
    children-whole _ _ _ _ c.requires c.if-place-line.false _ c.stepped-2.ensures c.if-line-place-ne-SPACE.false _ _
    c.in_ok-first.ensures _ _ (rw read at c.children.ensures)

pub tree-returns-then-open-line : goal.tree-returns-then-open-line
tree-returns-then-open-line t c = search tree-none

pub tree-returns-then-line-open-ne-OPEN : goal.tree-returns-then-line-open-ne-OPEN
tree-returns-then-line-open-ne-OPEN t c = search tree-other

pub tree-returns-in_default : goal.tree-returns-in_default
tree-returns-in_default t c =
    tree-nameless _ _ _ _ c.requires c.if-open-line.false c.if-line-open-ne-OPEN.false _ c.stepped-name.ensures
    c.in_default.ensures

pub tree-children-requires : goal.tree-children-requires
tree-children-requires t c =
    children-ready _ _ _ _ c.requires c.if-open-line.false c.if-line-open-ne-OPEN.false _ c.stepped-name.ensures _
    c.in-Some.ensures _ c.stepped-inside.ensures _ c.put_label.ensures t c.decreases

pub tree-returns-in_err-below : goal.tree-returns-in_err-below
tree-returns-in_err-below t c = search (rules, tree-broken)

pub tree-returns : goal.tree-returns
tree-returns t c =
    tree-whole _ _ _ _ c.requires c.if-open-line.false c.if-line-open-ne-OPEN.false _ c.stepped-name.ensures _
    c.in-Some.ensures _ c.stepped-inside.ensures _ c.put_label.ensures _ _ c.in_ok-below.ensures _ c.put.ensures

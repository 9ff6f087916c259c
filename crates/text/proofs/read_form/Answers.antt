-- `text::read_form` meets its contract: the head, then the tree, then the end of the line.
use Rattle.std.proofs.Common.{rules}
use Rattle.text.proofs.FormReader.{form-closed, form-headless, form-ready, form-refused, form-tree-on-line}
use Rattle.text.proofs.read_form.Goals as goal

pub returns-then-len-head : goal.returns-then-len-head
returns-then-len-head c = search form-headless

pub tree-requires : goal.tree-requires
tree-requires c = search form-ready

pub returns-in_err-read : goal.returns-in_err-read
returns-in_err-read c = search (rules, form-refused)

pub close_line-requires : goal.close_line-requires
close_line-requires c =
    form-tree-on-line _ _ c.requires.line_len_bound _ c.agreeing-len.ensures _ _ c.start.ensures c.stepped-after.ensures
    c.if-len-head.false _ c.clear.ensures _ _ c.in_ok-read.ensures

pub returns : goal.returns
returns c =
    form-closed _ _ c.requires.line_len_bound _ c.agreeing-len.ensures _ _ c.start.ensures c.stepped-after.ensures
    c.if-len-head.false _ c.clear.ensures _ _ c.in_ok-read.ensures c.requires.shortest_head_in_bounds _
    c.close_line.ensures

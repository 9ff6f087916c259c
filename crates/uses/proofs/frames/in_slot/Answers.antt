-- If a node is not in the slot, it differs in its label, its number of children or a child.
use mathlib.Core.Path.{◌∙◌, sym}
use Rattle.uses.proofs.Nodes.{arity-differs, in-siblings, label-differs}
use Rattle.uses.proofs.frames.in_slot.Goals as goal

pub returns-then-subtrees-i : goal.returns-then-subtrees-i
returns-then-subtrees-i c =
    label-differs c.args.transitions.now c.args.at c.args.k c.args.subtrees.now.labels c.args.subtrees.now.arities c.args.subtrees.now.children c.args.subtrees.now.states c.args.i c.if-subtrees-i.true c.label_of.ensures.value

pub returns-then-from-arity_of : goal.returns-then-from-arity_of
returns-then-from-arity_of c =
    arity-differs c.args.transitions.now c.args.at c.args.k c.args.subtrees.now.labels c.args.subtrees.now.arities c.args.subtrees.now.children c.args.subtrees.now.states c.args.i c.if-subtrees-i.false c.label_of.ensures.value c.if-from-arity_of.true c.from.ensures c.arity_of.ensures

pub same_siblings-requires : goal.same_siblings-requires
same_siblings-requires c = record {
  readable = c.requires.readable;
  nodes = c.requires.nodes;
  i_lt_m = c.requires.i_lt_m;
  i_value = sym c.from.ensures ∙ c.if-from-arity_of.false ∙ c.arity_of.ensures;
}

pub returns : goal.returns
returns c =
    in-siblings c.args.transitions.now c.args.at c.args.k c.args.subtrees.now.labels c.args.subtrees.now.arities c.args.subtrees.now.children c.args.subtrees.now.states c.args.i c.if-subtrees-i.false c.label_of.ensures.value (sym c.from.ensures ∙ c.if-from-arity_of.false ∙ c.arity_of.ensures) c.same_siblings.ensures

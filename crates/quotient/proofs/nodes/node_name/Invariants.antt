-- `quotient::nodes::node_name` meets its contract: in the loop the result for the rest is the result for the whole.
use Rattle.quotient.proofs.NodeNames.{NamedFrom}
use Rattle.quotient.proofs.nodes.node_name.Given as goal

abbrev pub invariant-loop-j : goal.invariant-loop-j
invariant-loop-j l =
    NamedFrom l.names.metas.now l.names.keys.now l.names.named.now.names.now l.meta l.key l.out
    l.names.named.now.subtrees.now.count l.j

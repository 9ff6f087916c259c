-- The paper's example, by computation.
use mathlib.Core.Path.{◌≡◌, refl}
use Rattle.automata.specs.Change.{insert_tree, product_with, subtree_automaton}
use Rattle.automata.specs.Example.{example, example_trees, inserted}
use Rattle.automata.specs.Minimal.{merge, minimal, quotient, representative}
use Rattle.automata.specs.Product.{accessible_pairs, live_pairs, nodes, nodes_of, pair_rule, product}
use Rattle.automata.specs.Product.{product_transition, product_transitions_over}
use Rattle.automata.specs.Renumber.{numbering, renumbered}
use Rattle.lists.specs.Closure.{closure}

pub example-inserted : inserted example_trees ≡ example
unfolding insert_tree product_with subtree_automaton minimal quotient merge representative renumbered numbering closure nodes_of nodes live_pairs pair_rule accessible_pairs product_transition product_transitions_over product
example-inserted = refl

-- The samples of order 12 hold of the definitions, by computation.
use mathlib.Core.Bool.{true}
use mathlib.Core.Path.{◌≡◌, refl}
use Rattle.automata.specs.Acyclic.{acyclic, feeds, leads, leads_rule}
use Rattle.automata.specs.Change.{delete_tree, insert_tree, product_with, subtree_automaton}
use Rattle.automata.specs.LoopSamples.{loop_holds, loop_samples}
use Rattle.automata.specs.Minimal.{merge, minimal, quotient, representative}
use Rattle.automata.specs.Product.{accessible_pairs, live_pairs, nodes, nodes_of, pair_rule, product}
use Rattle.automata.specs.Product.{product_transition, product_transitions_over}
use Rattle.automata.specs.Renumber.{numbering, renumbered}
use Rattle.automata.specs.Sizes.{size_of}
use Rattle.automata.specs.Totals.{total, trees_of, trees_within}
use Rattle.lists.specs.Closure.{closure}
use Rattle.lists.specs.Tests.{every}

pub loops-hold : every loop_holds loop_samples ≡ true
unfolding size_of acyclic leads leads_rule feeds total trees_of trees_within delete_tree insert_tree product_with subtree_automaton minimal quotient merge representative renumbered numbering closure nodes_of nodes live_pairs pair_rule accessible_pairs product_transition product_transitions_over product
loops-hold = refl

-- The samples of sizes hold of the definitions, by computation.
use mathlib.Core.Bool.{true}
use mathlib.Core.Path.{◌≡◌, refl}
use Rattle.automata.specs.Change.{delete_tree, insert_tree, product_with, subtree_automaton}
use Rattle.automata.specs.Minimal.{merge, minimal, quotient, representative}
use Rattle.automata.specs.NamedChange.{changed_automaton, names_in_use}
use Rattle.automata.specs.NamedSamples.{sizes_all}
use Rattle.automata.specs.OpenStates.{open_state}
use Rattle.automata.specs.Product.{accessible_pairs, live_pairs, nodes, nodes_of, pair_rule, product}
use Rattle.automata.specs.Product.{product_transition, product_transitions_over}
use Rattle.automata.specs.Quotient.{chosen, gone_count, kept_names, new_count, own_at, quotient_list}
use Rattle.automata.specs.Renumber.{numbering, renumbered}
use Rattle.lists.specs.Closure.{closure}

pub sizes-all : sizes_all ≡ true
unfolding names_in_use quotient_list chosen kept_names own_at new_count gone_count open_state changed_automaton insert_tree delete_tree product_with subtree_automaton minimal quotient merge representative renumbered numbering closure nodes_of nodes live_pairs pair_rule accessible_pairs product_transition product_transitions_over product
sizes-all = refl

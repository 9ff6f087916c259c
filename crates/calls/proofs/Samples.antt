-- Samples P1 to P11 hold of the definitions, by computation.
use mathlib.Core.Bool.{true}
use mathlib.Core.Path.{◌≡◌, refl}
use Rattle.automata.specs.Change.{delete_tree, insert_tree, product_pairs, product_transitions, product_with}
use Rattle.automata.specs.Change.{subtree_automaton}
use Rattle.automata.specs.Minimal.{merge, minimal, quotient, representative}
use Rattle.automata.specs.Product.{accessible_pairs, live_pairs, nodes, nodes_of, pair_rule, product, product_transition}
use Rattle.automata.specs.Product.{product_transitions_over}
use Rattle.automata.specs.Renumber.{numbering, renumbered}
use Rattle.automata.specs.Stops.{stop_place}
use Rattle.calls.specs.Calls.{asked}
use Rattle.calls.specs.Samples.{holds, samples}
use Rattle.lists.specs.Closure.{closure}
use Rattle.lists.specs.Tests.{every}
use Rattle.table.specs.Layout.{encode}
use Rattle.trees.specs.Listing.{all_labelled, all_narrow, listing_conditions, listing_refusal, one_tree, whole_nodes}

pub samples-hold : every holds samples ≡ true
unfolding asked stop_place insert_tree delete_tree product_pairs product_transitions product_with subtree_automaton minimal quotient merge representative renumbered numbering closure nodes_of nodes live_pairs pair_rule accessible_pairs product_transition product_transitions_over product encode listing_refusal listing_conditions whole_nodes all_labelled all_narrow one_tree
samples-hold = refl

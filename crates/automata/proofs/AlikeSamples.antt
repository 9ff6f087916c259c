-- The samples of the local criterion hold of the definitions, by computation.
use mathlib.Core.Bool.{true}
use mathlib.Core.Path.{◌≡◌, refl}
use Rattle.automata.specs.Alike.{covered, frames_at, frames_of, like_state, like_subtree, uses_agree}
use Rattle.automata.specs.AlikeSamples.{alike_all, covered_all}
use Rattle.automata.specs.Change.{subtree_automaton}
use Rattle.automata.specs.NamedChange.{changed_set}
use Rattle.automata.specs.OpenStates.{open_state, pairs_of, subtrees_at}
use Rattle.automata.specs.Product.{accessible_pairs, live_pairs, nodes, nodes_of, pair_rule}
use Rattle.lists.specs.Closure.{closure}

pub covered-all : covered_all ≡ true
unfolding covered frames_at frames_of open_state pairs_of subtrees_at subtree_automaton accessible_pairs live_pairs nodes nodes_of pair_rule closure
covered-all = refl

pub alike_all_lem : alike_all ≡ true
unfolding changed_set like_state like_subtree uses_agree covered frames_at frames_of open_state pairs_of subtrees_at subtree_automaton accessible_pairs live_pairs nodes nodes_of pair_rule closure
alike_all_lem = refl

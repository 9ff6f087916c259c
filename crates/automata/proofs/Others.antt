-- Samples of order 13: other deterministic automata of P6's set, and of a set with a loop, are larger.
use mathlib.Core.Bool.{Bool, true}
use mathlib.Core.Path.{◌≡◌, fun_ext, refl, subst, sym}
use Prim.Native.Nat.{◌<◌}
use native.Mathlib.Omega.{arith}
use lib.ListN.{length}
use Rattle.automata.specs.Accessible.{ArgsAccessible, accessible}
use Rattle.automata.specs.AnyAutomaton.{Recognizes, StateOf}
use Rattle.automata.specs.Automaton.{Automaton, accepts, states}
use Rattle.automata.specs.Canonical.{Canonical}
use Rattle.automata.specs.Change.{insert_tree, product_with, subtree_automaton}
use Rattle.automata.specs.Example.{inserted}
use Rattle.automata.specs.General.{general, occurring}
use Rattle.automata.specs.Minimal.{merge, minimal, quotient, representative}
use Rattle.automata.specs.Order.{rising}
use Rattle.automata.specs.Others.{Larger, chains, p6_automaton, p6_trees, unmerged, unrolled, unused, with_sink}
use Rattle.automata.specs.Product.{accessible_pairs, live_pairs, nodes, nodes_of, pair_rule, product}
use Rattle.automata.specs.Product.{product_transition, product_transitions_over}
use Rattle.automata.specs.Renumber.{numbering, renumbered}
use Rattle.automata.specs.Valid.{states_in_range}
use Rattle.lists.specs.Closure.{closure}
use Rattle.lists.specs.Tests.{◌∈◌, every}
use Rattle.trees.specs.Tree.{Tree}
use Rattle.automata.proofs.Accessible.{accessible-tree}
use Rattle.automata.proofs.CanonicalRun.{canonical-accepts}
use Rattle.automata.proofs.General.{general-deterministic, general-recognizes, occurring-exact, ranged-positive}
use Rattle.automata.proofs.Minimal.{minimal-canonical}
use Rattle.automata.proofs.ProductLaws.{rising-distinct}
use Rattle.automata.proofs.Valid.{ranged-fits}
use Rattle.lists.proofs.Counts.{exactly-counts}
use Rattle.lists.proofs.Tests.{every_in}

module _ (U : Automaton) (rises : rising U.transitions ≡ true) (ranged : states_in_range U ≡ true) where
  -- an automaton without inaccessible arguments, whose minimal one is A and which has more states and transitions
  larger : every (λ τ. every (accessible U) τ.args) U.transitions ≡ true → (A : Automaton) → minimal U ≡ A →
      states A < length (occurring U) → length A.transitions < length U.transitions →
      Larger A (length (occurring U)) (length U.transitions) (general U)
  larger reached A e m n = record {
    canonical = subst (λ (T : Tree → Bool). Canonical T A) (fun_ext same) canonical;
    deterministic = general-deterministic U rises (ranged-positive U ranged);
    recognizes = subst (λ (T : Tree → Bool). Recognizes (general U) T) (fun_ext same)
        (general-recognizes U rises (ranged-positive U ranged));
    occurring = exactly-counts (StateOf (general U)) (occurring U) (occurring-exact U ranged);
    distinct = exactly-counts (λ τ. τ ∈ U.transitions) U.transitions
        (record { once = rising-distinct U.transitions rises; members = λ τ. (λ i. i, λ i. i) });
    more-states = m;
    more-transitions = n;
  }
    where
      accessible-args : ArgsAccessible U
      accessible-args τ i q j =
          accessible-tree U rises q (every_in (accessible U) τ.args
          (every_in (λ τ. every (accessible U) τ.args) U.transitions reached τ i) q j)

      canonical : Canonical (accepts U) A
      canonical =
          subst (λ (B : Automaton). Canonical (accepts U) B) e
          (minimal-canonical U (ranged-fits U ranged) accessible-args)

      same : (t : Tree) → accepts U t ≡ accepts A t
      same t = sym (canonical-accepts (accepts U) A canonical t)

-- the canonical automaton of P6's set
pub p6-inserted : inserted p6_trees ≡ p6_automaton
unfolding insert_tree product_with subtree_automaton minimal quotient merge representative renumbered numbering closure nodes_of nodes live_pairs pair_rule accessible_pairs product_transition product_transitions_over product
p6-inserted = refl

pub unmerged-larger : Larger p6_automaton 3 6 (general unmerged)
unfolding minimal quotient merge representative renumbered numbering closure
unmerged-larger = larger unmerged refl refl refl p6_automaton refl (omega arith) (omega arith)

pub unused-larger : Larger p6_automaton 3 4 (general unused)
unfolding minimal quotient merge representative renumbered numbering closure
unused-larger = larger unused refl refl refl p6_automaton refl (omega arith) (omega arith)

pub sink-larger : Larger p6_automaton 3 11 (general with_sink)
unfolding minimal quotient merge representative renumbered numbering closure
sink-larger = larger with_sink refl refl refl p6_automaton refl (omega arith) (omega arith)

pub unrolled-larger : Larger chains 2 3 (general unrolled)
unfolding minimal quotient merge representative renumbered numbering closure
unrolled-larger = larger unrolled refl refl refl chains refl (omega arith) (omega arith)

-- The rows of specs/LeastInputs hold: a table of an automaton within the limits passes 5 and 7 and holds that automaton,
-- and what is left computes.
use mathlib.Core.Bool.{Bool, ◌&&◌, true}
use mathlib.Core.List.{List, ◌++◌, ◌∷◌}
use mathlib.Core.Path.{◌∙◌, ◌≡◌, ap, ap₂, refl, subst}
use Prim.Native.Nat.{ℕ}
use lib.Dec.{eqb, leb}
use lib.ListN.{length, length-replicate, replicate}
use borrow.Author.Tests.{eq-eqb, leb-true}
use Rattle.automata.specs.Automaton.{Automaton, Transition, accepts, empty_automaton, states}
use Rattle.automata.specs.Acyclic.{acyclic, feeds, leads, leads_rule}
use Rattle.automata.specs.Order.{rising}
use Rattle.automata.specs.Example.{leaf}
use Rattle.automata.specs.Change.{delete_tree, insert_tree, product_transitions, product_with, subtree_automaton}
use Rattle.automata.specs.Minimal.{merge, minimal, quotient, representative}
use Rattle.automata.specs.Product.{accessible_pairs, live_pairs, nodes, nodes_of, pair_rule, product, product_transition}
use Rattle.automata.specs.Product.{product_transitions_over}
use Rattle.automata.specs.Ranks.{rank as number_of_tree, unrank as tree_of_number}
use Rattle.automata.specs.Renumber.{numbering, renumbered}
use Rattle.automata.specs.Stops.{stop_place}
use Rattle.automata.specs.Totals.{total, trees_of, trees_within}
use Rattle.automata.specs.Valid.{states_in_range}
use Rattle.calls.specs.Calls.{Change, accepted_with, ask_answer, ask_refusal, asked, buffer_condition, change_refusal}
use Rattle.calls.specs.Calls.{change_result, changed, changed_tree, early_conditions, intake_answer, number_conditions}
use Rattle.calls.specs.Calls.{outcome, presence, rank_answer, ranked, refused_or, scratch_condition, size_conditions}
use Rattle.calls.specs.Calls.{total_answer, totalled, unrank_refusal, unrank_result, written}
use Rattle.calls.specs.Calls.{Response, add_result, delete, fits_listing, insert, padded_listing, remove_result}
use Rattle.calls.specs.LeastInputs.{AllDo, RowsHold, answered, buffers, contents, early, falling, late, looped, many}
use Rattle.calls.specs.LeastInputs.{misnumbered, one, one_of_many, sevens, single, tall, twofold, unreached, unused, zeros}
use Rattle.calls.specs.Series.{Query, Reply, ask, intake, only_answer, perform, query, query_result, rank, replied}
use Rattle.calls.specs.Series.{total as total_query, unrank}
use Rattle.calls.specs.declared.Answer.TheVariants.{Done}
use Rattle.format.specs.Format.{max_arity, max_label, max_states, max_transitions, table_bytes}
use Rattle.lists.specs.Closure.{closure}
use Rattle.lists.specs.Conditions.{Condition, condition, first_broken}
use Rattle.lists.specs.Tests.{every}
use Rattle.table.specs.Intake.{WithinLimits, automaton_conditions, content_conditions, fits_table, table_refusal}
use Rattle.table.specs.Layout.{decode, encode, layout_fits}
use Rattle.lists.proofs.Tests.{and_left, and_right, every_in}
use Rattle.trees.specs.Listing.{all_labelled, all_narrow, listing, listing_conditions, one_tree, read_tree, whole_nodes}
use Rattle.table.proofs.Bytes.{encode-length}
use Rattle.table.proofs.Intake.{encode-empty}
use Rattle.table.proofs.Limits.{encode-layout}
use Rattle.table.proofs.RoundTrip.{decode-encode}

-- label and number of arguments are within the limits
abbrev legal : Transition → Bool
legal τ = leb 1 τ.label && (leb τ.label max_label && leb (length τ.args) max_arity)

-- the automaton fits a table
abbrev tabular : Automaton → Bool
tabular A = fits_table A && (every legal A.transitions && states_in_range A)

-- the table passes 5 and 7 and holds the automaton
record HoldsAutomaton (b : List ℕ) (A : Automaton) : Type 0 where
  five : eqb (length b) table_bytes ≡ true
  seven : layout_fits b ≡ true
  decoded : decode b ≡ A

module _ (A : Automaton) (fits : tabular A ≡ true) where
  within : WithinLimits A
  within = record {
    states = leb-true (states A) max_states (and_left _ _ (and_left (fits_table A) _ fits));
    transitions =
        leb-true (length A.transitions) max_transitions
        (and_right (leb (states A) max_states) _ (and_left (fits_table A) _ fits));
    legal = λ τ m.
        let l = every_in legal A.transitions
        (and_left (every legal A.transitions) _ (and_right (fits_table A) _ fits)) τ m in record {
          label = (
            leb-true 1 τ.label (and_left (leb 1 τ.label) _ l),
            leb-true τ.label max_label (and_left (leb τ.label max_label) _ (and_right (leb 1 τ.label) _ l)),
          );
          arity =
              leb-true (length τ.args) max_arity
              (and_right (leb τ.label max_label) _ (and_right (leb 1 τ.label) _ l));
        };
  }

  encoded : HoldsAutomaton (encode A) A
  encoded = record {
    five = eq-eqb (length (encode A)) table_bytes (encode-length A);
    seven = encode-layout A within (and_right (every legal A.transitions) _ (and_right (fits_table A) _ fits));
    decoded = decode-encode A within;
  }

zero-encoded : HoldsAutomaton zeros empty_automaton
unfolding zeros
zero-encoded = subst (λ (b : List ℕ). HoldsAutomaton b empty_automaton) encode-empty (encoded empty_automaton refl)

-- ---- each call on such a table

-- 8 to 13
abbrev from_eight : Automaton → List Condition
from_eight A = condition 8 (rising A.transitions) ∷ automaton_conditions A

module _ (b : List ℕ) (A : Automaton) (h : HoldsAutomaton b A) where
  intake-on : intake_answer b ≡ refused_or (first_broken (from_eight A)) (accepted_with A)
  unfolding intake_answer table_refusal content_conditions
  intake-on = rw (h.five, h.seven, h.decoded)

  total-on : total_answer b ≡ refused_or (first_broken (from_eight A)) (totalled (total A))
  unfolding total_answer table_refusal content_conditions
  total-on = rw (h.five, h.seven, h.decoded)

  ask-on : (s : List ℕ) →
      ask_answer s b ≡ refused_or (first_broken (listing_conditions s ++ from_eight A)) (asked A (read_tree s))
  unfolding ask_answer ask_refusal listing_conditions content_conditions
  ask-on s = rw (h.five, h.seven, h.decoded)

  rank-on : (s : List ℕ) →
      rank_answer s b ≡ refused_or (first_broken (listing_conditions s ++ from_eight A)) (ranked A (read_tree s))
  unfolding rank_answer ask_refusal listing_conditions content_conditions
  rank-on s = rw (h.five, h.seven, h.decoded)

  unrank-on : (k : ℕ) (l : List ℕ) →
      unrank_result k b l ≡
      written (first_broken (buffer_condition l ∷ (from_eight A ++ number_conditions (total A) k (tree_of_number A k))))
      (tree_of_number A k) l
  unfolding unrank_result unrank_refusal content_conditions
  unrank-on k l = rw (h.five, h.seven, h.decoded)

  change-on : (c : Change) (s w : List ℕ) →
      change_result c s b w ≡
      outcome (first_broken (listing_conditions s ++ (scratch_condition w ∷
      (from_eight A ++ (presence c (accepts A (changed_tree c)) ∷ size_conditions c A))))) (changed c A) b w
  unfolding change_result change_refusal early_conditions listing_conditions content_conditions automaton_conditions
  change-on c s w = rw (h.five, h.seven, h.decoded)

-- ---- the rows

sevens-length : (n : ℕ) → length (sevens n) ≡ n
unfolding sevens
sevens-length n = length-replicate {A = ℕ} n 7

-- the test of a length, of memory that was used before
sized : (n m : ℕ) → eqb (length (sevens n)) m ≡ eqb n m
sized n m = ap (λ (k : ℕ). eqb k m) (sevens-length n)

-- a call that only reads, from its answer
reads : (b : List ℕ) (x : Query) {r : Response} → query_result x b ≡ r →
    perform b (query x) ≡ record { response = r; next = b }
unfolding perform
reads b x e = ap (λ (r : Response). record { response = r; next = b }) e

early-hold : AllDo early
unfolding perform query_result ask_answer ask_refusal intake_answer unrank_result unrank_refusal written add_result change_result change_refusal early_conditions outcome listing_conditions whole_nodes all_labelled all_narrow one_tree table_refusal content_conditions layout_fits
early-hold = (refl, (refl, (refl, (refl, (refl, (refl, (refl, (refl, (refl, tt)))))))))

contents-hold : AllDo contents
unfolding query_result automaton_conditions acyclic leads leads_rule feeds closure
contents-hold = (
  refused falling refl,
  (
    refused unreached refl,
    (refused unused refl, (refused looped refl, (refused twofold refl, (refused misnumbered refl, tt)))),
  ),
)
  where
    refused : (A : Automaton) → tabular A ≡ true → perform (encode A) (query intake) ≡
        record { response = only_answer (refused_or (first_broken (from_eight A)) (accepted_with A)); next = encode A }
    refused A f = reads (encode A) intake (ap only_answer (intake-on (encode A) A (encoded A f)))

-- ---- calls with a buffer or a scratch

module _ (b : List ℕ) (A : Automaton) (h : HoldsAutomaton b A) where
  -- number to tree with a buffer of n bytes
  unranks : (k n : ℕ) → perform b (query (unrank k (sevens n))) ≡ record {
    response =
        written (first_broken (condition 6 (eqb n 144) ∷ (from_eight A ++ number_conditions (total A) k (tree_of_number A k))))
        (tree_of_number A k) (sevens n);
    next = b;
  }
  unfolding query_result
  unranks k n =
      reads b (unrank k (sevens n)) (unrank-on b A h k (sevens n) ∙
      ap (λ (t : Bool). written (first_broken (condition 6 t ∷ (from_eight A ++ number_conditions (total A) k (tree_of_number A k))))
      (tree_of_number A k) (sevens n)) (sized n 144))

  -- the refusal of a change with a scratch of n bytes
  abbrev refusal_on : Change → List ℕ → ℕ → ℕ
  refusal_on c s n =
      first_broken (listing_conditions s ++ (condition 6 (eqb n 36864) ∷
      (from_eight A ++ (presence c (accepts A (changed_tree c)) ∷ size_conditions c A))))

  changes : (c : Change) (s : List ℕ) (n : ℕ) →
      replied (change_result c s b (sevens n)) ≡ replied (outcome (refusal_on c s n) (changed c A) b (sevens n))
  changes c s n =
      ap replied (change-on b A h c s (sevens n) ∙
      ap (λ (t : Bool). outcome (first_broken (listing_conditions s ++ (condition 6 t ∷
      (from_eight A ++ (presence c (accepts A (changed_tree c)) ∷ size_conditions c A))))) (changed c A) b (sevens n))
      (sized n 36864))

buffers-hold : AllDo buffers
unfolding perform add_result remove_result written outcome listing_conditions whole_nodes all_labelled all_narrow one_tree
buffers-hold = (
  unranks zeros empty_automaton zero-encoded 0 143,
  (
    unranks zeros empty_automaton zero-encoded 0 145,
    (
      changes zeros empty_automaton zero-encoded (insert (leaf 1)) one 36863,
      (changes zeros empty_automaton zero-encoded (delete (leaf 1)) one 36865, tt),
    ),
  ),
)

late-hold : AllDo late
unfolding perform query_result add_result remove_result written outcome listing_conditions whole_nodes all_labelled all_narrow one_tree automaton_conditions acyclic leads leads_rule feeds closure ranked total trees_of trees_within tree_of_number fits_listing
late-hold = (
  changes (encode single) single (encoded single refl) (insert (leaf 1)) one 36864,
  (
    changes zeros empty_automaton zero-encoded (delete (leaf 1)) one 36864,
    (
      reads (encode many) (rank (listing one_of_many))
          (ap only_answer (rank-on (encode many) many (encoded many refl) (listing one_of_many))),
      (
        unranks (encode many) many (encoded many refl) 0 144,
        (
          unranks (encode many) many (encoded many refl) 18446744073709551616 144,
          (
            unranks zeros empty_automaton zero-encoded 0 144,
            (
              unranks (encode single) single (encoded single refl) 1 144,
              (unranks (encode tall) tall (encoded tall refl) 0 144, tt),
            ),
          ),
        ),
      ),
    ),
  ),
)

-- a change that is done leaves zeros in a scratch of its size
cleared : (n : ℕ) → replicate (length (sevens n)) 0 ≡ replicate {A = ℕ} n 0
cleared n = ap (λ (k : ℕ). replicate k 0) (sevens-length n)

abbrev done : ℕ → ℕ → List ℕ → List ℕ → Reply (List ℕ)
done n m w b = record { response = record { answer = Done n m; lent = w }; next = b }

empty-zeros : encode empty_automaton ≡ zeros
unfolding zeros
empty-zeros = encode-empty

answered-hold : AllDo answered
unfolding perform query_result ask_answer total_answer asked ranked number_of_tree stop_place totalled total trees_of trees_within written padded_listing tree_of_number fits_listing add_result remove_result outcome listing_conditions whole_nodes all_labelled all_narrow one_tree automaton_conditions acyclic leads leads_rule feeds closure insert_tree delete_tree product_transitions product_with subtree_automaton minimal quotient merge representative renumbered numbering nodes_of nodes live_pairs pair_rule accessible_pairs product_transition product_transitions_over product
answered-hold = (
  reads zeros (ask one) (ap only_answer (ask-on zeros empty_automaton zero-encoded one)),
  (
    reads (encode single) (ask one) (ap only_answer (ask-on (encode single) single (encoded single refl) one)),
    (
      reads (encode single) intake (ap only_answer (intake-on (encode single) single (encoded single refl))),
      (
        reads (encode single) total_query (ap only_answer (total-on (encode single) single (encoded single refl))),
        (
          reads (encode many) total_query (ap only_answer (total-on (encode many) many (encoded many refl))),
          (
            reads (encode single) (rank one)
                (ap only_answer (rank-on (encode single) single (encoded single refl) one)),
            (
              unranks (encode single) single (encoded single refl) 0 144,
              (
                changes zeros empty_automaton zero-encoded (insert (leaf 1)) one 36864
                    ∙ ap₂ (done 1 1) (cleared 36864) refl,
                (
                  changes (encode single) single (encoded single refl) (delete (leaf 1)) one 36864
                      ∙ ap₂ (done 0 0) (cleared 36864) empty-zeros,
                  tt,
                ),
              ),
            ),
          ),
        ),
      ),
    ),
  ),
)

-- what 01 and 02 print of each refusal, and of what a call leaves
pub least-inputs : RowsHold
least-inputs = (early-hold, buffers-hold, contents-hold, late-hold, answered-hold)

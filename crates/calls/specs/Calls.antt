-- The calls on bytes, whole: what each answers and what it leaves in the lent tables, for any bytes
-- of any length.
use Rattle.std.specs.Prelude.{Bool, ◌||◌, cond, not, List, [], ◌++◌, ◌∷◌, ◌-◌, ℕ, eqb, leb, ltb, length, replicate}
use Rattle.automata.specs.Automaton.{Automaton, accepts, run, states}
use Rattle.automata.specs.Change.{delete_tree, insert_tree, product_transitions}
use Rattle.automata.specs.Ranks.{rank, unrank}
use Rattle.automata.specs.Stops.{stop_place}
use Rattle.automata.specs.Totals.{total}
use Rattle.calls.specs.declared.Answer.{Answer}
use Rattle.calls.specs.declared.Answer.TheVariants.{Accepted, Approved, Done, Finished, NotAt, NotPart, Over}
use Rattle.calls.specs.declared.Answer.TheVariants.{Refused, Serial, Total}
use Rattle.format.specs.Format.{max_listing, max_nodes, max_product, number_limit, scratch_bytes}
use Rattle.lists.specs.Conditions.{Condition, condition, first_broken}
use Rattle.table.specs.Intake.{content_conditions, fits_table, length_condition, table_refusal}
use Rattle.table.specs.Layout.{decode, encode}
use Rattle.trees.specs.Listing.{listing, listing_conditions, read_tree}
use Rattle.trees.specs.Preorder.{preorder}
use Rattle.trees.specs.Tree.{Tree}

-- what a call gives back beside the table: its answer, and what it leaves in the buffer that it was lent, [] if none
pub record Response : Type 0 where
  pub answer : Answer
  pub lent : List ℕ

-- a refusal if its number is not 0, else the answer
abbrev pub refused_or : ℕ → Answer → Answer
refused_or r a = cond (eqb r 0) a (Refused r)

-- approved if the tree is accepted, else part of an accepted tree if it runs to a state, else the place of its first
-- stop
unfoldable pub asked : Automaton → Tree → Answer
asked A t = cond (accepts A t) Approved (cond (eqb (run A t) 0) (NotAt (stop_place A t)) NotPart)

-- accepted, or done, with the numbers of states and of transitions
abbrev pub accepted_with : Automaton → Answer
accepted_with A = Accepted (states A) (length A.transitions)

abbrev pub done_with : Automaton → Answer
done_with A = Done (states A) (length A.transitions)

-- the number of trees, or that it is over
unfoldable pub totalled : ℕ → Answer
totalled n = cond (ltb n number_limit) (Total n) Over

-- ---- calls that only read the table

-- ask: 1 to 5 and 7 to 13
unfoldable pub ask_refusal : List ℕ → List ℕ → ℕ
ask_refusal s b = first_broken (listing_conditions s ++ (length_condition b ∷ content_conditions b))

unfoldable pub ask_answer : List ℕ → List ℕ → Answer
ask_answer s b = refused_or (ask_refusal s b) (asked (decode b) (read_tree s))

-- intake: 5 and 7 to 13
unfoldable pub intake_answer : List ℕ → Answer
intake_answer b = refused_or (table_refusal b) (accepted_with (decode b))

-- the total: 5 and 7 to 13
unfoldable pub total_answer : List ℕ → Answer
total_answer b = refused_or (table_refusal b) (totalled (total (decode b)))

-- ---- serial numbers

-- the number of an accepted tree, 18 if the total is over; a tree that is not accepted gets what ask answers
unfoldable pub ranked : Automaton → Tree → Answer
ranked A t = cond (accepts A t) (cond (ltb (total A) number_limit) (Serial (rank A t)) (Refused 18)) (asked A t)

-- tree to number: 1 to 5, 7 to 13 and 18
unfoldable pub rank_answer : List ℕ → List ℕ → Answer
rank_answer s b = refused_or (ask_refusal s b) (ranked (decode b) (read_tree s))

-- condition 6 of number to tree: the buffer has the bytes of the longest listing
abbrev pub buffer_condition : List ℕ → Condition
buffer_condition l = condition 6 (eqb (length l) max_listing)

-- the tree has no more nodes than a listing may have
unfoldable pub fits_listing : Tree → Bool
fits_listing t = leb (length (preorder t)) max_nodes

-- 18 to 20, from the total n, the number k and its tree
abbrev pub number_conditions : ℕ → ℕ → Tree → List Condition
number_conditions n k t =
    condition 18 (ltb n number_limit) ∷ condition 19 (ltb k n) ∷ condition 20 (fits_listing t) ∷ []

-- number to tree: 5 to 13 and 18 to 20
unfoldable pub unrank_refusal : ℕ → List ℕ → List ℕ → ℕ
unrank_refusal k b l =
    first_broken (length_condition b ∷ buffer_condition l ∷
    (content_conditions b ++ number_conditions (total (decode b)) k (unrank (decode b) k)))

-- a listing, and zeros up to the length of the longest
unfoldable pub padded_listing : Tree → List ℕ
padded_listing t = listing t ++ replicate (max_listing - length (listing t)) 0

-- refused by r with the buffer as it was, or done with the tree's listing in it
unfoldable pub written : ℕ → Tree → List ℕ → Response
written r t l = record { answer = refused_or r Finished; lent = cond (eqb r 0) (padded_listing t) l }

unfoldable pub unrank_result : ℕ → List ℕ → List ℕ → Response
unrank_result k b l = written (unrank_refusal k b l) (unrank (decode b) k) l

-- ---- calls that change the set

-- a change of a set by one tree
pub data Change : Type 0 where
  insert delete : Tree → Change

abbrev pub changed_tree : Change → Tree
changed_tree (insert t) = t
changed_tree (delete t) = t

-- the automaton of the changed set
abbrev pub changed : Change → Automaton → Automaton
changed (insert t) A = insert_tree t A
changed (delete t) A = delete_tree t A

-- 14 and 15: an inserted tree is not in the set, and a deleted one is
abbrev pub presence : Change → Bool → Condition
presence (insert t) present = condition 14 (not present)
presence (delete t) present = condition 15 present

-- condition 6
abbrev pub scratch_condition : List ℕ → Condition
scratch_condition w = condition 6 (eqb (length w) scratch_bytes)

-- 1 to 15 in 01's order
unfoldable pub early_conditions : Change → List ℕ → List ℕ → List ℕ → List Condition
early_conditions c s b w =
    listing_conditions s ++ (length_condition b ∷ scratch_condition w ∷
    (content_conditions b ++ (presence c (accepts (decode b) (changed_tree c)) ∷ [])))

-- 16 and 17, from the set's automaton
abbrev pub size_conditions : Change → Automaton → List Condition
size_conditions c A =
    condition 16 (leb (product_transitions A (changed_tree c)) max_product) ∷
    condition 17 (fits_table (changed c A)) ∷ []

-- 1 to 17 in 01's order
unfoldable pub change_refusal : Change → List ℕ → List ℕ → List ℕ → ℕ
change_refusal c s b w = first_broken (early_conditions c s b w ++ size_conditions c (decode b))

-- what a change leaves: the answer, the table and the scratch
pub record Result : Type 0 where
  pub answer : Answer
  pub table : List ℕ
  pub scratch : List ℕ

-- what a change that r refuses, or none (0), leaves in the scratch: 1 to 15 leave it as it was, and after 16, 17 and
-- done it is all zeros
abbrev pub scratch_after : ℕ → List ℕ → List ℕ
scratch_after r w = cond (eqb r 0 || leb 16 r) (replicate (length w) 0) w

-- refused by r, or done with the automaton B: a refusal leaves the table as it was
unfoldable pub outcome : ℕ → Automaton → List ℕ → List ℕ → Result
outcome r B b w = record {
  answer = refused_or r (done_with B);
  table = cond (eqb r 0) (encode B) b;
  scratch = scratch_after r w;
}

unfoldable pub change_result : Change → List ℕ → List ℕ → List ℕ → Result
change_result c s b w = outcome (change_refusal c s b w) (changed c (decode b)) b w

unfoldable pub add_result : List ℕ → List ℕ → List ℕ → Result
add_result s b w = change_result (insert (read_tree s)) s b w

unfoldable pub remove_result : List ℕ → List ℕ → List ℕ → Result
remove_result s b w = change_result (delete (read_tree s)) s b w

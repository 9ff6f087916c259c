-- Samples P1 to P11 of document 01 and those of order 1, as rows of one table with one test.
use Rattle.std.specs.Prelude.{Bool, ◌&&◌, List, [], ◌∷◌, suc, zero, ℕ, eqb, length, replicate}
use Rattle.automata.specs.Automaton.{Automaton, accepting, empty_automaton, states}
use Rattle.automata.specs.Change.{product_pairs, product_transitions}
use Rattle.automata.specs.Example.{fork, leaf}
use Rattle.calls.specs.Answers.{answer_number}
use Rattle.calls.specs.Calls.{Change, asked, delete, insert}
use Rattle.calls.specs.Series.{canonical_after}
use Rattle.calls.specs.declared.Answer.{Answer}
use Rattle.calls.specs.declared.Answer.TheVariants.{Approved, NotAt, NotPart}
use Rattle.format.specs.Format.{table_bytes}
use Rattle.lists.specs.Tests.{same_list}
use Rattle.table.specs.Layout.{encode}
use Rattle.trees.specs.Listing.{listing, listing_refusal}
use Rattle.trees.specs.Tree.{Tree, cons, nil, node}

-- the chain of n + 1 nodes with label 1
abbrev pub chain : ℕ → Tree
chain zero = leaf 1
chain (suc n) = node 1 (cons (chain n) nil)

-- the automaton after changes from the empty set, the last change first
abbrev pub after : List Change → Automaton
after cs = canonical_after cs empty_automaton

-- what a row says
pub data Sample : Type 0 where
  -- these bytes are refused by this number, 0 for none
  listed : List ℕ → ℕ → Sample
  -- after these changes there are so many states and transitions
  sized : List Change → ℕ → ℕ → Sample
  -- after these changes state 1 is accepting
  classed : List Change → Sample
  -- the product of what these changes give with this tree has so many pairs and transitions
  paired : List Change → Tree → ℕ → ℕ → Sample
  -- after these changes ask answers so for this tree
  answered : List Change → Tree → Answer → Sample
  -- two lists of changes give the same bytes
  alike : List Change → List Change → Sample
  -- after these changes the table is all zeros
  cleared : List Change → Sample

abbrev pub holds : Sample → Bool
holds (listed s r) = eqb (listing_refusal s) r
holds (sized cs n m) = let A = after cs in eqb (states A) n && eqb (length A.transitions) m
holds (classed cs) = accepting (after cs) 1
holds (paired cs t n m) = let A = after cs in eqb (product_pairs A t) n && eqb (product_transitions A t) m
holds (answered cs t a) = eqb (answer_number (asked (after cs) t)) (answer_number a)
holds (alike cs ds) = same_list (encode (after cs)) (encode (after ds))
holds (cleared cs) = same_list (encode (after cs)) (replicate table_bytes 0)

-- the set of P6
abbrev pub p6 : List Change
p6 = insert (fork 1 2 2) ∷ insert (fork 1 2 1) ∷ insert (fork 1 1 2) ∷ insert (fork 1 1 1) ∷ []

-- P7: P6 and the tree of the paper's example
abbrev pub p7 : List Change
p7 = insert (fork 2 1 2) ∷ p6

-- the set that the sample input of document 01 gives: (1 (1) (1))
abbrev pub sample_set : List Change
sample_set = insert (fork 1 1 1) ∷ []

abbrev pub samples : List Sample
samples =
    -- P1 to P4
    listed (0 ∷ 1 ∷ 1 ∷ []) 4 ∷ listed (0 ∷ 1 ∷ 0 ∷ 0 ∷ 1 ∷ 0 ∷ []) 4 ∷ listed (0 ∷ 0 ∷ 9 ∷ []) 2 ∷
    listed (0 ∷ 1 ∷ 9 ∷ []) 3 ∷ listed (0 ∷ 1 ∷ 1 ∷ 1 ∷ []) 1 ∷ listed (listing (chain 47)) 0 ∷
    listed (listing (chain 48)) 1 ∷
    -- of order 5: the code 256, whose low byte is 0, and the largest
    listed (1 ∷ 0 ∷ 0 ∷ []) 0 ∷ listed (255 ∷ 255 ∷ 0 ∷ []) 0 ∷
    -- P5 and P6
    sized (insert (leaf 1) ∷ []) 1 1 ∷ classed (insert (leaf 1) ∷ []) ∷ sized p6 2 3 ∷
    -- P7 and P8
    sized p7 3 7 ∷ paired p6 (fork 2 1 2) 4 7 ∷ alike (delete (fork 2 1 2) ∷ p7) p6 ∷
    -- P9 to P11
    sized (delete (fork 1 1 1) ∷ p6) 3 5 ∷ cleared (delete (leaf 1) ∷ insert (leaf 1) ∷ []) ∷
    sized (insert (leaf 1) ∷ p6) 3 6 ∷
    -- order 1: approved; not part; stopped at the top, at node 3, at the first of two leaves, above two leaves
    answered sample_set (fork 1 1 1) Approved ∷ answered sample_set (leaf 1) NotPart ∷
    answered sample_set (leaf 2) (NotAt 1) ∷ answered sample_set (fork 1 1 2) (NotAt 3) ∷
    answered sample_set (fork 1 2 2) (NotAt 2) ∷ answered sample_set (fork 2 1 1) (NotAt 1) ∷ []

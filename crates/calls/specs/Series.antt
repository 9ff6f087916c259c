-- A series of calls on one table, and the model that keeps a set (01: the plain machine).
use Rattle.std.specs.Prelude.{Bool, ◌&&◌, ◌||◌, cond, not, List, [], ◌++◌, ◌∷◌, ℕ, eqb, leb}
use Rattle.automata.specs.Automaton.{Automaton, accepts, empty_automaton}
use Rattle.automata.specs.Change.{product_transitions}
use Rattle.calls.specs.Calls.{Change, Response, Result, add_result, ask_answer, changed, changed_tree, delete}
use Rattle.calls.specs.Calls.{done_with, insert, intake_answer, presence, rank_answer, refused_or, remove_result}
use Rattle.calls.specs.Calls.{scratch_after, scratch_condition, total_answer, unrank_result}
use Rattle.calls.specs.declared.Answer.{Answer}
use Rattle.format.specs.Format.{AllBytes, max_product}
use Rattle.lists.specs.Conditions.{Condition, condition, first_broken}
use Rattle.table.specs.Intake.{fits_table}
use Rattle.table.specs.Layout.{decode, encode}
use Rattle.trees.specs.Listing.{listing_conditions, read_tree}
use Rattle.trees.specs.Tree.{Tree, eq_tree}

-- a call that only reads the table, with what it brings: ask and tree to number a listing, number to tree a number and
-- a buffer
pub data Query : Type 0 where
  ask rank : List ℕ → Query
  intake total : Query
  unrank : ℕ → List ℕ → Query

-- a call with what it brings: add and remove a listing and a scratch
pub data Call : Type 0 where
  query : Query → Call
  add remove : List ℕ → List ℕ → Call

-- the listing of a change is bytes
abbrev pub BringsBytes : Call → Type 0
BringsBytes (query x) = Unit {0}
BringsBytes (add s w) = AllBytes s
BringsBytes (remove s w) = AllBytes s

-- every call of a list brings bytes
abbrev pub AllBring : List Call → Type 0
AllBring [] = Unit {0}
AllBring (c ∷ cs) = BringsBytes c × AllBring cs

abbrev pub only_answer : Answer → Response
only_answer a = record { answer = a; lent = [] }

-- a response, and what is there for the next call
pub record Reply (X : Type 0) : Type 0 where
  pub response : Response
  pub next : X

-- ---- the calls on the table

-- a call that only reads the table
unfoldable pub query_result : Query → List ℕ → Response
query_result (ask s) b = only_answer (ask_answer s b)
query_result intake b = only_answer (intake_answer b)
query_result total b = only_answer (total_answer b)
query_result (rank s) b = only_answer (rank_answer s b)
query_result (unrank k l) b = unrank_result k b l

abbrev pub replied : Result → Reply (List ℕ)
replied r = record { response = record { answer = r.answer; lent = r.scratch }; next = r.table }

-- one call on a table
unfoldable pub perform : List ℕ → Call → Reply (List ℕ)
perform b (query x) = record { response = query_result x b; next = b }
perform b (add s w) = replied (add_result s b w)
perform b (remove s w) = replied (remove_result s b w)

-- what a list of calls gives back, and the table after it
abbrev pub responses : List ℕ → List Call → List Response
responses b [] = []
responses b (c ∷ cs) = (perform b c).response ∷ responses (perform b c).next cs

abbrev pub table_after : List ℕ → List Call → List ℕ
table_after b [] = b
table_after b (c ∷ cs) = table_after (perform b c).next cs

-- ---- the model

-- a starting automaton, whose accepted trees are the set at first, and the changes since, the last first
pub record Model : Type 0 where
  pub start : Automaton
  pub changes : List Change

-- the set with one change more
abbrev pub changed_set : Change → (Tree → Bool) → Tree → Bool
changed_set (insert t) S u = S u || eq_tree u t
changed_set (delete t) S u = S u && not (eq_tree u t)

abbrev pub member_after : List Change → (Tree → Bool) → Tree → Bool
member_after [] S = S
member_after (c ∷ cs) S = changed_set c (member_after cs S)

abbrev pub canonical_after : List Change → Automaton → Automaton
canonical_after [] A = A
canonical_after (c ∷ cs) A = changed c (canonical_after cs A)

-- whether a tree is in the model's set
unfoldable pub member : Model → Tree → Bool
member m t = member_after m.changes (accepts m.start) t

-- the canonical automaton of the model's set
unfoldable pub canonical_of : Model → Automaton
canonical_of m = canonical_after m.changes m.start

-- the model whose set is what a table accepts, and the one whose set is empty
unfoldable pub model_of : List ℕ → Model
model_of b = record { start = decode b; changes = [] }

unfoldable pub empty_model : Model
empty_model = record { start = empty_automaton; changes = [] }

-- the model with one change more
abbrev pub with_change : Change → Model → Model
with_change c m = record { start = m.start; changes = c ∷ m.changes }

-- 1 to 4, 6, 14 or 15, 16, 17: all from what the call brings and the set. 16 takes the automaton of the set, 17 that of
-- the changed set.
unfoldable pub model_conditions : Model → Change → List ℕ → List ℕ → List Condition
model_conditions m c s w =
    listing_conditions s ++ (scratch_condition w ∷ presence c (member m (changed_tree c)) ∷
    condition 16 (leb (product_transitions (canonical_of m) (changed_tree c)) max_product) ∷
    condition 17 (fits_table (canonical_of (with_change c m))) ∷ [])

unfoldable pub model_refusal : Model → Change → List ℕ → List ℕ → ℕ
model_refusal m c s w = first_broken (model_conditions m c s w)

-- refused by r, or done with the change
abbrev pub settled : ℕ → Change → List ℕ → Model → Reply Model
settled r c w m = record {
  response =
      record { answer = refused_or r (done_with (canonical_of (with_change c m))); lent = scratch_after r w };
  next = cond (eqb r 0) (with_change c m) m;
}

-- one call on the model: a call that only reads gets what is defined for it and the set's table
unfoldable pub respond : Model → Call → Reply Model
respond m (query x) = record { response = query_result x (encode (canonical_of m)); next = m }
respond m (add s w) = settled (model_refusal m (insert (read_tree s)) s w) (insert (read_tree s)) w m
respond m (remove s w) = settled (model_refusal m (delete (read_tree s)) s w) (delete (read_tree s)) w m

-- what the model gives back for a list of calls, and the model after it
abbrev pub model_responses : Model → List Call → List Response
model_responses m [] = []
model_responses m (c ∷ cs) = (respond m c).response ∷ model_responses (respond m c).next cs

abbrev pub model_after : Model → List Call → Model
model_after m [] = m
model_after m (c ∷ cs) = model_after (respond m c).next cs

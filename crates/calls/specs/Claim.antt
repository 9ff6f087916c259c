-- Demand 3 as one claim about a list of calls: what a table and the model have in common after it, and what the model's
-- own automata and answers mean for its set alone.
use Rattle.std.specs.Prelude.{Bool, false, true, List, [], ◌∷◌, ◌≡◌, ◌<◌, ◌≤◌, ℕ}
use Rattle.automata.specs.Acyclic.{Bounded}
use Rattle.automata.specs.Automaton.{Automaton}
use Rattle.automata.specs.Canonical.{Canonical, Subtree}
use Rattle.automata.specs.Change.{product_transitions}
use Rattle.automata.specs.Ranks.{Before}
use Rattle.automata.specs.Stops.{FirstStop}
use Rattle.automata.specs.TreePairs.{InProduct}
use Rattle.calls.specs.Calls.{Change, Response, accepted_with, buffer_condition, number_conditions, refused_or}
use Rattle.calls.specs.Calls.{totalled, written}
use Rattle.calls.specs.Series.{Call, Model, ask, canonical_of, changed_set, intake, member, model_after}
use Rattle.calls.specs.Series.{model_responses, only_answer, query_result, rank, respond, responses}
use Rattle.calls.specs.Series.{table_after, total, unrank, with_change}
use Rattle.calls.specs.declared.Answer.{Answer}
use Rattle.calls.specs.declared.Answer.TheVariants.{Accepted, Approved, Done, Finished, NotAt, NotPart, Over}
use Rattle.calls.specs.declared.Answer.TheVariants.{Refused, Serial, Total}
use Rattle.format.specs.Format.{number_limit}
use Rattle.lists.specs.Conditions.{first_broken}
use Rattle.lists.specs.Tests.{Counts}
use Rattle.table.specs.Intake.{WithinLimits}
use Rattle.table.specs.Layout.{encode}
use Rattle.trees.specs.Listing.{listing_refusal, read_tree}
use Rattle.trees.specs.Tree.{Tree}

-- What an answer to ask says of a tree, from the set alone. Approved: it is in the set. Not part: it is not, and is a
-- subtree of a tree of the set. Not, with a place: its node there is the first that stops. No other answer is one.
abbrev pub Reports : (Tree → Bool) → Tree → Answer → Type 0
Reports S t Approved = S t ≡ true
Reports S t NotPart = (S t ≡ false) × Subtree S t
Reports S t (NotAt k) = FirstStop S t k
Reports S t (Accepted n m) = ⊥
Reports S t (Done n m) = ⊥
Reports S t (Total n) = ⊥
Reports S t Over = ⊥
Reports S t (Serial k) = ⊥
Reports S t Finished = ⊥
Reports S t (Refused k) = ⊥

-- what ask gives back for any bytes: a refusal by the first broken of 1 to 4, else what it reports of their tree
pub record Reported (S : Tree → Bool) (s : List ℕ) (r : Response) : Type 0 where
  pub answer : Answer
  pub reports : Reports S (read_tree s) answer
  pub response : r ≡ only_answer (refused_or (listing_refusal s) answer)

-- what the total gives back: the number of trees of the set
pub record Totalled (S : Tree → Bool) (r : Response) : Type 0 where
  pub number : ℕ
  pub counts : Counts (λ t. S t ≡ true) number
  pub response : r ≡ only_answer (totalled number)

-- t is the tree of number k in a set: k trees of the set come before it, in the order of the set's automaton A
pub record Numbers (S : Tree → Bool) (A : Automaton) (t : Tree) (k : ℕ) : Type 0 where
  pub member : S t ≡ true
  pub before : Counts (λ u. (S u ≡ true) × Before A u t) k

-- What tree to number says of a tree, from the set, its automaton A and the number n of its trees. A tree of the set:
-- its number, or 18 if n does not fit 64 bits. Another tree: what ask reports.
abbrev pub NumberReports : (Tree → Bool) → Automaton → ℕ → Tree → Answer → Type 0
NumberReports S A n t Approved = ⊥
NumberReports S A n t NotPart = Reports S t NotPart
NumberReports S A n t (NotAt k) = Reports S t (NotAt k)
NumberReports S A n t (Accepted i j) = ⊥
NumberReports S A n t (Done i j) = ⊥
NumberReports S A n t (Total k) = ⊥
NumberReports S A n t Over = ⊥
NumberReports S A n t (Serial k) = (n < number_limit) × Numbers S A t k
NumberReports S A n t Finished = ⊥
NumberReports S A n t (Refused k) = (k ≡ 18) × (number_limit ≤ n) × (S t ≡ true)

-- what tree to number gives back for any bytes: a refusal by the first broken of 1 to 4, else what it says of their tree
pub record Ranked (S : Tree → Bool) (A : Automaton) (s : List ℕ) (r : Response) : Type 0 where
  pub number : ℕ
  pub counts : Counts (λ t. S t ≡ true) number
  pub answer : Answer
  pub reports : NumberReports S A number (read_tree s) answer
  pub response : r ≡ only_answer (refused_or (listing_refusal s) answer)

-- what number to tree gives back for any buffer: the first broken of 6 and 18 to 20, else the listing of the number's tree
pub record Unranked (S : Tree → Bool) (A : Automaton) (k : ℕ) (l : List ℕ) (r : Response) : Type 0 where
  pub number : ℕ
  pub counts : Counts (λ t. S t ≡ true) number
  pub tree : Tree
  pub numbers : k < number → Numbers S A tree k
  pub response : r ≡ written (first_broken (buffer_condition l ∷ number_conditions number k tree)) tree l

-- What the model stands for, from its set alone. Its automaton is the set's, and the one that 17 looks at is the
-- changed set's. 16 counts the pair automaton's transitions. Ask reports on its tree, intake has the numbers of the set's
-- automaton, and the total counts the set. Tree to number and number to tree say which number a tree of the set has.
pub record Meaning (m : Model) : Type 0 where
  pub canonical : Canonical (member m) (canonical_of m)
  pub changes : (c : Change) → Canonical (changed_set c (member m)) (canonical_of (with_change c m))
  pub pairs : (t : Tree) → Counts (InProduct (canonical_of m) t) (product_transitions (canonical_of m) t)
  pub asked : (s : List ℕ) → Reported (member m) s (query_result (ask s) (encode (canonical_of m)))
  pub taken : query_result intake (encode (canonical_of m)) ≡ only_answer (accepted_with (canonical_of m))
  pub counted : Totalled (member m) (query_result total (encode (canonical_of m)))
  pub ranked : (s : List ℕ) → Ranked (member m) (canonical_of m) s (query_result (rank s) (encode (canonical_of m)))
  pub unranked : (k : ℕ) (l : List ℕ) →
      Unranked (member m) (canonical_of m) k l (query_result (unrank k l) (encode (canonical_of m)))

-- a model has a property before each call of a list and after the last
abbrev pub Throughout : (Model → Type 0) → Model → List Call → Type 0
Throughout P m [] = P m
Throughout P m (c ∷ cs) = P m × Throughout P (respond m c).next cs

-- what a list of calls from a table gives back and leaves, against the model
pub record Agrees (b : List ℕ) (m : Model) (cs : List Call) : Type 0 where
  pub responses : responses b cs ≡ model_responses m cs
  pub table : table_after b cs ≡ encode (canonical_of (model_after m cs))
  pub meaning : Throughout Meaning m cs

-- a table and a model that are in step: what every call keeps
pub record InStep (b : List ℕ) (m : Model) : Type 0 where
  pub table : b ≡ encode (canonical_of m)
  pub canonical : Canonical (member m) (canonical_of m)
  pub bounded : Bounded (member m)
  pub limits : WithinLimits (canonical_of m)

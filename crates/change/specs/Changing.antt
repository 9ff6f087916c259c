-- What a change answers and leaves if only 16 and 17 can still refuse it.
use Rattle.std.specs.Prelude.{Bool, cond, List, ◌≡◌, ℕ, eqb}
use Rattle.automata.specs.Automaton.{Automaton}
use Rattle.calls.specs.Calls.{Change, Result, changed, delete, done_with, insert, outcome, refused_or}
use Rattle.calls.specs.Calls.{size_conditions}
use Rattle.calls.specs.declared.Answer.{Answer}
use Rattle.lists.specs.Conditions.{first_broken}
use Rattle.table.specs.Layout.{decode, encode}
use Rattle.trees.specs.Tree.{Tree}

-- an addition, or a withdrawal
abbrev pub change_of : Bool → Tree → Change
change_of inserting t = cond inserting (insert t) (delete t)

-- the answer, the table and the scratch together
abbrev pub result_of : Answer → List ℕ → List ℕ → Result
result_of a b w = record { answer = a; table = b; scratch = w }

-- the refusal by size: 16, 17 or 0
unfoldable pub size_refusal : Change → Automaton → ℕ
size_refusal c A = first_broken (size_conditions c A)

-- the answer, and the table b' that b became
pub record Worked (c : Change) (b b' : List ℕ) (a : Answer) : Type 0 where
  pub answer : a ≡ refused_or (size_refusal c (decode b)) (done_with (changed c (decode b)))
  pub table : b' ≡ cond (eqb (size_refusal c (decode b)) 0) (encode (changed c (decode b))) b

-- what the change does to a table and a scratch
abbrev pub changed_outcome : Change → List ℕ → List ℕ → Result
changed_outcome c b w = outcome (size_refusal c (decode b)) (changed c (decode b)) b w

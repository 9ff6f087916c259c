-- What the bench program prints for a line and at the end of its input, as document 01 words it. Fields stand one
-- space apart: the line number, a word, then states and transitions, the place, the total, the refusal, or the column.
use Rattle.std.specs.Prelude.{Err, List, Ok, Result, [], ◌++◌, ◌∷◌, ℕ}
use Rattle.calls.specs.declared.Answer.{Answer}
use Rattle.calls.specs.declared.Answer.TheVariants.{Accepted, Approved, Done, Finished, NotAt, NotPart, Over, Refused}
use Rattle.calls.specs.declared.Answer.TheVariants.{Serial, Total}
use Rattle.lists.specs.Decimal.{decimal}
use Rattle.text.specs.declared.Malformed.{Malformed}
use Rattle.text.specs.declared.Malformed.TheVariants.{Form, Long}

abbrev pub space : ℕ
space = 32

abbrev pub newline : ℕ
newline = 10

abbrev pub done_word : List ℕ
done_word = 100 ∷ 111 ∷ 110 ∷ 101 ∷ []

abbrev pub accepted_word : List ℕ
accepted_word = 97 ∷ 99 ∷ 99 ∷ 101 ∷ 112 ∷ 116 ∷ 101 ∷ 100 ∷ []

abbrev pub approved_word : List ℕ
approved_word = 97 ∷ 112 ∷ 112 ∷ 114 ∷ 111 ∷ 118 ∷ 101 ∷ 100 ∷ []

abbrev pub not_word : List ℕ
not_word = 110 ∷ 111 ∷ 116 ∷ []

abbrev pub part_word : List ℕ
part_word = 112 ∷ 97 ∷ 114 ∷ 116 ∷ []

abbrev pub total_word : List ℕ
total_word = 116 ∷ 111 ∷ 116 ∷ 97 ∷ 108 ∷ []

abbrev pub over_word : List ℕ
over_word = 111 ∷ 118 ∷ 101 ∷ 114 ∷ []

abbrev pub number_word : List ℕ
number_word = 110 ∷ 117 ∷ 109 ∷ 98 ∷ 101 ∷ 114 ∷ []

abbrev pub refused_word : List ℕ
refused_word = 114 ∷ 101 ∷ 102 ∷ 117 ∷ 115 ∷ 101 ∷ 100 ∷ []

abbrev pub form_word : List ℕ
form_word = 102 ∷ 111 ∷ 114 ∷ 109 ∷ []

abbrev pub long_word : List ℕ
long_word = 108 ∷ 111 ∷ 110 ∷ 103 ∷ []

abbrev pub end_word : List ℕ
end_word = 101 ∷ 110 ∷ 100 ∷ []

-- a further field that is a number
unfoldable pub field : ℕ → List ℕ
field n = space ∷ decimal n

-- the word of an answer and its numbers; no line makes the calls that accept a table or number a tree
unfoldable pub answer_text : Answer → List ℕ
answer_text Approved = approved_word
answer_text NotPart = not_word ++ (space ∷ part_word)
answer_text (NotAt place) = not_word ++ field place
answer_text (Accepted states transitions) = accepted_word ++ (field states ++ field transitions)
answer_text (Done states transitions) = done_word ++ (field states ++ field transitions)
answer_text (Total number) = total_word ++ field number
answer_text Over = total_word ++ (space ∷ over_word)
answer_text (Serial number) = number_word ++ field number
answer_text Finished = done_word
answer_text (Refused number) = refused_word ++ field number

-- what came of a line: an answer, the column from which it is malformed, or that it is too long
unfoldable pub outcome_text : Result Answer Malformed → List ℕ
outcome_text (Ok answer) = answer_text answer
outcome_text (Err (Form column)) = form_word ++ field column
outcome_text (Err Long) = long_word

-- what is printed for a line: its number, its outcome
unfoldable pub line_text : ℕ → Result Answer Malformed → List ℕ
line_text number o = decimal number ++ (space ∷ (outcome_text o ++ (newline ∷ [])))

-- what is printed last: the lines read, the states and the transitions of the table
unfoldable pub end_text : ℕ → ℕ → ℕ → List ℕ
end_text lines states transitions =
    end_word ++ (field lines ++ (field states ++ (field transitions ++ (newline ∷ []))))

-- What the bench program prints, by the model that keeps a set (01: the plain machine): there is no table, and every
-- answer is the model's.
use Rattle.std.specs.Prelude.{Err, List, Ok, Result, [], ◌++◌, ◌∷◌, suc, ℕ, length, replicate}
use Rattle.automata.specs.Automaton.{states}
use Rattle.calls.specs.declared.Answer.{Answer}
use Rattle.calls.specs.Series.{Call, Model, add, ask, canonical_of, empty_model, query, remove, respond, total}
use Rattle.format.specs.Format.{scratch_bytes}
use Rattle.report.specs.Report.{end_text, line_text}
use Rattle.text.specs.Grammar.{Command, to_add, to_ask, to_drop}
use Rattle.text.specs.Reader.{Line, form, formed, long, read_line, totalled}
use Rattle.text.specs.declared.Malformed.{Malformed}
use Rattle.text.specs.declared.Malformed.TheVariants.{Form, Long}
use Rattle.console.specs.Input.{lines_of}

-- the call that a command makes, with a listing and a scratch of the right length
unfoldable pub call_of : Command → List ℕ → Call
call_of to_add s = add s (replicate scratch_bytes 0)
call_of to_drop s = remove s (replicate scratch_bytes 0)
call_of to_ask s = query (ask s)

-- what comes of a line, and the model after it
abbrev pub line_outcome : Line → Model → Result Answer Malformed
line_outcome (formed c s) m = Ok (respond m (call_of c s)).response.answer
line_outcome totalled m = Ok (respond m (query total)).response.answer
line_outcome (form n) m = Err (Form n)
line_outcome long m = Err Long

abbrev pub line_model : Line → Model → Model
line_model (formed c s) m = (respond m (call_of c s)).next
line_model totalled m = m
line_model (form n) m = m
line_model long m = m

-- what is printed for lines after n others: last, the numbers of the automaton of the model's set
abbrev pub machine_from : List (List ℕ) → ℕ → Model → List ℕ
machine_from [] n m = end_text n (states (canonical_of m)) (length (canonical_of m).transitions)
machine_from (s ∷ ss) n m =
    line_text (suc n) (line_outcome (read_line s) m) ++ machine_from ss (suc n) (line_model (read_line s) m)

-- what is printed for an input, starting from the empty set
unfoldable pub machine : List ℕ → List ℕ
machine input = machine_from (lines_of input) 0 empty_model

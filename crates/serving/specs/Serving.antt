-- What the bench program does with one line, as document 01 words it: what it prints, and what the line leaves in the
-- table and the scratch.
use Rattle.std.specs.Prelude.{Err, List, Ok, ℕ}
use Rattle.std.specs.Prelude as std
use Rattle.calls.specs.Calls.{Result, add_result, ask_answer, intake_answer, remove_result, total_answer}
use Rattle.calls.specs.declared.Answer.{Answer}
use Rattle.calls.specs.declared.Answer.TheVariants.{Accepted, Approved, Done, Finished, NotAt, NotPart, Over, Refused}
use Rattle.calls.specs.declared.Answer.TheVariants.{Serial, Total}
use Rattle.report.specs.Report.{end_text, line_text}
use Rattle.text.specs.Grammar.{Command, to_add, to_ask, to_drop}
use Rattle.text.specs.Reader.{Line, form, formed, long, read_line, totalled}
use Rattle.text.specs.declared.Malformed.{Malformed}
use Rattle.text.specs.declared.Malformed.TheVariants.{Form, Long}

-- the call that a command makes: ask changes nothing
unfoldable pub called : Command → List ℕ → List ℕ → List ℕ → Result
called to_add s b w = add_result s b w
called to_drop s b w = remove_result s b w
called to_ask s b w = record { answer = ask_answer s b; table = b; scratch = w }

-- what came of a line, and the table and the scratch after it
pub record Handled : Type 0 where
  pub outcome : std.Result Answer Malformed
  pub table : List ℕ
  pub scratch : List ℕ

abbrev pub answered : Result → Handled
answered r = record { outcome = Ok r.answer; table = r.table; scratch = r.scratch }

-- a command goes to its call; a line that asks for the total, is malformed or too long changes nothing
unfoldable pub handled : Line → List ℕ → List ℕ → Handled
handled (formed c s) b w = answered (called c s b w)
handled totalled b w = record { outcome = Ok (total_answer b); table = b; scratch = w }
handled (form n) b w = record { outcome = Err (Form n); table = b; scratch = w }
handled long b w = record { outcome = Err Long; table = b; scratch = w }

-- the text printed for a line, and the table and the scratch after it
pub record Served : Type 0 where
  pub text : List ℕ
  pub table : List ℕ
  pub scratch : List ℕ

abbrev pub reported : ℕ → Handled → Served
reported n h = record { text = line_text n h.outcome; table = h.table; scratch = h.scratch }

-- a line with its number, on a table and a scratch
unfoldable pub served : ℕ → List ℕ → List ℕ → List ℕ → Served
served n s b w = reported n (handled (read_line s) b w)

-- what is printed last for a table: its numbers of states and of transitions, as intake reports them. A table that the
-- calls left passes intake; for another one the numbers are 0.
abbrev pub closing_for : ℕ → Answer → List ℕ
closing_for lines Approved = end_text lines 0 0
closing_for lines NotPart = end_text lines 0 0
closing_for lines (NotAt k) = end_text lines 0 0
closing_for lines (Accepted n m) = end_text lines n m
closing_for lines (Done n m) = end_text lines 0 0
closing_for lines (Total n) = end_text lines 0 0
closing_for lines Over = end_text lines 0 0
closing_for lines (Serial n) = end_text lines 0 0
closing_for lines Finished = end_text lines 0 0
closing_for lines (Refused k) = end_text lines 0 0

unfoldable pub closing : ℕ → List ℕ → List ℕ
closing lines b = closing_for lines (intake_answer b)

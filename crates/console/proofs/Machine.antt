-- What the bench program prints for an input is what the model prints: SERIES, line by line.
use mathlib.Core.Bool.{Bool, ◌||◌, cond, false, true}
use mathlib.Core.List.{List, [], ◌++◌, ◌∷◌}
use mathlib.Core.Path.{◌∙◌, ◌≡◌, ap, ap₂, refl}
use Prim.Native.Nat.{◌≤◌, suc, ℕ}
use native.Mathlib.Omega.{arith}
use lib.Dec.{eqb, leb}
use lib.ListN.{length, length-replicate, replicate}
use borrow.Author.Tests.{leb-false, leb-true}
use Rattle.automata.specs.Automaton.{Automaton}
use Rattle.calls.proofs.Series.{in-step-meaning, one-call, zero-in-step}
use Rattle.calls.specs.Calls.{Response, add_result, change_result, intake_answer, outcome, remove_result}
use Rattle.calls.specs.Claim.{InStep}
use Rattle.calls.specs.Series.{BringsBytes, Model, empty_model, perform, query, query_result}
use Rattle.calls.specs.Series.{total}
use Rattle.format.specs.Format.{AllBytes, max_line, scratch_bytes, table_bytes}
use Rattle.std.specs.Prelude.{Ok}
use Rattle.report.specs.Report.{line_text}
use Rattle.serving.specs.Serving.{called, closing, closing_for, handled, served}
use Rattle.text.proofs.LineMeaning.{line-long}
use Rattle.text.specs.Grammar.{Command, to_add, to_ask, to_drop}
use Rattle.text.specs.Reader.{Line, form, formed, long, read_line, totalled}
use Rattle.console.specs.Input.{lines_of}
use Rattle.console.specs.Machine.{call_of, line_model, line_outcome, machine, machine_from}
use Rattle.console.specs.Console.{printed, printed_from}
use Rattle.console.proofs.Listings.{line-bytes}

abbrev zeros : List ℕ
zeros = replicate scratch_bytes 0

-- ---- the call of a command is one of the series

brings : (c : Command) (s : List ℕ) → AllBytes s → BringsBytes (call_of c s)
unfolding call_of
brings to_add s h = h
brings to_drop s h = h
brings to_ask s h = tt

called-answer : (c : Command) (s b : List ℕ) → (called c s b zeros).answer ≡ (perform b (call_of c s)).response.answer
unfolding called call_of perform query_result
called-answer to_add s b = refl
called-answer to_drop s b = refl
called-answer to_ask s b = refl

called-table : (c : Command) (s b : List ℕ) → (called c s b zeros).table ≡ (perform b (call_of c s)).next
unfolding called call_of perform
called-table to_add s b = refl
called-table to_drop s b = refl
called-table to_ask s b = refl

-- zeros stay zeros
outcome-scratch : (r : ℕ) (A : Automaton) (b : List ℕ) → (outcome r A b zeros).scratch ≡ zeros
unfolding outcome
outcome-scratch r A b = go (eqb r 0 || leb 16 r)
  where
    go : (t : Bool) → cond t (replicate (length zeros) 0) zeros ≡ zeros
    go true = ap (λ (n : ℕ). replicate n 0) (length-replicate {A = ℕ} scratch_bytes 0)
    go false = refl

called-scratch : (c : Command) (s b : List ℕ) → (called c s b zeros).scratch ≡ zeros
unfolding called add_result remove_result change_result
called-scratch to_add s b = outcome-scratch _ _ b
called-scratch to_drop s b = outcome-scratch _ _ b
called-scratch to_ask s b = refl

-- ---- a line

-- a line on a table that is in step with a model
record LineStep (line : Line) (b : List ℕ) (m : Model) : Type 0 where
  outcome : (handled line b zeros).outcome ≡ line_outcome line m
  next : InStep (handled line b zeros).table (line_model line m)
  scratch : (handled line b zeros).scratch ≡ zeros

short : (s : List ℕ) (c : Command) (l : List ℕ) → read_line s ≡ formed c l → length s ≤ max_line
short s c l e = go (leb (length s) max_line) refl
  where
    go : (t : Bool) → leb (length s) max_line ≡ t → length s ≤ max_line
    go true h = leb-true (length s) max_line h
    go false h =
        let p : read_line s ≡ long = (line-long s).1 (leb-false (length s) max_line h) in
        let z : ◌≡◌ {A = ℕ} 0 1 = cc in absurd (omega arith)

line_step : (s : List ℕ) (line : Line) → read_line s ≡ line → (b : List ℕ) (m : Model) → InStep b m → LineStep line b m
unfolding handled perform query_result
line_step s (formed c l) e b m X =
    let (a, Y) = one-call b m X (call_of c l) (brings c l (line-bytes s c l (short s c l e) e)) in
    record {
      outcome = ap Ok (called-answer c l b ∙ ap (λ (x : Response). x.answer) a);
      next = rw (called-table c l b) Y;
      scratch = called-scratch c l b;
    }
line_step s totalled e b m X =
    let (a, Y) = one-call b m X (query total) tt in
    record { outcome = ap Ok (ap (λ (x : Response). x.answer) a); next = X; scratch = refl }
line_step s (form n) e b m X = record { outcome = refl; next = X; scratch = refl }
line_step s long e b m X = record { outcome = refl; next = X; scratch = refl }

-- ---- all lines

closing-model : (n : ℕ) (b : List ℕ) (m : Model) → InStep b m → closing n b ≡ machine_from [] n m
unfolding closing query_result
closing-model n b m X =
    ap (closing_for n)
    (ap intake_answer X.table ∙ ap (λ (x : Response). x.answer) (in-step-meaning b m X).taken)

printed-from : (ss : List (List ℕ)) (n : ℕ) (b : List ℕ) (m : Model) → InStep b m →
    printed_from ss n b zeros ≡ machine_from ss n m
unfolding served
printed-from [] n b m X = closing-model n b m X
printed-from (s ∷ ss) n b m X =
    let R = line_step s (read_line s) refl b m X in
    let h = handled (read_line s) b zeros in
    ap (λ (w : List ℕ). line_text (suc n) h.outcome ++ printed_from ss (suc n) h.table w) R.scratch ∙
    ap₂ (λ (x y : List ℕ). x ++ y) (ap (line_text (suc n)) R.outcome)
    (printed-from ss (suc n) h.table (line_model (read_line s) m) R.next)

-- MACHINE: for every input
pub printed-machine : (input : List ℕ) → printed input ≡ machine input
unfolding printed machine
printed-machine input =
    printed-from (lines_of input) 0 (replicate table_bytes 0) empty_model zero-in-step

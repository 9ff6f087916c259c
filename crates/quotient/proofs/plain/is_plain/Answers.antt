-- `quotient::plain::is_plain` meets its contract: there are arguments, and none is marked.
use mathlib.Core.Bool.{false≢true}
use mathlib.Core.Path.{◌∙◌, sym}
use native.Mathlib.Omega.{arith}
use borrow.Author.Tests.{not-true}
use Rattle.quotient.proofs.plain.is_plain.Goals as goal

pub returns-then-arity_of-eq0 : goal.returns-then-arity_of-eq0
returns-then-arity_of-eq0 c = record { bound = λ t. absurd (false≢true t); at_value = λ t. absurd (false≢true t) }

pub returns : goal.returns
returns c = record {
  bound = λ _. omega (arith, c.arity_of.ensures);
  at_value = λ t. sym c.some_marked.ensures ∙ not-true _ t;
}

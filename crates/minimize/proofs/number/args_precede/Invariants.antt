-- `minimize::number::args_precede` meets its contract: in the loop the result is that for the arguments left.
use Rattle.minimize.proofs.Arguments.{arg_name}
use Rattle.fields.proofs.Searching.{LexFrom}
use Rattle.minimize.specs.Renaming.{name_in}
use Rattle.fields.specs.Fields.{first_args}
use Rattle.automata.specs.Order.{lex}
use mathlib.Core.List.{map}
use Rattle.minimize.proofs.number.args_precede.Given as goal

abbrev pub invariant-loop-k : goal.invariant-loop-k
invariant-loop-k l = LexFrom (lex (map (name_in l.numbers) (first_args l.transitions l.a l.n)) (map (name_in l.numbers) (first_args l.transitions l.b l.n))) (arg_name
    l.numbers l.transitions l.a) (arg_name l.numbers l.transitions l.b) l.n l.k

-- `ranks::ranking::is_own` meets its contract: the arguments before `k` agree.
use lib.ListN.{drop}
use Rattle.fields.proofs.Searching.{AgreeTo}
use Rattle.ranks.proofs.ranking.is_own.Given as goal

abbrev pub invariant-loop-k : goal.invariant-loop-k
invariant-loop-k l = AgreeTo l.transitions l.at l.arity (drop l.top l.stack) l.k

-- `bench::read_some` meets its contract: what the read left in the chunk was taken.
use Rattle.bench.proofs.Meeting.{read-turn}
use borrow.Author.Rules.{rules}
use Rattle.bench.proofs.read_some.Goals as goal

pub returns : goal.returns
returns c =
    read-turn c.read_chunk-got.result _ (search rules) c.read_chunk-got.ensures c.take_chunk.ensures

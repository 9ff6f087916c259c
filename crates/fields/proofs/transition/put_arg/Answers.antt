-- `fields::transition::put_arg` meets its contract: the other fields and places stand elsewhere.
use Rattle.fields.proofs.Entries.{arg-put}
use Rattle.fields.proofs.transition.put_arg.Goals as goal

pub returns : goal.returns
returns c = arg-put c.args.entry.now c.args.q c.requires.len c.args.k c.requires.k_lt_max_arity

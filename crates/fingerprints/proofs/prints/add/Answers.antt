-- `fingerprints::prints::add` meets its contract: one entry gains a value.
use Rattle.std.proofs.Common.{rules}
use Rattle.fingerprints.proofs.Adding.{gained-only}
use Rattle.fingerprints.proofs.prints.add.Goals as goal

pub returns : goal.returns
returns c =
    gained-only c.args.prints.now c.args.q c.args.v c.requires.prints c.requires.q_bound (search rules)

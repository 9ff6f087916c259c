-- `packed::filling::padded` meets its contract: shifting a number of `arity` digits does not overflow.
use Rattle.packed.proofs.Zeros.{pad-none, pad-shift}
use Rattle.packed.proofs.filling.padded.Goals as goal

pub returns-then-arity-eq0 : goal.returns-then-arity-eq0
returns-then-arity-eq0 c = pad-none c.args.arity c.args.prefix c.if-arity-eq0.true c.requires.prefix_bound

pub returns : goal.returns
returns c =
    pad-shift c.args.arity c.args.prefix c.requires.arity_le_max_arity c.requires.prefix_bound

-- `fingerprints::prints::state_prints` meets its contract: the class and the sum over all uses.
use Rattle.fingerprints.proofs.Adding.{fingerprinted}
use Rattle.fingerprints.proofs.prints.state_prints.Goals as goal

pub returns : goal.returns
returns c =
    fingerprinted c.args.classes.now c.args.transitions.now c.args.n c.args.count
    c.class_prints-prints.ensures c.add_all_uses.ensures

-- `fingerprints::values::salt` meets its contract: products of numbers below 2^32 fit 64 bits.
use Rattle.std.proofs.Common.{refl}
use Rattle.fingerprints.specs.Fingerprints.{salted}
use Rattle.fingerprints.proofs.values.salt.Goals as goal

pub returns : goal.returns
unfolding salted
returns c = refl

-- `fingerprints::differing::differs_by_bucket` meets its contract: whoever has a free bucket differs.
use Rattle.std.proofs.Common.{sym}
use Rattle.fingerprints.proofs.Buckets.{free-differs}
use Rattle.marking.proofs.Sweeps.{nonzero-false}
use Rattle.fingerprints.proofs.differing.differs_by_bucket.Goals as goal

pub returns-then-taken-bucket-eq0 : goal.returns-then-taken-bucket-eq0
returns-then-taken-bucket-eq0 c =
    sym (free-differs c.requires.taken_below c.bucket.ensures.value (nonzero-false _ c.if-taken-bucket-eq0.true))

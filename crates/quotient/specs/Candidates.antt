-- The names that are kept, of all that may be.
use Rattle.std.specs.Prelude.{Bool, ℕ}
use Rattle.quotient.specs.Kept.{KeptAbove, kept_name}
use Rattle.quotient.specs.declared.named.Candidates.{Candidates}
use Rattle.quotient.specs.declared.named.KeptNames.{KeptNames}

-- the name x is kept
abbrev pub kept_in : Candidates → ℕ → Bool
kept_in c = kept_name c.n c.opens.now c.names.now

-- the chains have the kept names above x
abbrev pub KeptIn : Candidates → ℕ → KeptNames → Type 0
KeptIn c x k = KeptAbove c.n c.m c.opens.now c.states.now c.names.now x k.firsts k.nexts k.sizes

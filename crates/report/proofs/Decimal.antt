-- How many digits a number of 64 bits has.
use Prim.Native.Nat.{◌≤◌, ℕ}
use native.Mathlib.Omega.{arith}
use lib.ListN.{length}
use mir.Syntax.{w64}
use mir.Val.{Fits}
use Rattle.lists.specs.Decimal.{decimal}
use Rattle.report.specs.Printing.{number_bytes}
use Rattle.lists.proofs.Decimal.{decimal-length}

-- a number of 64 bits has at most 20 digits
pub decimal-fits : {n : ℕ} → Fits w64 n → length (decimal n) ≤ number_bytes
decimal-fits {n} f = decimal-length 19 n (omega arith)

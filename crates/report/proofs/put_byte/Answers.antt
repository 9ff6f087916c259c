-- `put_byte` meets its contract.
use native.Mathlib.Omega.{arith}
use Rattle.report.proofs.Puts.{put_byte}
use Rattle.report.proofs.put_byte.Goals as goal

pub returns : goal.returns
returns c = put_byte c.args.out.now c.args.at c.args.byte (omega arith)

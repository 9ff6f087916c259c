-- `bench::output::finish` meets its contract: what is handed over is all that the console prints when the input ends.
use native.Mathlib.Omega.{arith}
use Rattle.bench.proofs.Taking.{finished, start-same}
use Rattle.bench.proofs.output.finish.Goals as goal

pub hand_over-requires : goal.hand_over-requires
hand_over-requires c =
    start-same c.close-printed.result c.close-printed.new.out
    (omega (arith, c.close-printed.ensures.within, c.close-printed.ensures.size))

pub returns : goal.returns
returns c =
    finished _ c.close-printed.result _ _ c.close-printed.ensures c.hand_over.ensures

-- `bench::take_chunk` meets its contract: all that the read brought is taken, and nothing ends the input.
use Rattle.std.proofs.Common.{arith, rules}
use Rattle.std.proofs.lemmas.Grind.{common_steps}
use Rattle.bench.specs.Turns.{brought}
use Rattle.bench.proofs.Meeting.{brought-held, turned-none, turned-taken, turned-unwritten}
use Rattle.bench.proofs.take_chunk.Goals as goal

pub returns-then-got-eq0 : goal.returns-then-got-eq0
returns-then-got-eq0 c =
    turned-none _ c.args.w c.args.chunk.now c.args.got c.args.line.now c.args.table.now c.args.scratch.now
    c.args.out.now _ (omega arith) c.if-got-eq0.true c.requires.buffered c.requires.idle

pub returns-in_err-next : goal.returns-in_err-next
returns-in_err-next c =
    let held = brought-held c.args.got c.args.chunk.now {n = c.min-got.result} (omega arith) in
    let turned = turned-unwritten _ _ _ (brought c.args.got c.args.chunk.now) _ _ _ _ _ (grind (arith, common_steps))
    c.in_err-next.ensures in
    search rules

pub returns : goal.returns
returns c =
    let held = brought-held c.args.got c.args.chunk.now {n = c.min-got.result} (omega arith) in
    turned-taken _ _ _ _ (brought c.args.got c.args.chunk.now) _ _ _ _ _ (grind (arith, common_steps))
    (grind (arith, common_steps)) c.in_ok-next.ensures

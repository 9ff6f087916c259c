-- `bench::output::flush` meets its contract: all that is printed is handed over.
use Rattle.std.proofs.Common.{rules, arith, ◌≡◌, ◌-◌}
use Rattle.bench.specs.Output.{Flushed}
use Rattle.bench.proofs.Taking.{handed-size, start-same}
use Rattle.bench.proofs.output.flush.Goals as goal

pub hand_over-requires : goal.hand_over-requires
hand_over-requires c = start-same c.args.p.printed c.args.out.now c.requires

pub returns-in_err-handed : goal.returns-in_err-handed
unfolding Flushed
returns-in_err-handed c = search rules

pub overflow_sub-result : goal.overflow_sub-result
overflow_sub-result c =
    omega (arith, handed-size _ c.args.p.printed c.args.out.now _ c.requires c.in_ok-handed.ensures)

pub returns : goal.returns
unfolding Flushed
returns c =
    let p = c.args.p in
    let k = c.in_ok-handed.handed in
    let e = handed-size _ p.printed c.args.out.now k c.requires c.in_ok-handed.ensures in
    let z : p.printed - k ≡ 0 = omega (arith, e) in
    λ i. record { held = p.held; lines = p.lines; printed = z i }

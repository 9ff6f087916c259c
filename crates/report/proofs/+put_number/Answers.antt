use Rattle.std.proofs.Common.{length, ap, arith}
use Rattle.lists.proofs.Decimal.{decimal_digit, decimal-more, decimal-more-length}
use Rattle.report.proofs.Puts.{put_then}
use Rattle.report.proofs.+put_number.Goals as goal

pub put_byte-requires : goal.put_byte-requires
put_byte-requires t c =
    let one = ap length (decimal_digit c.args.n (omega arith)) in
    record { size = c.requires.size; fits = omega arith }

pub returns-then-n-lt10 : goal.returns-then-n-lt10
returns-then-n-lt10 t c =
    rw (decimal_digit c.args.n (omega arith), ← c.digit.ensures)
    c.put_byte.ensures

pub put_number-last-requires : goal.put_number-last-requires
put_number-last-requires t c =
    let one_more = decimal-more-length c.args.n (omega arith) in
    (omega arith, record { size = c.requires.size; fits = omega arith })

pub put_byte-requires-2 : goal.put_byte-requires-2
put_byte-requires-2 t c =
    let one_more = decimal-more-length c.args.n (omega arith) in
    record { size = omega arith; fits = omega arith }

pub returns : goal.returns
returns t c =
    rw (decimal-more c.args.n (omega arith), ← c.digit-2.ensures)
    (put_then c.put_number-last.ensures c.put_byte-2.ensures)

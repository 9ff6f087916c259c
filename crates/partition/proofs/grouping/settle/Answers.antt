-- `partition::grouping::settle` meets its contract: q has its leader's key, or goes to the least of its part and key.
use mathlib.Core.Path.{◌∙◌, ap, sym}
use native.Mathlib.Omega.{arith}
use Rattle.partition.specs.Splits.{key_of}
use Rattle.partition.proofs.Moving.{settled-leaves, settled-stays}
use Rattle.partition.proofs.grouping.settle.Goals as goal

pub offset_bounds-keys-from : goal.offset_bounds-keys-from
offset_bounds-keys-from c =
    omega (arith, c.from.ensures, c.requires.led_below c.args.q (omega arith), c.requires.q_bound)

pub bounds-keys-from : goal.bounds-keys-from
bounds-keys-from c =
    omega (arith, c.from.ensures, c.requires.led_below c.args.q (omega arith), c.requires.q_bound)

pub returns-then-keys-q : goal.returns-then-keys-q
returns-then-keys-q c =
    settled-stays (c.if-keys-q.true ∙ ap (key_of c.args.keys.now) c.from.ensures)

pub returns : goal.returns
returns c =
    settled-leaves (omega (arith, c.requires.parts_len, c.requires.q_bound))
    (λ e. c.if-keys-q.false
    (e ∙ ap (key_of c.args.keys.now) (sym c.from.ensures)))
    c.first_same-first.ensures

-- A transition without either state agrees.
use Rattle.fields.proofs.Transitions.{readable}
use Rattle.uses.specs.Settings.{arrays_in}
use Rattle.uses.proofs.Scanned.{agrees-neither}
use Rattle.uses.proofs.scanning.unused_or_agrees.Goals as goal

pub returns-then-has_neither : goal.returns-then-has_neither
returns-then-has_neither c =
    let r = readable c.args.setting.now.over.runs c.args.i c.requires.i_lt_count in
    agrees-neither (arrays_in c.args.setting.now c.args.frames) c.args.setting.now.transitions.now c.args.setting.now.count c.args.p c.args.q c.args.i r.narrow
    c.has_neither.ensures c.if-has_neither.true

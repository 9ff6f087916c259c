use mathlib.Core.Path.{ap}
use native.Mathlib.Omega.{arith}
use Rattle.fields.proofs.Entries.{then-arity, then-out}
use Rattle.minimize.specs.Renaming.{name_in}
use Rattle.minimize.proofs.Entries.{renaming-end, renaming-next, renaming-start}
use Rattle.minimize.proofs.renaming.renamed.Goals as goal

pub loop-k-init : goal.loop-k-init
loop-k-init c =
    let made = then-out (then-arity c.blank_entry-entry.ensures c.put_arity.ensures)
    c.put_out.ensures in (
      c.arity_of-n.ensures,
      renaming-start c.args.transitions.now c.args.at c.args.names.now (rw c.arity_of-n.ensures at made)
          (ap (name_in c.args.names.now) c.out_of-out.ensures.value),
    )

pub put_arg-requires : goal.put_arg-requires
put_arg-requires c = record { len = c.loop-k.invariant.1.size; k_lt_max_arity = omega arith }

pub loop-k-preserved : goal.loop-k-preserved
loop-k-preserved c = (
  c.loop-k.invariant.0,
  renaming-next c.loop-k.invariant.1 c.requires.narrow (omega arith)
      (ap (name_in c.args.names.now) c.arg_of-q.ensures.value) c.put_arg.ensures,
)

pub put_label-requires : goal.put_label-requires
put_label-requires c = record { len = c.loop-k.invariant.1.size; label_le_max_label = c.label_of.ensures.upper_bound }

pub returns : goal.returns
returns c =
    renaming-end c.loop-k.invariant.1 c.requires.narrow (omega arith) c.label_of.ensures.value c.put_label.ensures.has_fields c.put_label.ensures.after

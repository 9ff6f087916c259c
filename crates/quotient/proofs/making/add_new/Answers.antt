-- `quotient::making::add_new` meets its contract: a subtree that is new adds an entry.
use native.Mathlib.Omega.{arith}
use mathlib.Core.Path.{◌∙◌, ap, sym}
use mathlib.Core.List.{[], ◌∷◌}
use Prim.Native.Nat.{◌*◌, ◌+◌, ℕ}
use lib.ListN.{get_or}
use Rattle.quotient.proofs.Appending.{appended-none, appended-same, room-same}
use Rattle.quotient.proofs.Walking.{entry_new, entry-none}
use Rattle.quotient.proofs.making.add_new.Goals as goal

pub returns-then-not-is_new-clause-appended : goal.returns-then-not-is_new-clause-appended
returns-then-not-is_new-clause-appended c =
    appended-same (sym (entry-none c.args.names.now c.args.j (sym c.is_new.ensures ∙ c.if-not-is_new.true)))
    appended-none

pub overflow_mul-names : goal.overflow_mul-names
overflow_mul-names c =
    omega (
      arith,
      c.args.names.now.each_meta.each c.args.j c.requires.j_lt_m,
      c.args.names.now.named.now.nodes.label c.args.j c.requires.j_lt_m,
      c.args.names.now.named.now.nodes.narrow c.args.j c.requires.j_lt_m,
    )

pub overflow_add-names : goal.overflow_add-names
overflow_add-names c =
    omega (
      arith,
      c.index-name.ensures.upper_bound,
      c.args.names.now.each_meta.each c.args.j c.requires.j_lt_m,
      c.args.names.now.named.now.nodes.label c.args.j c.requires.j_lt_m,
      c.args.names.now.named.now.nodes.narrow c.args.j c.requires.j_lt_m,
    )

pub push-requires : goal.push-requires
push-requires c =
    room-same c.args.entries.now.count
    (entry_new c.args.names.now c.args.j (sym c.is_new.ensures ∙ c.if-not-is_new.false)) c.requires.room

pub returns-clause-appended : goal.returns-clause-appended
returns-clause-appended c =
    let g = c.args.names.now in
    let j = c.args.j in
    appended-same
    (ap (λ (x : ℕ). (256 * get_or g.metas.now j 0 + x, get_or g.keys.now j 0) ∷ []) c.index-name.ensures.value
    ∙ sym (entry_new g j (sym c.is_new.ensures ∙ c.if-not-is_new.false))) c.push.ensures.appended

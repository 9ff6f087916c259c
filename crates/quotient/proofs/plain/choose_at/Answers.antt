-- `quotient::plain::choose_at` meets its contract: a plain transition has one entry.
use native.Mathlib.Omega.{arith}
use mathlib.Core.Path.{◌≡◌, sym}
use Prim.Native.Nat.{◌+◌}
use Rattle.quotient.specs.Making.{entry_of}
use Rattle.quotient.specs.Named.{choices_at}
use Rattle.quotient.proofs.Appending.{appended-same, room-same}
use Rattle.quotient.proofs.PlainChoice.{plain_entry}
use Rattle.quotient.proofs.plain.choose_at.Goals as goal
use Rattle.quotient.proofs.plain.choose_at.Goals.{After-args_at}

plain : (c : After-args_at) →
    choices_at c.args.names.now c.args.transitions.now c.args.at ≡
    entry_of c.meta_at.result c.args_at.result c.out_of-out.result
plain c =
    plain_entry c.args.names.now c.args.transitions.now c.args.at c.args.odd.now c.requires.odd_marked
    (λ i. omega (arith, c.type_inv.transitions i)) c.requires.padded (c.is_plain.ensures.bound c.if-is_plain.true)
    (c.is_plain.ensures.at_value c.if-is_plain.true) c.meta_at.ensures c.args_at.ensures c.out_of-out.ensures.value

pub emit-requires : goal.emit-requires
emit-requires c = record {
  room = room-same c.args.entries.now.count (plain (goal.at.emit-requires c).After-args_at) c.requires.room;
  meta_bound = omega (
    arith,
    c.meta_at.ensures,
    c.requires.readable.narrow,
    c.type_inv.transitions c.args.at,
    c.type_inv.transitions (c.args.at + 1),
  );
}

pub returns-then-is_plain-clause-appended : goal.returns-then-is_plain-clause-appended
returns-then-is_plain-clause-appended c =
    appended-same (sym (plain (goal.at.returns-then-is_plain-clause-appended c).After-args_at)) c.emit.ensures.appended

-- `naming::parents::note_child` meets its contract: the first parent is kept if there was one.
use mathlib.Core.Path.{refl}
use lib.ListN.{get_or}
use Prim.Native.Nat.{◌-◌}
use borrow.Author.Tests.{eq-eqb, ne_eqb}
use Rattle.naming.proofs.parents.note_child.Goals as goal

pub returns-then-not-first : goal.returns-then-not-first
returns-then-not-first c =
    record { last = refl; first = rw (ne_eqb (get_or c.args.parents.now.tos (c.args.j - 1) 0) 0 c.if-not-first.true) }

pub returns : goal.returns
returns c =
    record { last = refl; first = rw (eq-eqb (get_or c.args.parents.now.tos (c.args.j - 1) 0) 0 c.if-not-first.false) }

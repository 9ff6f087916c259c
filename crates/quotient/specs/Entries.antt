-- Entries that are appended to two arrays.
use Rattle.std.specs.Prelude.{List, ◌≡◌, ◌+◌, ℕ}
use Rattle.lists.specs.Positions.{Pair}
use Rattle.quotient.specs.Making.{Appended, Room}
use Rattle.quotient.specs.declared.entries.Entries.{Entries}

-- there is room for n more
abbrev pub RoomFor : Entries → ℕ → Type 0
RoomFor l n = Room l.heads.now l.args.now (l.count + n)

-- the arrays are the same that were lent
abbrev pub SameArrays : Entries → Entries → Type 0
SameArrays l l' = (l'.heads.ghost_name ≡ l.heads.ghost_name) × (l'.args.ghost_name ≡ l.args.ghost_name)

-- ps was appended
abbrev pub AppendedTo : Entries → List Pair → Entries → Type 0
AppendedTo l ps l' = Appended l.heads.now l.args.now l.count ps l'.heads.now l'.args.now l'.count

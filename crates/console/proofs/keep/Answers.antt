-- `console::keep` meets its contract: a byte that has no room is dropped.
use Rattle.console.proofs.Moves.{kept_full, kept_more}
use Rattle.console.proofs.keep.Goals as goal

pub returns-then-held-ge-HELD_BYTES : goal.returns-then-held-ge-HELD_BYTES
returns-then-held-ge-HELD_BYTES c = kept_full _ _ _ c.requires.line_len c.requires.held_le_held_bytes c.if-held-ge-HELD_BYTES.true

pub returns : goal.returns
returns c = kept_more _ _ _ c.requires.line_len c.if-held-ge-HELD_BYTES.false

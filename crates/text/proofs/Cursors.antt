-- Text cursors on a line: a step that stays on the line does not wrap, and what is read from a cursor on is what is
-- read from a later one after the bytes between.
use Rattle.std.proofs.Common.{◌≡◌, ℕ, suc, ◌+◌, ◌%◌, ◌^◌, ◌<◌, ◌≤◌, List, ◌++◌, length, get_or, drop, sym, ap, ◌∙◌, arith, drop_of_length-le}
use Rattle.format.specs.Format.{max_line}
use Rattle.text.specs.Clauses.{read_from}
use Rattle.text.specs.Columns.{Ahead, OnLine, advanced, line_start}
use Rattle.text.specs.Reader.{Place, bad, ending, next, scan, stuck}
use Rattle.text.specs.declared.cursor.Cursor.{Cursor}
use Rattle.text.proofs.Scan.{ending-stuck, scan-from}

pub start-on-line : (s : List ℕ) → length s ≤ max_line → OnLine s line_start
start-on-line s h = record { short = h; within = omega arith; column = omega arith }

module _ {s : List ℕ} {c : Cursor} (o : OnLine s c) where
  pub ahead : (n : ℕ) (d : Cursor) → d ≡ advanced c n → c.place + n ≤ length s → Ahead c n d
  ahead n d e h =
      let p : (c.place + n) % 2 ^ 64 ≡ c.place + n = omega arith in
      let q : (c.column + n) % 2 ^ 64 ≡ c.column + n = omega arith in
      record { place = ap (λ (x : Cursor). x.place) e ∙ p; column = ap (λ (x : Cursor). x.column) e ∙ q }

  pub ahead-on-line : {n : ℕ} {d : Cursor} → Ahead c n d → d.place ≤ length s → OnLine s d
  ahead-on-line a h = record { short = o.short; within = h; column = omega arith }

  -- past bytes v
  pub read-on : {d : Cursor} (v : List ℕ) (p q : Place) → drop c.place s ≡ v ++ drop d.place s →
      Ahead c (length v) d →
      ((n : ℕ) → scan (v ++ drop d.place s) n p ≡ scan (drop d.place s) (n + length v) q) →
      read_from s c p ≡ read_from s d q
  read-on {d} v p q e a f =
      ap (ending (suc (length s)))
      (ap (λ y. scan y c.column p) e ∙ f c.column ∙ ap (λ k. scan (drop d.place s) k q) (sym a.column))

  -- at the end of the line
  pub read-end : length s ≤ c.place → (p : Place) → ((n : ℕ) → ending n p ≡ bad n) → read_from s c p ≡ bad c.column
  unfolding scan
  read-end h p e =
      let q : suc (length s) ≡ c.column = omega arith in
      rw (drop_of_length-le s {i = c.place} h) (e (suc (length s)) ∙ ap bad q)

  module _ (h : c.place < length s) (p : Place) where
    -- past one byte
    pub read_byte : {d : Cursor} → Ahead c 1 d →
        read_from s c p ≡ read_from s d (next c.column p (get_or s c.place 0))
    read_byte {d} a =
        let q = next c.column p (get_or s c.place 0) in
        let i : suc c.place ≡ d.place = omega arith in
        let j : suc c.column ≡ d.column = omega arith in
        ap (ending (suc (length s)))
        (scan-from s c.place c.column p h ∙ λ k. scan (drop (i k) s) (j k) q)

    -- at a byte that is not allowed
    pub read-stuck : next c.column p (get_or s c.place 0) ≡ stuck c.column → read_from s c p ≡ bad c.column
    read-stuck e =
        ap (ending (suc (length s)))
        (scan-from s c.place c.column p h ∙ ap (scan (drop (suc c.place) s) (suc c.column)) e) ∙
        ending-stuck (suc (length s)) (drop (suc c.place) s) (suc c.column) c.column

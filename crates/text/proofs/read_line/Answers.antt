-- `text::read_line` meets its contract: the ways to read a line are tried one after the other, and the furthest cursor
-- counts.
use Rattle.std.proofs.Common.{max, ap, ◌∙◌, arith}
use Rattle.text.specs.Grammar.{to_add, to_ask, to_drop}
use Rattle.text.proofs.Lines.{broken-form, broken-size, parsed-broken, parsed-long, parsed-total, parsed-whole}
use Rattle.text.proofs.read_line.Goals as goal

pub returns-then-line-gt-MAX_LINE : goal.returns-then-line-gt-MAX_LINE
returns-then-line-gt-MAX_LINE c =
    let both = parsed-long _ _ (omega arith) c.clear.ensures in
    record { answer = both.0; listing = both.1 }

pub returns-in-Ok : goal.returns-in-Ok
returns-in-Ok c =
    let both = parsed-whole to_add _ _ c.if-line-gt-MAX_LINE.false _ c.in-Ok.ensures in
    record { answer = both.0; listing = both.1 }

pub read_form-requires-2 : goal.read_form-requires-2
read_form-requires-2 c =
    let size = broken-size to_add _ _ _ c.in-Err.ensures in
    record {
      line_len_bound = c.if-line-gt-MAX_LINE.false;
      shortest_head_in_bounds = omega arith;
      listing_len = size;
    }

pub returns-in-Ok-read_form : goal.returns-in-Ok-read_form
returns-in-Ok-read_form c =
    let both = parsed-whole to_drop _ _ c.if-line-gt-MAX_LINE.false _ c.in-Ok-read_form.ensures in
    record { answer = both.0; listing = both.1 }

pub read_form-requires-3 : goal.read_form-requires-3
read_form-requires-3 c =
    let size = broken-size to_drop _ _ _ c.in-Err-read_form.ensures in
    record {
      line_len_bound = c.if-line-gt-MAX_LINE.false;
      shortest_head_in_bounds = omega arith;
      listing_len = size;
    }

pub returns-in-Ok-read_form-2 : goal.returns-in-Ok-read_form-2
returns-in-Ok-read_form-2 c =
    let both = parsed-whole to_ask _ _ c.if-line-gt-MAX_LINE.false _ c.in-Ok-read_form-2.ensures in
    record { answer = both.0; listing = both.1 }

pub clear-requires-2 : goal.clear-requires-2
clear-requires-2 c =
    broken-size to_ask _ _ _ c.in-Err-read_form-2.ensures

pub returns-in_default : goal.returns-in_default
returns-in_default c =
    let both = parsed-total _ _ c.clear-2.ensures _ c.in_default.ensures in
    record { answer = both.0; listing = both.1 }

pub returns : goal.returns
returns c =
    let p = broken-form to_add _ _ _ c.in-Err.ensures in
    let q = broken-form to_drop _ _ _ c.in-Err-read_form.ensures in
    let r = broken-form to_ask _ _ _ c.in-Err-read_form-2.ensures in
    let e = c.further-2.ensures ∙ ap (max _) c.further.ensures in
    let both = parsed-broken _ _ c.clear-2.ensures _ _ _ _ _ c.in-Err-read_total.ensures c.if-line-gt-MAX_LINE.false p q r (c.further-end.ensures ∙ ap (max _) e) in
    record { answer = both.0; listing = both.1 }

-- `validity::numbering::read` meets its contract: each return is a law of the pass.
use Rattle.std.proofs.Common.{ℕ, get_or, sym, ap, ◌∙◌, arith}
use Rattle.validity.proofs.Passing.{read-broken, read_known, read_low, read_next, spans-next}
use Rattle.validity.proofs.numbering.read.Goals as goal

pub returns-then-out-t : goal.returns-then-out-t
returns-then-out-t c = record {
  numbers_read = read_low c.args.transitions.now c.args.i c.args.seen.now c.requires.seen_len
      c.requires.passed (omega (
        arith,
        c.top_argument-t.ensures,
        c.out_of-out.ensures.value,
      ));
  spans_2 = c.requires.spans;
}

pub returns-then-leads_to : goal.returns-then-leads_to
returns-then-leads_to c =
    let o = c.out_of-out.ensures.value in
    let m = c.from.ensures ∙ ap (λ (q : ℕ). get_or c.args.seen.now q 0) o in
    let l = c.leads_to.ensures c.if-leads_to.true in
    record {
      numbers_read = read_known c.args.transitions.now c.args.i c.args.seen.now c.requires.seen_len
          c.requires.passed c.requires.spans (omega (arith, c.top_argument-t.ensures, o, c.if-out-t.false))
          (omega (arith, l.0, m)) (omega (arith, l.1, m, c.top_argument-t.ensures));
      spans_2 = c.requires.spans;
    }

pub returns-then-not-all_seen : goal.returns-then-not-all_seen
returns-then-not-all_seen c =
    let o = c.out_of-out.ensures.value in
    let e = sym c.all_seen.ensures ∙ c.if-not-all_seen.true in
    record {
      numbers_read = read-broken c.args.transitions.now c.args.i c.args.seen.now c.requires.seen_len
          c.requires.passed (rw (c.top_argument-t.ensures, o) at e);
      spans_2 = c.requires.spans;
    }

pub returns : goal.returns
returns c =
    let o = c.out_of-out.ensures.value in
    let e = sym c.all_seen.ensures ∙ c.if-not-all_seen.false in
    record {
      numbers_read = rw (c.top_argument-t.ensures, o) (read_next c.args.transitions.now c.args.i c.args.seen.now c.requires.seen_len
          c.requires.passed (omega (arith, c.top_argument-t.ensures, o)) (omega (arith, o)) (rw (c.top_argument-t.ensures, o) at e));
      spans_2 = spans-next c.args.seen.now c.top_argument-t.result
          c.out_of-out.result c.requires.seen_len (omega arith) (omega arith) e
          c.requires.spans;
    }

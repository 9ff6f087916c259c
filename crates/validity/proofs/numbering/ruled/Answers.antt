use mathlib.Core.Bool.{false≢true}
use Rattle.std.proofs.Common.{◌≡◌, ℕ, ◌+◌, ◌-◌, sym, ◌∙◌, subst, arith}
use lib.ListN.{length-replicate}
use Rattle.format.specs.Format.{byte_values}
use Rattle.validity.specs.Rules.{NumbersRead}
use Rattle.fields.proofs.Transitions.{readable}
use Rattle.lists.proofs.Loops.{clean_end, clean-next}
use Rattle.validity.proofs.Passing.{pass-broken, pass-end, pass-start, spans-none}
use Rattle.validity.proofs.Rising.{climbing-start}
use Rattle.validity.proofs.numbering.ruled.Goals as goal

pub loop-i-init : goal.loop-i-init
loop-i-init c = (
  length-replicate {A = ℕ} byte_values 0,
  pass-start c.args.transitions.now,
  spans-none,
  climbing-start c.args.transitions.now c.args.count,
)

pub climbs-above-requires : goal.climbs-above-requires
climbs-above-requires c =
    let i = c.loop-i.i in
    record {
      readable = readable c.requires.holds_transitions_over.runs i (omega arith);
      padded = c.requires.holds_padded.each i (omega arith);
    }

pub read-requires : goal.read-requires
read-requires c =
    let now = c.loop-i in
    record {
      readable = readable c.requires.holds_transitions_over.runs now.i (omega arith);
      padded = c.requires.holds_padded.each now.i (omega arith);
      seen_len = now.invariant.0;
      passed = now.invariant.1;
      spans = now.invariant.2;
    }

pub returns-then-not-read : goal.returns-then-not-read
returns-then-not-read c =
    let now = c.loop-i in
    let s = c.args.transitions.now in
    let e = c.if-not-read.true in
    record {
      by_index = λ cl. pass-broken cl s c.args.n c.args.count c.requires.holds_transitions_over now.i (omega arith)
          (subst (NumbersRead s now.i c.read.new.seen) e c.read.ensures.numbers_read);
      count_value = λ h. absurd (false≢true h);
    }

pub loop-i-preserved : goal.loop-i-preserved
loop-i-preserved c =
    let now = c.loop-i in (
      c.read.ensures.numbers_read.size,
      c.read.ensures.numbers_read.passed c.if-not-read.false,
      c.read.ensures.spans_2,
      clean-next now.invariant.3 (omega arith) c.climbs-above.ensures,
    )

pub returns : goal.returns
returns c =
    let now = c.loop-i in
    let d : now.i ≡ c.args.count = omega (arith, now.invariant.3.within) in
    let e : c.args.n + 1 - 1 ≡ c.args.n = omega arith in
    record {
      by_index = λ cl. rw e at c.all_marked.ensures ∙ pass-end cl c.args.transitions.now c.args.n
          c.args.count now.seen (rw d at now.invariant.1);
      count_value = λ h. sym (clean_end now.invariant.3 (omega arith)) ∙ h;
    }

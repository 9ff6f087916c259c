-- A use before the end is one of the transitions, so the test is exact.
use mathlib.Core.Bool.{false≢true}
use mathlib.Core.Path.{◌∙◌, sym}
use native.Mathlib.Omega.{arith}
use Rattle.fields.proofs.Transitions.{readable}
use Rattle.uses.proofs.Both.{shaped-nodes}
use Rattle.uses.proofs.walking.use_covered.Goals as goal

pub returns-then-i-to : goal.returns-then-i-to
returns-then-i-to c = record { i_lt_to = λ e. absurd (false≢true e); k_value = λ e. absurd (false≢true e) }

pub is_covered-requires : goal.is_covered-requires
is_covered-requires c =
    let h = c.if-i-to.false in
    record {
      readable = readable c.args.setting.now.over.runs c.args.i (omega (arith, c.requires.to_le_count));
      nodes = shaped-nodes c.args.setting.now.shaped;
      k_bound = c.requires.k_bound (omega arith);
      framed = c.requires.framed;
    }

pub returns : goal.returns
returns c = record { i_lt_to = λ _. omega (arith, c.if-i-to.false); k_value = λ e. sym c.is_covered.ensures ∙ e }

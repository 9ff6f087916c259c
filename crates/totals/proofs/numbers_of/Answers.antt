use native.Mathlib.Omega.{arith}
use mathlib.Core.Path.{◌∙◌, sym}
use Rattle.fields.proofs.Views.{viewed-states}
use Rattle.totals.proofs.Depths.{lawful-numbers}
use Rattle.totals.proofs.numbers_of.Goals as goal

-- no states, no numbers
pub returns-then-n-eq0 : goal.returns-then-n-eq0
returns-then-n-eq0 c =
    λ cl _. record {
      each = λ q least most.
          absurd (omega (arith, least, most, viewed-states cl c.args.transitions.now c.args.n c.args.count, c.if-n-eq0.true));
    }

pub settle_all-requires : goal.settle_all-requires
settle_all-requires c = record {
  holds_transitions = c.requires.holds_transitions_over.runs;
  count_le_max_transitions = c.requires.count_le_max_transitions;
  n_lt_byte_values = c.requires.n_lt_byte_values;
}

pub returns-then-same : goal.returns-then-same
returns-then-same c =
    λ cl ac. lawful-numbers cl c.args.transitions.now c.args.n c.args.count c.requires.holds_transitions_over c.requires.n_lt_byte_values c.requires.count_value ac
    c.round.ensures (sym c.same.ensures ∙ c.if-same.true)

pub returns : goal.returns
returns c = λ cl ac. c.rounds.ensures cl

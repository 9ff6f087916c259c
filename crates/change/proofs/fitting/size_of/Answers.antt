-- `change::fitting::size_of` meets its contract: what fits small arrays fits a table.
use mathlib.Core.Bool.{false≢true}
use mathlib.Core.Path.{◌∙◌, sym}
use native.Mathlib.Omega.{arith}
use borrow.Author.Tests.{not-false}
use Rattle.automata.specs.NamedChange.{changed_automaton}
use Rattle.change.specs.Given.{small_transitions}
use Rattle.format.specs.Format.{max_transitions}
use Rattle.table.specs.Layout.{decode}
use Rattle.change.proofs.Sizes.{within_more}
use Rattle.change.proofs.fitting.size_of.Goals as goal

pub returns-then-fits_small : goal.returns-then-fits_small
returns-then-fits_small c = λ inserting t firsts nexts N K.
    let B = changed_automaton inserting t (decode c.args.table.now) in
    let e = c.fits_small.ensures c.if-fits_small.true inserting t firsts nexts N K in
    record { table = sym (within_more B small_transitions max_transitions (omega arith) e); few = λ _. e }

pub returns-then-fits : goal.returns-then-fits
returns-then-fits c = λ inserting t firsts nexts N K. record {
  table = sym c.if-fits.true ∙ c.fits.ensures inserting t firsts nexts N K;
  few = λ e. absurd (false≢true e);
}

pub returns : goal.returns
returns c = λ inserting t firsts nexts N K. record {
  table = sym c.if-fits.false ∙ c.fits.ensures inserting t firsts nexts N K;
  few = λ e. absurd (false≢true e);
}

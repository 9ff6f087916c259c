-- `packed::slots::is_in_slot` meets its contract: at each early return a field differs.
use mathlib.Core.Bool.{false≢true}
use mathlib.Core.Path.{◌∙◌, sym}
use native.Mathlib.Omega.{arith}
use borrow.Author.Tests.{eqb-false, eqb-true}
use Rattle.packed.proofs.Walks.{slot-found, slot-other}
use Rattle.packed.proofs.slots.is_in_slot.Goals as goal

pub returns-then-meta-z : goal.returns-then-meta-z
returns-then-meta-z c = record { in_slot = λ e. absurd (false≢true e); fact = λ _ I. omega (arith, I.meta, c.requires) }

pub returns-then-args-z : goal.returns-then-args-z
returns-then-args-z c = record { in_slot = λ e. absurd (false≢true e); fact = λ _ I. omega (arith, I.args, c.requires) }

pub returns-then-out_of-z : goal.returns-then-out_of-z
returns-then-out_of-z c = record { in_slot = λ e. absurd (false≢true e); fact = λ _ I. omega (arith, I.out, c.out_of.ensures) }

pub returns : goal.returns
returns c =
    let arg = c.arg_of-q.ensures.value in
    let out = sym c.out_of.ensures.value ∙ c.if-out_of-z.false in
    let first = c.if-meta-z.false in
    record {
      in_slot = λ e. slot-found c.args.z c.args.i c.requires.meta_value c.requires.args_value (omega arith) arg c.at_place.ensures first out (eqb-true _ _ e);
      fact = λ e. slot-other c.args.z c.args.i c.requires.meta_value c.requires.args_value (omega arith) arg c.at_place.ensures (eqb-false _ _ e);
    }

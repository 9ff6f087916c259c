-- `packed::slots::first_in_slot` meets its contract: none below the bound is in the slot, so the search starts at the
-- bound.
use native.Mathlib.Omega.{arith}
use Rattle.packed.proofs.Walks.{walk-bound, walk-past}
use Rattle.packed.proofs.slots.first_in_slot.Goals as goal

pub returns : goal.returns
returns c =
    let below = walk-bound c.args.z c.bound-from.ensures.by_index_2 in
    record {
      here = λ i e. let (_, l, I) = c.next_in_slot.ensures.here i e in (omega arith, l, I);
      others = λ i l I. walk-past below c.next_in_slot.ensures.others i (omega arith) I;
    }

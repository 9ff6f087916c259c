-- `packed::slots::is_past` meets its contract: the first number decides if it differs, else the second.
use mathlib.Core.Bool.{false≢true}
use native.Mathlib.Omega.{arith}
use borrow.Author.Tests.{ltb-true}
use Rattle.packed.proofs.Walks.{past-args, past-meta}
use Rattle.packed.proofs.slots.is_past.Goals as goal

pub returns-then-meta-z : goal.returns-then-meta-z
returns-then-meta-z c = λ e. past-meta c.args.z c.args.meta c.args.args (ltb-true c.args.z.meta c.args.meta e)

pub returns-then-args-z : goal.returns-then-args-z
returns-then-args-z c = λ e. absurd (false≢true e)

pub returns : goal.returns
returns c = λ e. past-args c.args.z c.args.meta c.args.args (omega arith) (omega arith) c.at_place.ensures
    (ltb-true _ _ e)

-- `packed::layout::rest_empty` meets its contract: with eight arguments there is no place beyond, else the shift
-- decides.
use mathlib.Core.Path.{◌∙◌, ap, sym}
use Prim.Native.Nat.{◌%◌, ◌*◌, ◌+◌, ◌^◌}
use native.Mathlib.Omega.{arith}
use lib.Dec.{eqb}
use Rattle.format.specs.Format.{args_at, max_arity}
use Rattle.lists.specs.Tests.{every}
use Rattle.packed.specs.Packed.{packed_at}
use Rattle.packed.specs.Places.{arg_empty}
use Rattle.table.specs.Layout.{arg_of}
use Rattle.lists.proofs.Loops.{up_from-none}
use Rattle.packed.proofs.Shifts.{shifted-zero}
use Rattle.packed.proofs.layout.rest_empty.Goals as goal

pub returns-then-arity-ge-MAX_ARITY : goal.returns-then-arity-ge-MAX_ARITY
returns-then-arity-ge-MAX_ARITY c =
    sym (ap (every (arg_empty c.args.transitions.now c.args.at)) (up_from-none c.args.arity max_arity (omega arith)))

pub returns : goal.returns
unfolding packed_at
returns c =
    ap (λ x. eqb ((x * 2 ^ (8 * c.args.arity)) % 2 ^ 64) 0) c.args_at-args.ensures
    ∙ shifted-zero (arg_of c.args.transitions.now c.args.at)
    (λ j. omega (arith, c.type_inv.transitions (c.args.at + args_at + j)))
    c.args.arity (omega arith)

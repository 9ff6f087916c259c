use mathlib.Core.Path.{◌≡◌, subst, sym}
use native.Mathlib.Omega.{arith}
use lib.ListN.{length, length-replicate}
use Prim.Native.Nat.{ℕ}
use mathlib.Core.List.{List}
use Rattle.format.specs.Format.{byte_values}
use Rattle.quotient.specs.Named.{OddIn}
use Rattle.quotient.proofs.PlainChoice.{odd-start}
use Rattle.quotient.proofs.plain.mark_odd.Goals as goal

pub loop-q-init : goal.loop-q-init
loop-q-init c =
    let g = c.args.names.now in (
      omega arith,
      subst (λ (l : List ℕ). length l ≡ byte_values) (sym c.requires) (length-replicate {A = ℕ} byte_values 1),
      subst (OddIn g) (sym c.requires) (odd-start g.named.now.n g.kept.now.firsts g.kept.now.nexts),
    )

pub unmark-requires : goal.unmark-requires
unmark-requires c =
    let inv = c.loop-q.invariant in
    record {
      le_q = inv.0;
      q_le_n = omega arith;
      odd_len = inv.1;
      odd_marked = inv.2;
    }

pub loop-q-preserved : goal.loop-q-preserved
loop-q-preserved c = (omega (arith, c.loop-q.invariant.0), c.unmark.ensures.odd_len_2, c.unmark.ensures.odd_marked_2)

pub returns : goal.returns
returns c = c.loop-q.invariant.2

use mathlib.Core.Path.{◌≡◌, subst}
use native.Mathlib.Omega.{arith}
use Prim.Native.Nat.{ℕ}
use lib.ListN.{length-replicate}
use Rattle.format.specs.Format.{byte_values}
use Rattle.fields.proofs.Transitions.{readable}
use Rattle.uses.specs.Spans.{UsesWithin}
use Rattle.uses.proofs.Noting.{noted-none}
use Rattle.uses.proofs.spans.note_uses.Goals as goal

pub loop-i-init : goal.loop-i-init
loop-i-init c =
    (omega arith, noted-none c.args.transitions.now (length-replicate {A = ℕ} byte_values 65535))

pub note_args-requires : goal.note_args-requires
note_args-requires c =
    let l = c.loop-i in
    record {
      readable = readable c.requires l.i c.loop-i-test.true;
      i_lt_max_product = omega (arith, c.requires.few);
      noted = l.invariant.1;
    }

pub loop-i-preserved : goal.loop-i-preserved
loop-i-preserved c = (omega arith, c.note_args.ensures)

pub returns : goal.returns
returns c =
    let l = c.loop-i in
    let all : l.i ≡ c.args.count = omega (arith, l.invariant.0) in
    subst (λ (i : ℕ). UsesWithin c.args.transitions.now i l.lows l.lasts) all l.invariant.1.within

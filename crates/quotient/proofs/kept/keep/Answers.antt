use native.Mathlib.Omega.{arith}
use mathlib.Core.Path.{◌≡◌, subst}
use Prim.Native.Nat.{ℕ}
use Rattle.quotient.proofs.Chains.{kept-start}
use Rattle.quotient.specs.Candidates.{KeptIn}
use Rattle.quotient.proofs.kept.keep.Goals as goal

pub loop-x-init : goal.loop-x-init
loop-x-init c =
    let g = c.args.candidates.now in kept-start g.n g.m g.opens.now g.states.now g.names.now

pub returns : goal.returns
returns c =
    let end : c.loop-x.x ≡ 0 = omega (arith, c.loop-x-test.false) in
    subst (λ (x : ℕ). KeptIn c.args.candidates.now x c.loop-x.kept) end c.loop-x.invariant

use native.Mathlib.Omega.{arith}
use mathlib.Core.Path.{◌∙◌, ◌≡◌, ap, ap₂}
use Prim.Native.Nat.{ℕ}
use Rattle.format.specs.Format.{max_arity}
use Rattle.packed.specs.Packed.{digits}
use Rattle.quotient.specs.Making.{with_name}
use Rattle.quotient.specs.Nodes.{key_of, place_digit}
use Rattle.quotient.proofs.Padding.{digit-after, digit-below, digit-fits}
use Rattle.quotient.proofs.nodes.key_of.Goals as goal

pub overflow_mul-key : goal.overflow_mul-key
overflow_mul-key c =
    let loop = c.loop-k in
    omega (arith, digit-fits loop.k loop.key 0 (omega (arith, c.loop-k-test.true)) loop.invariant.1 (omega arith))

pub overflow_add-key : goal.overflow_add-key
overflow_add-key c =
    let loop = c.loop-k in
    omega (
      arith,
      digit-fits loop.k loop.key c.digit_of.result (omega (arith, c.loop-k-test.true)) loop.invariant.1
          c.digit_of.ensures.upper_bound,
    )

pub loop-k-preserved : goal.loop-k-preserved
loop-k-preserved c =
    let loop = c.loop-k in
    let digit = place_digit c.args.named.now.n c.args.named.now.subtrees.now.children c.args.j in (
      ap₂ with_name loop.invariant.0 c.digit_of.ensures.value ∙ digit-after digit loop.k,
      digit-below loop.k loop.key c.digit_of.result loop.invariant.1 c.digit_of.ensures.upper_bound,
    )

pub returns : goal.returns
unfolding key_of
returns c =
    let e : c.loop-k.k ≡ max_arity = omega (arith, c.loop-k-test.false, c.loop-k.auto.k-end) in
    let digit = place_digit c.args.named.now.n c.args.named.now.subtrees.now.children c.args.j in
    c.loop-k.invariant.0 ∙ ap (λ (k : ℕ). digits digit 0 k 0) e

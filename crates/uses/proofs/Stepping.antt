-- The search for a transition with another state for one of its arguments finds what the step gives.
use mathlib.Core.List.{List}
use mathlib.Core.Path.{◌∙◌, ◌≡◌, ap, ap₂}
use Prim.Native.Nat.{◌*◌, ◌+◌, ◌-◌, ◌<◌, ◌^◌, ◌≤◌, ℕ}
use native.Mathlib.Omega.{arith}
use Rattle.std.specs.Prelude.{None, Option, Some}
use Rattle.automata.specs.Automaton.{lookup}
use Rattle.sorted.specs.Steps.{step_at}
use Rattle.fields.specs.Fields.{HoldsTransitionsOver}
use Rattle.format.specs.Format.{AllBytes, byte_values, transition_bytes}
use Rattle.packed.specs.Packed.{Searchable, meta_at, packed_at}
use Rattle.packed.specs.Seeking.{Packs, SoughtAt}
use Rattle.table.specs.Layout.{arg_of, arity_of, label_of, out_of, transitions_in}
use Rattle.sorted.proofs.Stepping.{step-some}
use Rattle.sorted.proofs.Slots.{args-put}
use Rattle.packed.proofs.Exchange.{exchanged-fits, exchanged-packs, exchanged_args, place_inside}
use Rattle.packed.proofs.Seeking.{sought-nothing, sought-output}

module _ {s : List ℕ} {c n : ℕ} (bytes : AllBytes s) (r : Searchable s c) (over : HoldsTransitionsOver s c n)
    (i k : ℕ) (h : i < c) (d : k < arity_of s (transition_bytes * i)) where
  abbrev at : ℕ
  at = transition_bytes * i

  pub exchange-inside : {a x : ℕ} → a ≡ packed_at s at → x ≡ arg_of s at k → x * 2 ^ (8 * (7 - k)) ≤ a
  exchange-inside args arg =
      omega (arith, ap (λ v. v * 2 ^ (8 * (7 - k))) arg, args, place_inside s at k (r.padded.each i h) d)

  module _ {a x y : ℕ} (args : a ≡ packed_at s at) (arg : x ≡ arg_of s at k) (byte : y < byte_values) where
    -- the packed arguments with y for x at place k
    abbrev other : ℕ
    other = a - x * 2 ^ (8 * (7 - k)) + y * 2 ^ (8 * (7 - k))

    other-is : other ≡ packed_at s at - arg_of s at k * 2 ^ (8 * (7 - k)) + y * 2 ^ (8 * (7 - k))
    other-is = ap₂ (λ u v. u - v * 2 ^ (8 * (7 - k)) + y * 2 ^ (8 * (7 - k))) args arg

    pub exchange-fits : other < 2 ^ 64
    exchange-fits = omega (arith, other-is, exchanged-fits s at k (r.padded.each i h) d bytes y byte)

    module _ (some : y ≡ 0 → ⊥) {m z : ℕ} {number : Option ℕ} (meta : m ≡ meta_at s at) (new : z ≡ other)
        (found : (b : ℕ) (qs : List ℕ) → Packs m z b qs → SoughtAt s c b qs number) where
      at-sought : SoughtAt s c (label_of s at) (exchanged_args s at k y) number
      at-sought =
          let p = exchanged-packs s at k (r.padded.each i h) d bytes y byte in
          found (label_of s at) (exchanged_args s at k y)
          (record { meta = meta ∙ p.meta; args = new ∙ other-is ∙ p.args; label = p.label; list = p.list })

      step_is : {w : ℕ} → w ≡ lookup (label_of s at) (exchanged_args s at k y) (transitions_in s c) → w ≡ step_at s c at k y
      step_is e =
          step-some s c n i k y over h d some
          (e ∙ ap (λ (qs : List ℕ). lookup (label_of s at) qs (transitions_in s c))
          (args-put (arg_of s at) k (arity_of s at) y d))

      pub step-nothing : number ≡ None → 0 ≡ step_at s c at k y
      step-nothing e = step_is (sought-nothing bytes r at-sought e)

      pub step-found : {j : ℕ} → number ≡ Some j → j < c → out_of s (transition_bytes * j) ≡ step_at s c at k y
      step-found e l = step_is (sought-output bytes r at-sought e l)

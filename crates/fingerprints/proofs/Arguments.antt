-- The arguments of a transition, before a place and from it on, and the exclusive or over them.
use Rattle.std.proofs.Common.{◌≡◌, ℕ, zero, suc, ◌+◌, ◌-◌, ◌*◌, ◌<◌, ◌≤◌, List, [], ◌∷◌, ◌++◌, map, length, sym, refl, ap, ◌∙◌, arith}
use lib.Bits.{bit_xor}
use Rattle.fingerprints.specs.Fingerprints.{multiplier}
use Rattle.fingerprints.specs.Fingerprints.{xored}
use Rattle.lists.specs.Positions.{up_from}
use Rattle.table.specs.Layout.{arg_of, arity_of, transition_at}
use Rattle.lists.proofs.Intervals.{length-tabulated, tabulated-suc}
use Rattle.lists.proofs.Loops.{up_from-next, up_from-none}
use Rattle.fingerprints.proofs.Xor.{xor-twice, xored-along, xored-last}

module _ (s : List ℕ) (at : ℕ) where
  -- the arguments from place k on, and those before it
  abbrev pub args_from : ℕ → List ℕ
  args_from k = map (arg_of s at) (up_from k (arity_of s at - k))

  abbrev pub args_to : ℕ → List ℕ
  args_to k = map (arg_of s at) (up_from 0 k)

  pub args_from-next : (k : ℕ) → k < arity_of s at → args_from k ≡ arg_of s at k ∷ args_from (k + 1)
  args_from-next k h = ap (map (arg_of s at)) (up_from-next k (arity_of s at) h)

  pub args_from-none : (k : ℕ) → arity_of s at ≤ k → args_from k ≡ []
  args_from-none k h = ap (map (arg_of s at)) (up_from-none k (arity_of s at) h)

  pub args_to-next : (k : ℕ) → args_to (k + 1) ≡ args_to k ++ (arg_of s at k ∷ [])
  args_to-next k =
      let e : k + 1 ≡ suc k = omega arith in
      let z : 0 + k ≡ k = omega arith in
      ap args_to e ∙ tabulated-suc (arg_of s at) 0 k ∙ ap (λ (j : ℕ). args_to k ++ (arg_of s at j ∷ [])) z

  -- ---- the exclusive or over the arguments

  pub xored-start : (y : ℕ) → xored (args_from 0) 0 y ≡ xored (transition_at s at).args 0 y
  xored-start y =
      let e : arity_of s at - 0 ≡ arity_of s at = omega arith in
      ap (λ (n : ℕ). xored (map (arg_of s at) (up_from 0 n)) 0 y) e

  -- a is argument k
  pub xored-next : (k y : ℕ) {a : ℕ} → k < arity_of s at → a ≡ arg_of s at k →
      xored (args_from k) k y ≡ xored (args_from (k + 1)) (k + 1) (bit_xor y (a * multiplier k))
  xored-next k y h e =
      ap (λ (r : List ℕ). xored r k y) (args_from-next k h)
      ∙ ap (λ (a : ℕ). xored (args_from (k + 1)) (k + 1) (bit_xor y (a * multiplier k))) (sym e)

  pub xored-end : (k y : ℕ) → arity_of s at ≤ k → xored (args_from k) k y ≡ y
  xored-end k y h = ap (λ (r : List ℕ). xored r k y) (args_from-none k h)

  to-next : (k y : ℕ) → bit_xor (xored (args_to k) 0 y) (arg_of s at k * multiplier k) ≡ xored (args_to (k + 1)) 0 y
  to-next k y =
      let e : k ≡ 0 + length (args_to k) = omega (arith, length-tabulated (arg_of s at) 0 k) in
      ap (λ (j : ℕ). bit_xor (xored (args_to k) 0 y) (arg_of s at k * multiplier j)) e
      ∙ sym (xored-last (args_to k) (arg_of s at k) 0 y) ∙ ap (λ (l : List ℕ). xored l 0 y) (sym (args_to-next k))

  -- the arguments before place k, and then the others
  xored-parts : (k y : ℕ) → k ≤ arity_of s at → xored (transition_at s at).args 0 y ≡
      xored (args_from k) k (xored (args_to k) 0 y)
  xored-parts zero y h = sym (xored-start y)
  xored-parts (suc k) y h =
      let e : k + 1 ≡ suc k = omega arith in
      xored-parts k y (omega arith) ∙ xored-next k (xored (args_to k) 0 y) (omega arith) refl
      ∙ ap (xored (args_from (k + 1)) (k + 1)) (to-next k y)
      ∙ ap (λ (j : ℕ). xored (args_from j) j (xored (args_to j) 0 y)) e

  -- all arguments without the one at place k
  pub without : (k y : ℕ) → k < arity_of s at →
      bit_xor (xored (transition_at s at).args 0 y) (arg_of s at k * multiplier k) ≡
      xored (args_from (k + 1)) (length (args_to k) + 1) (xored (args_to k) 0 y)
  without k y h =
      let e : k + 1 ≡ length (args_to k) + 1 = omega (arith, length-tabulated (arg_of s at) 0 k) in
      ap (λ (x : ℕ). bit_xor x (arg_of s at k * multiplier k))
      (xored-parts k y (omega arith) ∙ xored-next k (xored (args_to k) 0 y) h refl
      ∙ xored-along (args_from (k + 1)) (k + 1) (xored (args_to k) 0 y) (arg_of s at k * multiplier k))
      ∙ xor-twice (xored (args_from (k + 1)) (k + 1) (xored (args_to k) 0 y)) (arg_of s at k * multiplier k)
      ∙ ap (λ (j : ℕ). xored (args_from (k + 1)) j (xored (args_to k) 0 y)) e

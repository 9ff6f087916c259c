-- A loop over the places for arguments: the greatest is the greatest of those so far and what is left.
use Rattle.std.proofs.Common.{◌≡◌, ℕ, zero, suc, ◌+◌, ◌-◌, ◌<◌, ◌≤◌, max, List, map, sym, refl, ap, ◌∙◌, arith}
use native.Mathlib.Nat.{sub-zero}
use Rattle.automata.specs.Numbered.{top}
use Rattle.format.specs.Format.{max_arity}
use Rattle.lists.specs.Positions.{up_from}
use Rattle.packed.specs.Packed.{Padded}
use Rattle.table.specs.Layout.{arg_of, arity_of, transition_at}
use Rattle.lists.proofs.Loops.{up_from-next, up_from-none}

top-none : (f : ℕ → ℕ) (n k : ℕ) → ((j : ℕ) → k ≤ j → j < k + n → f j ≡ 0) → top (map f (up_from k n)) ≡ 0
top-none f zero k h = refl
top-none f (suc n) k h =
    omega (arith, h k (omega arith) (omega arith), top-none f n (suc k) (λ j a b. h j (omega arith) (omega arith)))

-- numbers that are 0 after the first m do not change it
top-padded : (f : ℕ → ℕ) (m k n : ℕ) → m ≤ n → ((j : ℕ) → k + m ≤ j → j < k + n → f j ≡ 0) →
    top (map f (up_from k m)) ≡ top (map f (up_from k n))
top-padded f zero k n l h = sym (top-none f n k (λ j a b. h j (omega arith) b))
top-padded f (suc m) k zero l h = absurd (omega arith)
top-padded f (suc m) k (suc n) l h =
    ap (max (f k)) (top-padded f m (suc k) n (omega arith) (λ j a b. h j (omega arith) (omega arith)))

-- the greatest place is the greatest argument
pub top-places : (s : List ℕ) (at : ℕ) → Padded s at →
    top (map (arg_of s at) (up_from 0 max_arity)) ≡ top (transition_at s at).args
top-places s at p =
    sym (top-padded (arg_of s at) (arity_of s at) 0 max_arity p.narrow (λ k h l. p.rest k (omega arith) (omega arith)))

-- a loop at k, with n its end: s is the greatest of t and the numbers left
pub record TopFrom (s : ℕ) (f : ℕ → ℕ) (n t k : ℕ) : Type 0 where
  pub within : k ≤ n
  pub left : s ≡ max t (top (map f (up_from k (n - k))))

module _ {f : ℕ → ℕ} {n : ℕ} where
  pub top_start : TopFrom (top (map f (up_from 0 n))) f n 0 0
  top_start = record { within = omega arith; left = rw (sub-zero n) (omega arith) }

  pub top-next : {s t k : ℕ} → TopFrom s f n t k → k < n → TopFrom s f n (max t (f k)) (k + 1)
  top-next {s} {t} {k} inv h = record {
    within = omega arith;
    left = inv.left ∙ rw (up_from-next k n h) (omega arith);
  }

  pub top-end : {s t k : ℕ} → TopFrom s f n t k → n ≤ k → t ≡ s
  top-end {s} {t} {k} inv h = sym (inv.left ∙ rw (up_from-none k n h) (omega arith))

-- A loop that writes the entries of a list one by one.
use mathlib.Core.Path.{◌∙◌, ◌≡◌, ap}
use mathlib.Core.List.{List}
use Prim.Native.Nat.{◌+◌, ◌<◌, ◌≤◌, ℕ}
use native.Mathlib.Omega.{arith}
use lib.ListN.{get_or, length, length-set, set}
use lib.Seq.{get_or-set_other, get_or-set_same}
use borrow.Author.Count.{below_more}

-- if the entries from a to k - 1 read as f says, those to k do once the next one is written
pub set-next-from : {B : Type 0} (read f : ℕ → B) (a : ℕ) (r : List ℕ) (k v : ℕ) → k < length r → read v ≡ f k →
    ((j : ℕ) → a ≤ j → j < k → read (get_or r j 0) ≡ f j) → (j : ℕ) → a ≤ j → j < k + 1 →
    read (get_or (set r k v) j 0) ≡ f j
set-next-from read f a r k v h e below j l m =
    below_more (λ i. a ≤ i → read (get_or (set r k v) i 0) ≡ f i) k
    (λ i n o. ap read (get_or-set_other r k i v 0 (λ d. omega arith)) ∙ below i o n)
    (λ o. ap read (get_or-set_same r k v 0 h) ∙ e) j m l

pub set_next : (f : ℕ → ℕ) (r : List ℕ) (k v : ℕ) → k < length r → v ≡ f k →
    ((j : ℕ) → j < k → get_or r j 0 ≡ f j) → (j : ℕ) → j < k + 1 → get_or (set r k v) j 0 ≡ f j
set_next f r k v h e below j l =
    set-next-from (λ x. x) f 0 r k v h e (λ i _ m. below i m) j (omega arith) l

-- of n entries the first k are the values of f
pub record FilledTo (n : ℕ) (f : ℕ → ℕ) (r : List ℕ) (k : ℕ) : Type 0 where
  pub size : length r ≡ n
  pub within : k ≤ n
  pub same : (j : ℕ) → j < k → get_or r j 0 ≡ f j

module _ {n : ℕ} {f : ℕ → ℕ} {r : List ℕ} where
  pub filled-start : length r ≡ n → FilledTo n f r 0
  filled-start e = record { size = e; within = omega arith; same = λ j h. absurd (omega arith) }

  pub filled_next : {k v : ℕ} → FilledTo n f r k → k < n → v ≡ f k → FilledTo n f (set r k v) (k + 1)
  filled_next {k} {v} x h e = record {
    size = length-set r k v ∙ x.size;
    within = omega arith;
    same = set_next f r k v (omega (arith, x.size)) e x.same;
  }

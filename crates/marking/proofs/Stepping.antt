-- What steps one after another make, if each spreads marks by a rule.
use Rattle.std.proofs.Common.{ℕ, zero, suc, ◌+◌, ◌<◌, Bool, ◌||◌, List, refl, arith, add-one}
use denote.Ref.{MutBor}
use Rattle.marking.specs.Spread.{Rule, Spread, UpTo}
use Rattle.marking.specs.Steps.{Made, Steps}
use Rattle.marking.proofs.Spreading.{spread-begin, spread-next}

pub steps-next : {M : Type 0} (R : ℕ → M → Bool → M → Type 0) (i : ℕ) (m k m' : M) (x y : Bool) → Steps R i m k x →
    R i k y m' → Steps R (i + 1) m m' (x || y)
steps-next R i m k m' x y s t = rw add-one (k, x, y, s, t, refl)

-- if each step spreads marks by its rule, all spread them by all rules
pub steps-spread : {post : ℕ → MutBor (List ℕ) → Bool → MutBor (List ℕ) → Type 0} (C : ℕ → Rule) (n : ℕ)
    {m m' : List ℕ} {r : Bool} →
    ((i : ℕ) (p q : MutBor (List ℕ)) (x : Bool) → i < n → post i p x q → Spread (C i) p.now q.now x) →
    Steps (Made post) n m m' r → Spread (UpTo C n) m m' r
steps-spread C zero f (e, d) = rw (e, d) (spread-begin C)
steps-spread C (suc n) f (k, x, y, s, t, e) =
    let here = rw (t.shows, t.leaves) at (f n t.shown t.left y (omega arith) t.met) in
    rw (e, ← add-one) (spread-next C n (steps-spread C n (λ i p q z h. f i p q z (omega arith)) s) here)

-- The first place that passes a test, the position of a key, the numbers of an interval, and pairs of numbers.
use Rattle.std.specs.Prelude.{Bool, ◌&&◌, cond, List, [], ◌++◌, ◌∷◌, ◌+◌, suc, zero, ℕ, eqb, get_or}

-- one further from the start; 0, which means "not there", stays 0
abbrev pub shift : ℕ → ℕ
shift zero = zero
shift (suc k) = suc (suc k)

-- the position, from 1, of the first element that passes a test; 0 if none does
abbrev pub first_place : {A : Type 0} → (A → Bool) → List A → ℕ
first_place p [] = 0
first_place p (x ∷ xs) = cond (p x) 1 (shift (first_place p xs))

-- the position of a key in a list, from 1; 0 if it is not there
abbrev pub position : {K : Type 0} → (K → K → Bool) → List K → K → ℕ
position eq xs k = first_place (eq k) xs

-- the n numbers k, k + 1, .. in order
abbrev pub up_from : ℕ → ℕ → List ℕ
up_from k zero = []
up_from k (suc n) = k ∷ up_from (suc k) n

-- the byte k places after a byte
abbrev pub byte_from : List ℕ → ℕ → ℕ → ℕ
byte_from s at k = get_or s (at + k) 0

-- a pair of numbers
abbrev pub Pair : Type 0
Pair = ℕ × ℕ

-- two pairs are equal
abbrev pub eq_pair : Pair → Pair → Bool
eq_pair j k = eqb j.0 k.0 && eqb j.1 k.1

-- p with each of a list
abbrev pub row : ℕ → List ℕ → List Pair
row p [] = []
row p (q ∷ qs) = (p, q) ∷ row p qs

-- each of one list with each of another
abbrev pub grid : List ℕ → List ℕ → List Pair
grid [] qs = []
grid (p ∷ ps) qs = row p qs ++ grid ps qs

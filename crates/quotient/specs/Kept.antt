-- Names by number: with n states and m subtrees, a name x up to n is a state, and n + j is the own name of subtree j.
-- The kept names of each state are a chain: the first name of each state, and for each name the next one, 0 at the
-- end.
use Rattle.std.specs.Prelude.{Bool, ◌&&◌, cond, false, List, [], ◌∷◌, ◌⊎◌, ◌≡◌, ◌+◌, ◌-◌, ◌<◌, ◌≤◌, suc, zero, ℕ, eqb, leb, length}
use Rattle.format.specs.Format.{byte_values}
use Rattle.lists.specs.Positions.{up_from}
use Rattle.lists.specs.Tests.{filter}
use Rattle.marking.specs.Marks.{marked}
use Rattle.pairs.specs.Counts.{entry}

-- ---- kept names

-- the name x is kept: it is a marked state, or the own name of a subtree that has it
abbrev pub kept_name : ℕ → List ℕ → List ℕ → ℕ → Bool
kept_name n o v x = cond (leb x n) (marked o x) (eqb (entry v (x - n - 1)) x)

-- the state of a name: x itself, or the state of the subtree whose own name x is; s has the states of the subtrees
abbrev pub state_of : ℕ → List ℕ → ℕ → ℕ
state_of n s x = cond (leb x n) x (entry s (x - n - 1))

-- the name is kept, and its state is q
abbrev pub kept_at : ℕ → List ℕ → List ℕ → List ℕ → ℕ → ℕ → Bool
kept_at n o s v q x = eqb (state_of n s x) q && kept_name n o v x

-- the kept names of q above x, and all of them
abbrev pub kept_above : ℕ → ℕ → List ℕ → List ℕ → List ℕ → ℕ → ℕ → List ℕ
kept_above n m o s v q x = filter (kept_at n o s v q) (up_from (suc x) (n + m - x))

abbrev pub kept_of : ℕ → ℕ → List ℕ → List ℕ → List ℕ → ℕ → List ℕ
kept_of n m o s v q = kept_above n m o s v q 0

-- ---- chains

-- the first d names of the chain that starts with x
abbrev pub chain : List ℕ → ℕ → ℕ → List ℕ
chain nexts zero x = []
chain nexts (suc d) x = let r = chain nexts d (entry nexts x) in cond (eqb x 0) [] (x ∷ r)

-- the whole chain from x on, and the chain of a state
unfoldable pub chain_from : List ℕ → ℕ → List ℕ
chain_from nexts x = chain nexts byte_values x

abbrev pub names_of : List ℕ → List ℕ → ℕ → List ℕ
names_of firsts nexts q = chain_from nexts (entry firsts q)

-- y is 0, the end of a chain, or a name above x
abbrev pub Above : ℕ → ℕ → Type 0
Above x y = (y ≡ 0) ⊎ ((x < y) × (y < byte_values))

-- every chain rises
pub record Rises (nexts : List ℕ) : Type 0 where
  pub size : length nexts ≡ byte_values
  pub above : (x : ℕ) → Above x (entry nexts x)

-- the state q keeps its name and has no other
pub record Plain (n : ℕ) (firsts nexts : List ℕ) (q : ℕ) : Type 0 where
  pub some : 1 ≤ q
  pub state : q ≤ n
  pub first : entry firsts q ≡ q
  pub last : entry nexts q ≡ 0

-- every other state is marked
abbrev pub OddMarked : ℕ → List ℕ → List ℕ → List ℕ → Type 0
OddMarked n firsts nexts odd = (q : ℕ) → q < byte_values → marked odd q ≡ false → Plain n firsts nexts q

-- chains of the kept names above x
pub record Chained (n m : ℕ) (o s v : List ℕ) (x : ℕ) (firsts nexts : List ℕ) : Type 0 where
  pub size : length firsts ≡ byte_values
  pub rises : Rises nexts
  pub above : (q : ℕ) → q < byte_values → Above x (entry firsts q)
  pub names : (q : ℕ) → q < byte_values → names_of firsts nexts q ≡ kept_above n m o s v q x

-- the same, and how many each state has
pub record KeptAbove (n m : ℕ) (o s v : List ℕ) (x : ℕ) (firsts nexts sizes : List ℕ) : Type 0 where
  pub chained : Chained n m o s v x firsts nexts
  pub size : length sizes ≡ byte_values
  pub count : (q : ℕ) → q < byte_values → entry sizes q ≡ length (kept_above n m o s v q x)

-- the name x put at the head of the chain of q
pub record PutFirst (q x : ℕ) (f n z f' n' z' : List ℕ) : Type 0 where
  pub firsts-size : length f' ≡ length f
  pub nexts-size : length n' ≡ length n
  pub sizes-size : length z' ≡ length z
  pub first : entry f' q ≡ x
  pub next : entry n' x ≡ entry f q
  pub size : entry z' q ≡ entry z q + 1
  pub other-first : (p : ℕ) → (p ≡ q → ⊥) → entry f' p ≡ entry f p
  pub other-next : (y : ℕ) → (y ≡ x → ⊥) → entry n' y ≡ entry n y
  pub other-size : (p : ℕ) → (p ≡ q → ⊥) → entry z' p ≡ entry z p

-- What the steps from names to a table leave: numbers for names, transitions with numbers, and the result of the
-- check.
use Rattle.std.specs.Prelude.{List, Bool, true, ◌≡◌, ◌+◌, ◌<◌, ◌≤◌, suc, ℕ, get_or, length, take}
use Rattle.automata.specs.Numbered.{Passed, first_open}
use Rattle.automata.specs.Order.{rising}
use Rattle.automata.specs.Renumber.{renumber_by}
use Rattle.automata.specs.RuledOrder.{RuledOrder}
use Rattle.format.specs.Format.{byte_values}
use Rattle.marking.specs.Marks.{marked}
use Rattle.minimize.specs.Renaming.{name_in}
use Rattle.minimize.specs.Numbering.{NumbersOf}
use Rattle.validity.specs.Rules.{Spans}
use Rattle.packed.specs.Heads.{HoldsPacked, head_arity, head_out, nth_packed, packed_in, place_of}

-- `numbers` has the number of each of the first n names of an order, and 0 has none
pub record Numbered (order : List ℕ) (n : ℕ) (numbers : List ℕ) : Type 0 where
  pub size : length numbers ≡ byte_values
  pub each : NumbersOf numbers (take n order)
  pub zero : name_in numbers 0 ≡ 0
  pub small : (k : ℕ) → k < n → name_in order k < byte_values

-- the states of a transition have numbers
pub record HasNumbers (numbers : List ℕ) (h a : ℕ) : Type 0 where
  pub args : (k : ℕ) → k < head_arity h → 1 ≤ name_in numbers (place_of a k)
  pub out : 1 ≤ name_in numbers (head_out h)

-- ts and vs have the first n transitions of hs and us, with numbers for names
pub record Renumbered (numbers hs us ts vs : List ℕ) (n : ℕ) : Type 0 where
  pub holds : HoldsPacked ts vs n
  pub has : (i : ℕ) → i < n → HasNumbers numbers (get_or hs i 0) (get_or us i 0)
  pub each : (i : ℕ) → i < n → nth_packed ts vs i ≡ renumber_by (name_in numbers) (nth_packed hs us i)

-- the states 1 to low have been seen
abbrev pub AllSeen : List ℕ → ℕ → Type 0
AllSeen seen low = (q : ℕ) → 1 ≤ q → q ≤ low → marked seen q ≡ true

-- transition i was read: what had been seen still is, and if r, the transitions up to i pass
pub record Read (hs us : List ℕ) (i : ℕ) (before seen : List ℕ) (r : Bool) : Type 0 where
  pub size : length seen ≡ byte_values
  pub kept : (q : ℕ) → marked before q ≡ true → marked seen q ≡ true
  pub spans : Spans seen
  pub passed : r ≡ true → Passed (packed_in hs us (i + 1)) (marked seen)

-- the first n transitions give each of the numbers 1 to m by the rule
abbrev pub Ruled : List ℕ → List ℕ → ℕ → ℕ → Type 0
Ruled hs us n m = (k : ℕ) → k < m → first_open k (packed_in hs us n) ≡ suc k

-- they rise, and give the numbers by the rule
pub record Sound (hs us : List ℕ) (n m : ℕ) : Type 0 where
  pub rises : rising (packed_in hs us n) ≡ true
  pub ruled : Ruled hs us n m

-- ts and vs have the first n transitions of hs and us, with the numbers of an order of m names, and are right by the
-- rule
pub record Settled (hs us : List ℕ) (n : ℕ) (order : List ℕ) (m : ℕ) (ts vs : List ℕ) : Type 0 where
  pub holds : HoldsPacked ts vs n
  pub names : (k : ℕ) → k < m → name_in order k < byte_values
  pub ruled : RuledOrder (packed_in hs us n) (take m order) (packed_in ts vs n)

-- Fingerprints of states: numbers that states of one class have in common if every slot takes them to one state. A
-- state's fingerprint is its class and a sum over its uses, the slots in which transitions have it, of a number that
-- depends on the slot and on the output. Nothing is claimed of how well the numbers spread: if two states share a
-- fingerprint, nothing follows but that they share the class.
use Rattle.std.specs.Prelude.{◌≡◌, ℕ, ◌+◌, ◌-◌, ◌*◌, ◌/◌, ◌%◌, ◌^◌, ◌<◌, ◌≤◌, Bool, true, cond, not, List, [], ◌∷◌, ◌++◌, length, ◌==◌, bit_xor, slice_index}
use Rattle.automata.specs.Acyclic.{acyclic}
use Rattle.automata.specs.Automaton.{Automaton, Transition, accepting, states}
use Rattle.automata.specs.Coaccessible.{all_coaccessible}
use Rattle.automata.specs.Distinguishable.{Slot, all_distinguishable}
use Rattle.lists.specs.Positions.{up_from}
use Rattle.lists.specs.Tests.{bit, every}
use Rattle.marking.specs.Marks.{marked}
use Rattle.table.specs.Layout.{class_at}
use Rattle.format.specs.Format.{byte_values}

-- ---- the numbers

-- what the argument at place k is multiplied by
abbrev pub multiplier : ℕ → ℕ
multiplier k = 61169462280107569 - k * 1137794023457893

-- the arguments from place k on, each times its multiplier, put into y by exclusive or
abbrev pub xored : List ℕ → ℕ → ℕ → ℕ
xored [] k y = y
xored (q ∷ qs) k y = xored qs (k + 1) (bit_xor y (q * multiplier k))

-- what a label and what stands for an output give
unfoldable pub salted : ℕ → ℕ → ℕ
salted a x = bit_xor (bit_xor (a * 9223372037) (x % 4294967296 * 3935559001)) (x / 4294967296 * 2654435769)

-- the product of a number's halves, but for the last 16 bits, which are 2: so the class is the last bit of a
-- fingerprint, and the bits before it count the uses
unfoldable pub mixed : ℕ → ℕ
mixed y =
    y % 4294967296 * (y / 4294967296) - y % 4294967296 * (y / 4294967296) % 65536 + 2

-- what a slot adds to the fingerprint of a state that stands in it, x for its output
unfoldable pub slot_value : Slot → ℕ → ℕ
slot_value z x = mixed (xored z.after (length z.before + 1) (xored z.before 0 (salted z.label x)))

abbrev pub value_at : ℕ → Slot → ℕ
value_at x z = slot_value z x

-- ---- uses

-- the slots of a label in which q stands: among these arguments, l before them
abbrev pub places : List ℕ → List ℕ → ℕ → ℕ → List Slot
places [] l a q = []
places (p ∷ r) l a q =
    let rest = places r (l ++ (p ∷ [])) a q in
    cond (p == q) (record { label = a; before = l; after = r } ∷ rest) rest

abbrev pub total : List Slot → (Slot → ℕ) → ℕ
total [] f = 0
total (z ∷ zs) f = f z + total zs f

-- what q gains from its uses in one transition, x for its output
abbrev pub gain : Transition → ℕ → ℕ → ℕ
gain τ x q = total (places τ.args [] τ.label q) (value_at x)

-- what stands for an output
abbrev pub spread : ℕ → ℕ
spread q = q * 50159747054999923

-- what q gains in all transitions of a list
abbrev pub gains : List Transition → ℕ → ℕ
gains [] q = 0
gains (τ ∷ τs) q = gain τ (spread τ.out) q + gains τs q

-- the fingerprint of a state: its class and what it gains
unfoldable pub fingerprint : Automaton → ℕ → ℕ
fingerprint A q = (bit (accepting A q) + gains A.transitions q) % 2 ^ 64

-- ---- tables of fingerprints

abbrev pub print_of : List ℕ → ℕ → ℕ
print_of m q = slice_index m q

pub record Prints (m : List ℕ) : Type 0 where
  pub size : length m ≡ byte_values
  pub small : (q : ℕ) → print_of m q < 2 ^ 64

-- m' has what m has and what g gives
pub record Gained (g : ℕ → ℕ) (m m' : List ℕ) : Type 0 where
  pub prints : Prints m'
  pub each : (q : ℕ) → print_of m' q ≡ (print_of m q + g q) % 2 ^ 64

-- v for q, nothing for the others
abbrev pub only : ℕ → ℕ → ℕ → ℕ
only q v p = cond (q == p) v 0

-- the classes of the states 1 to n; 0 is not accepting
pub record ClassPrints (cl : List ℕ) (n : ℕ) (m : List ℕ) : Type 0 where
  pub prints : Prints m
  pub none : print_of m 0 ≡ 0
  pub each : (q : ℕ) → 1 ≤ q → q ≤ n → print_of m q ≡ bit (class_at cl q)

-- m has the fingerprints of the states of A and of 0
pub record Fingerprinted (A : Automaton) (m : List ℕ) : Type 0 where
  pub each : (q : ℕ) → q ≤ states A → print_of m q ≡ fingerprint A q

-- ---- different fingerprints

abbrev pub differs : List ℕ → ℕ → ℕ → Bool
differs m p q = not (print_of m p == print_of m q)

-- q differs from the states below it
abbrev pub differs_below : List ℕ → ℕ → Bool
differs_below m q = every (differs m q) (up_from 1 (q - 1))

unfoldable pub all_differ : List ℕ → ℕ → Bool
all_differ m n = every (differs_below m) (up_from 1 n)

-- q has a fingerprint other than 0
abbrev pub some_at : List ℕ → ℕ → Bool
some_at m q = not (print_of m q == 0)

-- the states 1 to n have
unfoldable pub all_some : List ℕ → ℕ → Bool
all_some m n = every (some_at m) (up_from 1 n)

-- where a fingerprint is noted: by its first ten bits
abbrev pub buckets : ℕ
buckets = 1024

abbrev pub bucket_of : ℕ → ℕ
bucket_of x = x / 18014398509481984

-- the buckets of the states below q are taken
pub record TakenBelow (m : List ℕ) (q : ℕ) (f : List ℕ) : Type 0 where
  pub size : length f ≡ buckets
  pub each : (p : ℕ) → 1 ≤ p → p < q → marked f (bucket_of (print_of m p)) ≡ true

-- ---- what fingerprints may show

-- of an automaton without loops: every state is useful, and all are separated
pub record Settled (A : Automaton) : Type 0 where
  pub useful : acyclic A ≡ true → all_coaccessible A ≡ true
  pub separated : acyclic A ≡ true → all_distinguishable A ≡ true

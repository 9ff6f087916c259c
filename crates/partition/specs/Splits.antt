-- Parts that are split: by keys that states that nothing separates share, and by the slots of transitions.
use Rattle.std.specs.Prelude.{Bool, ◌&&◌, cond, false, true, List, ◌≢◌, ◌≡◌, ◌*◌, ◌<◌, ◌≤◌, ℕ, eqb, get_or, length}
use Rattle.automata.specs.Automaton.{Automaton, states}
use Rattle.automata.specs.Distinguishable.{distinguishable}
use Rattle.fields.specs.View.{viewed}
use Rattle.fingerprints.specs.Fingerprints.{ClassPrints}
use Rattle.format.specs.Format.{transition_bytes}
use Rattle.marking.specs.Marks.{Below, marked}
use Rattle.sorted.specs.Steps.{step_at}
use Rattle.table.specs.Layout.{arg_of, arity_of, out_of}
use Rattle.partition.specs.Parts.{Grouped, Parts, Whole, leaders, part_of}

-- ---- by keys

-- the key of q
abbrev pub key_of : List ℕ → ℕ → ℕ
key_of keys q = get_or keys q 0

-- states that nothing separates have one key
abbrev pub Shared : Automaton → (ℕ → ℕ) → Type 0
Shared A χ = (p q : ℕ) → p ≤ states A → q ≤ states A → (distinguishable A p q ≡ true → ⊥) → χ p ≡ χ q

-- r is the least state of q's part that has q's key
pub record LeastOf (m : List ℕ) (χ : ℕ → ℕ) (q r : ℕ) : Type 0 where
  pub within : r ≤ q
  pub part : part_of m r ≡ part_of m q
  pub key : χ r ≡ χ q
  pub least : (p : ℕ) → p < r → part_of m p ≡ part_of m q → χ p ≡ χ q → ⊥

-- r is the leader of q after the split: q stays if it has its leader's key
pub record Moved (m : List ℕ) (χ : ℕ → ℕ) (q r : ℕ) : Type 0 where
  pub stays : χ q ≡ χ (part_of m q) → r ≡ part_of m q
  pub leaves : χ q ≢ χ (part_of m q) → LeastOf m χ q r

-- no state up to q is below its leader
abbrev pub LedBelow : ℕ → List ℕ → Type 0
LedBelow q m = (p : ℕ) → p ≤ q → part_of m p ≤ p

-- p is of q's part and has q's key
abbrev pub is_same : (ℕ → ℕ) → List ℕ → ℕ → ℕ → Bool
is_same χ m q p = eqb (part_of m p) (part_of m q) && eqb (χ p) (χ q)

-- q alone is moved; b says whether it left its leader
pub record Settled (χ : ℕ → ℕ) (q : ℕ) (m m' : List ℕ) (b : Bool) : Type 0 where
  pub size : length m' ≡ length m
  pub others : (p : ℕ) → p ≢ q → part_of m' p ≡ part_of m p
  pub moved : Moved m χ q (part_of m' q)
  pub some : b ≡ true → χ q ≢ χ (part_of m q)
  pub still : b ≡ false → m' ≡ m
  pub none : b ≡ false → χ q ≡ χ (part_of m q)

-- b says whether a state left its leader
pub record Regrouped (n : ℕ) (χ : ℕ → ℕ) (m m' : List ℕ) (b : Bool) : Type 0 where
  pub size : length m' ≡ length m
  pub moved : (q : ℕ) → q ≤ n → Moved m χ q (part_of m' q)
  pub some : b ≡ true → (q : ℕ) × (1 ≤ q) × (q ≤ n) × (χ q ≢ χ (part_of m q))
  pub still : b ≡ false → m' ≡ m
  pub none : b ≡ false → (q : ℕ) → 1 ≤ q → q ≤ n → χ q ≡ χ (part_of m q)

-- ---- by slots

-- a state without a mark has its part for itself
pub record Mates (n : ℕ) (m f : List ℕ) : Type 0 where
  pub alone : (q : ℕ) → 1 ≤ q → q ≤ n → marked f q ≡ false → (p : ℕ) → p ≤ n → part_of m p ≡ part_of m q → p ≡ q

-- q and its leader are marked if they differ, and no mark is lost
pub record Noted (q : ℕ) (m f f' : List ℕ) : Type 0 where
  pub size : length f' ≡ length f
  pub kept : (p : ℕ) → marked f p ≡ true → marked f' p ≡ true
  pub follower : part_of m q ≢ q → marked f' q ≡ true
  pub leader : part_of m q ≢ q → marked f' (part_of m q) ≡ true

-- the part of transition i's output with q for its argument k
abbrev pub part_to : List ℕ → ℕ → List ℕ → ℕ → ℕ → ℕ → ℕ
part_to s c m i k q = part_of m (step_at s c (transition_bytes * i) k q)

-- the same for the states of one leader's part, 0 for others
abbrev pub part_key : List ℕ → ℕ → List ℕ → ℕ → ℕ → ℕ → ℕ → ℕ
part_key s c m i k lead q = cond (eqb (part_of m q) lead) (part_to s c m i k q) 0

-- these are the keys of the states 0 to n
pub record PartKeys (s : List ℕ) (n c : ℕ) (m : List ℕ) (i k lead : ℕ) (keys : List ℕ) : Type 0 where
  pub each : (q : ℕ) → q ≤ n → key_of keys q ≡ part_key s c m i k lead q

-- with the leader of its argument k in that place, transition i gives an output of the same part; if the argument
-- leads, it does with every state of its part
pub record Stable (s : List ℕ) (n c : ℕ) (i k : ℕ) (m : List ℕ) : Type 0 where
  pub leader : part_to s c m i k (part_of m (arg_of s (transition_bytes * i) k)) ≡ part_of m (out_of s (transition_bytes * i))
  pub members : arg_of s (transition_bytes * i) k ≡ part_of m (arg_of s (transition_bytes * i) k) → (q : ℕ) → q ≤ n →
      part_of m q ≡ part_of m (arg_of s (transition_bytes * i) k) →
      part_to s c m i k q ≡ part_of m (out_of s (transition_bytes * i))

-- every place of transition i is stable
abbrev pub StableLine : List ℕ → ℕ → ℕ → ℕ → List ℕ → Type 0
StableLine s n c i = Below (Stable s n c i) (arity_of s (transition_bytes * i))

-- parts were split, r says whether any: they stay sound, and if none was split what is to be closed is
pub record Split (s : List ℕ) (n c : ℕ) (C : List ℕ → Type 0) (m m' : List ℕ) (r : Bool) : Type 0 where
  pub grouped : Grouped n m'
  pub kept : (cl : List ℕ) → Parts (viewed cl s n c) m → Parts (viewed cl s n c) m'
  pub finer : (p q : ℕ) → p ≤ n → q ≤ n → part_of m' p ≡ part_of m' q → part_of m p ≡ part_of m q
  pub grown : r ≡ true → leaders m n < leaders m' n
  pub still : r ≡ false → m' ≡ m
  pub closed : r ≡ false → C m

-- ---- by class

-- the split of one part by the classes of its states
pub record ByClass (cl : List ℕ) (n : ℕ) (m : List ℕ) : Type 0 where
  pub whole : List ℕ
  pub keys : List ℕ
  pub left : Bool
  pub one : Whole n whole
  pub classes : ClassPrints cl n keys
  pub split : Regrouped n (key_of keys) whole m left

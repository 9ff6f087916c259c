-- SIZE: the set of a canonical automaton has one size (02, order 12). It is endless exactly if a state comes back to
-- itself going from arguments to outputs; else the total counts it.
use mathlib.Core.Bool.{Bool, ◌&&◌, cond, false, not, true, true≢false}
use mathlib.Core.List.{List, [], ◌∷◌}
use mathlib.Core.Logic.{◌↔◌, inl, inr}
use mathlib.Core.Path.{◌∙◌, ◌≡◌, ap, refl}
use Prim.Native.Nat.{◌+◌, ◌<◌, ◌≤◌, ℕ}
use native.Mathlib.Omega.{arith}
use Rattle.automata.specs.Acyclic.{Bounded, Leads, acyclic, feeds, leads, leads_rule}
use Rattle.automata.specs.Automaton.{Automaton, accepts, states}
use Rattle.automata.specs.Canonical.{Canonical}
use Rattle.automata.specs.Others.{chains}
use Rattle.automata.specs.Sizes.{Endless, Size, Sized, endless, finite, size_of}
use Rattle.automata.specs.Totals.{total}
use Rattle.automata.specs.Valid.{states_in_range}
use Rattle.lists.specs.Closure.{closure}
use Rattle.lists.specs.Positions.{up_from}
use Rattle.lists.specs.Tests.{Counts, ◌∈◌, every}
use Rattle.trees.specs.Tree.{Tree, depth}
use Rattle.automata.proofs.Bounded.{acyclic-bounded, way_deep}
use Rattle.automata.proofs.CanonicalChange.{canonical-ranged}
use Rattle.automata.proofs.CanonicalRun.{canonical-accepts}
use Rattle.automata.proofs.Leads.{leads-iff}
use Rattle.automata.proofs.Others.{unrolled-larger}
use Rattle.automata.proofs.Totals.{canonical-total}
use Rattle.lists.proofs.Counts.{counts-unique}

-- ---- endless sets

-- a depth that no tree of a list exceeds: all their depths added up
list-depth : (ts : List Tree) → (n : ℕ) × ((t : Tree) → t ∈ ts → depth t ≤ n)
list-depth [] = (0, λ t i. absurd i)
list-depth (u ∷ ts) = let (n, h) = list-depth ts in (depth u + n, also n h)
  where
    also : (n : ℕ) → ((t : Tree) → t ∈ ts → depth t ≤ n) → (t : Tree) → t ∈ (u ∷ ts) → depth t ≤ depth u + n
    also n h t (inl e) = omega (arith, ap depth e)
    also n h t (inr i) = omega (arith, h t i)

-- a set with trees deeper than any number is endless
pub deep-endless : (S : Tree → Bool) → ((n : ℕ) → (t : Tree) × (S t ≡ true) × (n < depth t)) → Endless S
deep-endless S deep ts =
    let (n, h) = list-depth ts in let (t, e, m) = deep n in (t, e, λ i. omega (arith, h t i))

-- no number counts an endless set: the list of the count lacks a member
pub endless-uncounted : (S : Tree → Bool) (n : ℕ) → Endless S → Counts (λ t. S t ≡ true) n → ⊥
endless-uncounted S n all C = let (t, e, new) = all C.list in new ((C.exactly.members t).1 e)

-- an automaton that is not acyclic has a state that comes back to itself
pub cyclic-loop : (A : Automaton) → states_in_range A ≡ true → acyclic A ≡ false → (q : ℕ) × Leads A q q
unfolding acyclic
cyclic-loop A ranged e = find (up_from 1 (states A)) e
  where
    find : (qs : List ℕ) → every (λ q. not (leads A q q)) qs ≡ false → (q : ℕ) × Leads A q q
    find [] e = absurd (true≢false e)
    find (q ∷ qs) e = go (λ h. find qs h) (leads A q q) refl e
      where
        go : (every (λ q. not (leads A q q)) qs ≡ false → (q : ℕ) × Leads A q q) → (b : Bool) → leads A q q ≡ b →
            (not b && every (λ q. not (leads A q q)) qs) ≡ false → (q : ℕ) × Leads A q q
        go ih true l h = (q, (leads-iff A ranged q q).0 l)
        go ih false l h = ih h

-- ---- the size of the set of a canonical automaton

module _ (S : Tree → Bool) (A : Automaton) (X : Canonical S A) where
  cyclic-endless : acyclic A ≡ false → Endless S
  cyclic-endless e = let (q, l) = cyclic-loop A (canonical-ranged S A X) e in deep-endless S (way_deep S A X q l)

  acyclic-set : acyclic A ≡ true → Counts (λ t. S t ≡ true) (total A)
  unfolding Bounded
  acyclic-set e =
      let (n, bound) = acyclic-bounded A (canonical-ranged S A X) e in
      canonical-total S A X (n, λ t i. bound t (canonical-accepts S A X t ∙ i))

  -- 02, order 12: the set is endless exactly if a state comes back to itself
  pub endless-iff : (acyclic A ≡ false) ↔ Endless S
  endless-iff = (cyclic-endless, λ all. go all (acyclic A) refl)
    where
      go : Endless S → (b : Bool) → acyclic A ≡ b → acyclic A ≡ false
      go all true e = absurd (endless-uncounted S (total A) all (acyclic-set e))
      go all false e = e

  -- 02, orders 2 and 12: the set has the size that is worked out
  pub sized : Sized S (size_of A)
  unfolding size_of
  sized = go (acyclic A) refl
    where
      go : (b : Bool) → acyclic A ≡ b → Sized S (cond b (finite (total A)) endless)
      go true e = acyclic-set e
      go false e = cyclic-endless e

-- a set has one size
pub sized-unique : (S : Tree → Bool) (x y : Size) → Sized S x → Sized S y → x ≡ y
sized-unique S (finite m) (finite n) C D = ap finite (counts-unique (λ t. S t ≡ true) m n C D)
sized-unique S (finite m) endless C all = absurd (endless-uncounted S m all C)
sized-unique S endless (finite n) all D = absurd (endless-uncounted S n all D)
sized-unique S endless endless all each = refl

-- there are endless sets: all chains of label 5
pub chains-endless : Endless (accepts chains)
unfolding acyclic leads leads_rule feeds closure
chains-endless = (endless-iff (accepts chains) chains unrolled-larger.canonical).0 refl

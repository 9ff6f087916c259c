-- The search for a name, step by step: candidates tried one after another, and what is chosen in the end.
use mathlib.Core.Bool.{Bool, ◌||◌, false, not, true, true≢false}
use mathlib.Core.List.{List}
use mathlib.Core.Logic.{◌≢◌, ◌⊎◌, inl, inr}
use mathlib.Core.Path.{◌∙◌, ◌≡◌, refl, sym}
use Prim.Native.Nat.{◌+◌, ◌-◌, ◌<◌, ◌≤◌, suc, zero, ℕ}
use native.Mathlib.Omega.{arith}
use lib.Dec.{eqb}
use lib.ListN.{get_or}
use borrow.Author.Count.{below_more}
use borrow.Author.Tests.{eq-eqb, eqb-false, eqb-true, ne_eqb}
use Rattle.automata.specs.Alike.{like_state, like_subtree}
use Rattle.automata.specs.Automaton.{Automaton, states}
use Rattle.automata.specs.Searched.{Free}
use Rattle.marking.specs.Marks.{marked, nonzero}
use Rattle.pairs.specs.Counts.{Open}
use Rattle.subtrees.specs.Store.{tree_numbered}
use Rattle.trees.specs.Tree.{Tree}
use Rattle.naming.specs.Choice.{NoState, NoSubtree, OwnChosen, StateTried}
use Rattle.naming.specs.Choice.{SubtreeTried}
use Rattle.alike.specs.Known.{NamedAbove}
use Rattle.alike.specs.Settings.{NamesKnown}
use Rattle.naming.specs.Settings.{ClassedIn, KnownIn}
use Rattle.uses.specs.declared.setting.Setting.{Setting}
use Rattle.uses.specs.Settings.{HoldsIn}
use Rattle.lists.proofs.Tests.{or_cases, or_left, or_right}

pub not-zero : (x : ℕ) → not (eqb x 0) ≡ nonzero x
not-zero zero = refl
not-zero (suc x) = rw (ne_eqb (suc x) 0 (λ e. omega arith))

-- ---- states

-- the marks show which states are free
module _ {A : Automaton} {t : Tree} {n : ℕ} {o : List ℕ} (size : states A ≡ n) (O : Open A t o) {q : ℕ}
    (h : q ≤ n) where
  marked-free : (eqb q 0 || marked o q) ≡ true → Free A t q
  marked-free e = go (eqb q 0) refl
    where
      rest : (eqb q 0 ≡ true) ⊎ (marked o q ≡ true) → eqb q 0 ≡ false → Free A t q
      rest (inl d) z = absurd (true≢false (sym d ∙ z))
      rest (inr d) z =
          let ne = eqb-false q 0 z in
          inr (sym (O.each q (omega arith, omega arith)) ∙ d)

      go : (b : Bool) → eqb q 0 ≡ b → Free A t q
      go true z = inl (eqb-true q 0 z)
      go false z = rest (or_cases (eqb q 0) (marked o q) e) z

  free-marked : Free A t q → (eqb q 0 || marked o q) ≡ true
  free-marked (inl e) = or_left (eqb q 0) (marked o q) (eq-eqb q 0 e)
  free-marked (inr e) = go (eqb q 0) refl
    where
      go : (b : Bool) → eqb q 0 ≡ b → (eqb q 0 || marked o q) ≡ true
      go true z = or_left (eqb q 0) (marked o q) z
      go false z =
          let ne = eqb-false q 0 z in
          or_right (eqb q 0) (marked o q) (O.each q (omega arith, omega arith) ∙ e)

  module _ {S : Tree → Bool} {ts : List Tree} {N : Tree → ℕ} {j : ℕ} where
    pub not_free : (eqb q 0 || marked o q) ≡ false → StateTried A t S ts N j q false
    not_free e = record {
      yes = λ d. absurd (true≢false (sym d));
      no = λ d f. absurd (true≢false (sym (free-marked f) ∙ e));
    }

    pub free-tried : (eqb q 0 || marked o q) ≡ true → {r : Bool} → r ≡ like_state A t S N (tree_numbered ts j) q →
        StateTried A t S ts N j q r
    free-tried e d = record {
      yes = λ y. record { free = marked-free e; like = sym d ∙ y };
      no = λ y f. sym d ∙ y;
    }

module _ {A : Automaton} {t : Tree} {S : Tree → Bool} {ts : List Tree} {N : Tree → ℕ} {j : ℕ} where
  pub no-state-first : NoState A t S ts N j 0
  no-state-first = record { each = λ q h. absurd (omega arith) }

  pub no-state-next : {p : ℕ} → NoState A t S ts N j p → StateTried A t S ts N j p false → NoState A t S ts N j (p + 1)
  no-state-next {p} h d = record {
    each = below_more (λ q. Free A t q → like_state A t S N (tree_numbered ts j) q ≡ false) p h.each (d.no refl);
  }

-- ---- subtrees

module _ {A : Automaton} {t : Tree} {S : Tree → Bool} {ts : List Tree} {n : ℕ} {N : Tree → ℕ} {j : ℕ} where
  pub not_own : {m : ℕ} {names : List ℕ} → NamedAbove A t ts m j names N → {v : ℕ} → j < v → v ≤ m →
      get_or names (v - 1) 0 ≢ n + v → SubtreeTried A t S ts n N j v false
  not_own X {v} a b h = record {
    yes = λ d. absurd (true≢false (sym d));
    no = λ d o. absurd (h (sym (X.named v a b) ∙ o));
  }

  pub own-tried : {m : ℕ} {names : List ℕ} → NamedAbove A t ts m j names N → {v : ℕ} → j < v → v ≤ m →
      get_or names (v - 1) 0 ≡ n + v → {r : Bool} →
      r ≡ like_subtree A t S N (tree_numbered ts j) (tree_numbered ts v) → SubtreeTried A t S ts n N j v r
  own-tried X {v} a b h d = record {
    yes = λ y. record { own = X.named v a b ∙ h; like = sym d ∙ y };
    no = λ y o. sym d ∙ y;
  }

  pub no-subtree-first : {p : ℕ} → p ≤ j + 1 → NoSubtree A t S ts n N j p
  no-subtree-first h = record { each = λ v a b. absurd (omega arith) }

  pub no-subtree-next : {p : ℕ} → NoSubtree A t S ts n N j p → SubtreeTried A t S ts n N j p false →
      NoSubtree A t S ts n N j (p + 1)
  no-subtree-next {p} h d = record {
    each = λ v a b. below_more (λ v. j < v → N (tree_numbered ts v) ≡ n + v →
        like_subtree A t S N (tree_numbered ts j) (tree_numbered ts v) ≡ false) p (λ i k l. h.each i l k)
        (λ _. d.no refl) v b a;
  }

  -- nothing was found: the name is the subtree's own
  pub own-chosen : {m : ℕ} → NoState A t S ts N j (n + 1) → NoSubtree A t S ts n N j (m + 1) →
      OwnChosen A t S ts n m N j (n + j)
  own-chosen x y = record { same = refl; no-state = x; no-subtree = y }

-- ---- loops

-- the states below p were tried
pub record StatesTried (b : List ℕ) (g : Setting) (o names : List ℕ) (j p : ℕ) : Type 0 where
  pub each : (A : Automaton) (t : Tree) (ts : List Tree) (S : Tree → Bool) (N : Tree → ℕ) →
      KnownIn A t ts S b g → Open A t o → NamesKnown A t ts g.subtrees.now j names N → NoState A t S ts N j p

-- the subtrees above j and below p were tried
pub record SubtreesTried (g : Setting) (names : List ℕ) (j p : ℕ) : Type 0 where
  pub each : (A : Automaton) (t : Tree) (ts : List Tree) (S : Tree → Bool) (N : Tree → ℕ) →
      HoldsIn A t ts g → ClassedIn S ts g → NamesKnown A t ts g.subtrees.now j names N → NoSubtree A t S ts g.n N j p

-- With all names given, each subtree has the name that `Searched` requires.
use mathlib.Core.Bool.{Bool, false, true}
use mathlib.Core.List.{List}
use mathlib.Core.Logic.{◌⊎◌, inl, inr}
use mathlib.Core.Path.{◌∙◌, ◌≡◌, ap, subst, sym}
use Prim.Native.Nat.{◌+◌, ◌-◌, ◌<◌, ◌≤◌, ℕ}
use native.Mathlib.Omega.{arith}
use lib.ListN.{get_or}
use Rattle.automata.specs.Alike.{like_subtree}
use Rattle.automata.specs.Automaton.{Automaton, Fits, states}
use Rattle.automata.specs.Change.{subtree_number}
use Rattle.automata.specs.Names.{is_subtree}
use Rattle.automata.specs.Searched.{Free, OwnName, Searched, SharedName, StateName}
use Rattle.automata.specs.SubtreeNames.{name_of}
use Rattle.subtrees.specs.Store.{tree_numbered}
use Rattle.trees.specs.Tree.{Tree}
use Rattle.naming.specs.Choice.{Chosen, OwnChosen, SharedChosen, StateChosen, name_in}
use Rattle.alike.specs.Known.{Holds}
use Rattle.alike.specs.Known.{NamedAbove}
use Rattle.naming.specs.Settings.{KnownIn}
use Rattle.uses.specs.declared.setting.Setting.{Setting}
use Rattle.pairs.specs.Counts.{Open}
use Rattle.automata.proofs.Distinguishable.{run_fits}
use Rattle.automata.proofs.Names.{in-subtree, subtree-in}
use Rattle.automata.proofs.StatePairs.{open-tree}
use Rattle.naming.proofs.Giving.{NamesGiven}
use Rattle.alike.proofs.Carried.{holds-subtrees}
use Rattle.naming.proofs.Parentage.{in-number, number_in, number-place, number_same}

free-most : (A : Automaton) → Fits A → (t : Tree) (q : ℕ) → Free A t q → q ≤ states A
free-most A fit t q (inl e) = omega arith
free-most A fit t q (inr o) = let (w, e, _) = open-tree A fit t q o in omega (arith, e, run_fits A fit w)

module _ {A : Automaton} {t : Tree} {ts : List Tree} {n m : ℕ} {l r c q : List ℕ} (S : Tree → Bool)
    (h : Holds A t ts m l r c q) (fit : Fits A) (size : states A ≡ n) (names : List ℕ) where
  abbrev ν : Tree → ℕ
  ν = name_in ts names

  abbrev N : Tree → ℕ
  N = name_of A t ν

  abbrev number : Tree → ℕ
  number = subtree_number ts

  subtree : (x : ℕ) → 1 ≤ x → x ≤ m → is_subtree t (tree_numbered ts x) ≡ true
  subtree x a b = in-subtree t (tree_numbered ts x) (number_in h x a b)

  entry-name : (x : ℕ) → 1 ≤ x → x ≤ m → ν (tree_numbered ts x) ≡ get_or names (x - 1) 0
  entry-name x a b = ap (λ k. get_or names (k - 1) 0) (number-place h x a b)

  name-name : (x : ℕ) → 1 ≤ x → x ≤ m → N (tree_numbered ts x) ≡ ν (tree_numbered ts x)
  name-name x a b = rw (subtree x a b)

  -- the names of all trees agree with the entries
  pub all_named : (x : ℕ) → NamedAbove A t ts m x names N
  all_named x = record {
    others = λ u e. rw e;
    named = λ k a b. name-name k (omega arith) b ∙ entry-name k (omega arith) b;
  }

  by_state : (x : ℕ) → 1 ≤ x → x ≤ m → StateChosen A t S ts N x (get_or names (x - 1) 0) →
      StateName A t S ν (tree_numbered ts x)
  by_state x a b y = record {
    free = subst (Free A t) (sym (entry-name x a b)) y.free;
    like = rw (entry-name x a b) y.like;
  }

  by-subtree : (x : ℕ) → 1 ≤ x → x ≤ m → SharedChosen A t S ts n m N x (get_or names (x - 1) 0) →
      SharedName A t S number ν (tree_numbered ts x)
  by-subtree x a b y = let v = y.model in let low : 1 ≤ v = omega (arith, y.above) in record {
    model = tree_numbered ts v;
    there = subtree v low y.known;
    other = λ e. omega (arith, y.above, number_same h v x low y.known a b e);
    own = sym (name-name v low y.known) ∙ y.chosen.own ∙ own v low y.known;
    same = entry-name x a b ∙ y.same ∙ sym (sym (name-name v low y.known) ∙ y.chosen.own);
    like = y.chosen.like;
  }
    where
      own : (v : ℕ) → 1 ≤ v → v ≤ m → n + v ≡ states A + number (tree_numbered ts v)
      own v a b = omega (arith, size, number-place h v a b)

  by_itself : (x : ℕ) → 1 ≤ x → x ≤ m → OwnChosen A t S ts n m N x (get_or names (x - 1) 0) →
      OwnName A t S number ν (tree_numbered ts x)
  by_itself x a b y = record {
    own = omega (arith, entry-name x a b, y.same, size, number-place h x a b);
    no-state = λ p f. y.no-state.each p (omega (arith, free-most A fit t p f, size)) f;
    no-subtree = later;
  }
    where
      later : (v : Tree) → is_subtree t v ≡ true → number (tree_numbered ts x) < number v →
          ν v ≡ states A + number v → like_subtree A t S N (tree_numbered ts x) v ≡ false
      later v i k o =
          let (z, low, high, e) = in-number h v (subtree-in t v i) in
          subst (λ (u : Tree). like_subtree A t S N (tree_numbered ts x) u ≡ false) e
          (y.no-subtree.each z
          (omega (arith, k, number-place h x a b, number-place h z low high, ap number e)) (omega arith)
          (omega (arith, name-name z low high, ap ν e, o, size, number-place h z low high, ap number e)))

  pub all-searched : ((x : ℕ) → 1 ≤ x → x ≤ m → Chosen A t S ts n m N x (get_or names (x - 1) 0)) →
      Searched A t S number ν
  all-searched chosen = record { found = found }
    where
      Found : Tree → Type 0
      Found u = StateName A t S ν u ⊎ (SharedName A t S number ν u ⊎ OwnName A t S number ν u)

      way : (x : ℕ) → 1 ≤ x → x ≤ m → Chosen A t S ts n m N x (get_or names (x - 1) 0) → Found (tree_numbered ts x)
      way x a b (inl y) = inl (by_state x a b y)
      way x a b (inr (inl y)) = inr (inl (by-subtree x a b y))
      way x a b (inr (inr y)) = inr (inr (by_itself x a b y))

      found : (u : Tree) → is_subtree t u ≡ true → Found u
      found u i =
          let (x, low, high, e) = in-number h u (subtree-in t u i) in
          subst Found e (way x low high (chosen x low high))

pub given-searched : {b : List ℕ} {g : Setting} {o names shared : List ℕ} {j : ℕ} →
    NamesGiven b g o names shared j → j ≤ 0 → {A : Automaton} {t : Tree} {ts : List Tree}
    {S : Tree → Bool} → KnownIn A t ts S b g → Open A t o →
    Searched A t S (subtree_number ts) (name_in ts names)
given-searched {names = names} inv z {A} {t} {ts} {S} K O =
    all-searched S (holds-subtrees K.holds) K.classes.fits K.size names
    (λ x low high. inv.chosen A t ts S (name_of A t (name_in ts names)) K O x (omega arith) high
    (all_named S (holds-subtrees K.holds) K.classes.fits K.size names x))

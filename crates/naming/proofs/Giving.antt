-- Names are given from the last subtree to the first, and the name chosen for each is one that the criterion allows.
use mathlib.Core.Bool.{Bool, false, true}
use mathlib.Core.List.{List}
use mathlib.Core.Logic.{◌≢◌}
use mathlib.Core.Path.{◌∙◌, ◌≡◌, refl, subst, sym}
use Prim.Native.Nat.{◌+◌, ◌-◌, ◌<◌, ◌≤◌, ℕ}
use native.Mathlib.Omega.{arith}
use lib.Dec.{eqb}
use lib.ListN.{get_or, length, length-replicate, length-set, replicate, set}
use lib.Seq.{get_or-set_other, get_or-set_same}
use borrow.Author.Tests.{eqb-false, eqb-true}
use Rattle.automata.specs.Automaton.{Automaton}
use Rattle.format.specs.Format.{max_nodes}
use Rattle.naming.specs.Choice.{Bounded, Chosen}
use Rattle.alike.specs.Known.{NamedAbove}
use Rattle.alike.specs.Settings.{NamesKnown}
use Rattle.naming.specs.Settings.{KnownIn}
use Rattle.uses.specs.declared.setting.Setting.{Setting}
use Rattle.naming.specs.Parents.{Marked, Shared}
use Rattle.pairs.specs.Counts.{Open}
use Rattle.trees.specs.Tree.{Tree}

-- the subtrees above j have their names
pub record NamesGiven (b : List ℕ) (g : Setting) (o names shared : List ℕ) (j : ℕ) : Type 0 where
  pub within : j ≤ g.subtrees.now.count
  pub size : length names ≡ max_nodes
  pub marks : length shared ≡ max_nodes
  pub bounded : (x : ℕ) → j < x → x ≤ g.subtrees.now.count → get_or names (x - 1) 0 ≤ g.n + g.subtrees.now.count
  pub shares : Shared g.n g.subtrees.now.count j names shared
  pub chosen : (A : Automaton) (t : Tree) (ts : List Tree) (S : Tree → Bool) (N : Tree → ℕ) →
      KnownIn A t ts S b g → Open A t o → (x : ℕ) → j < x → x ≤ g.subtrees.now.count →
      NamesKnown A t ts g.subtrees.now x names N →
      Chosen A t S ts g.n g.subtrees.now.count N x (get_or names (x - 1) 0)

module _ {b : List ℕ} {g : Setting} {o : List ℕ} where
  pub given-start : {i : ℕ} → g.subtrees.now.count ≤ i → i ≤ g.subtrees.now.count →
      NamesGiven b g o (replicate max_nodes 0) (replicate max_nodes 0) i
  given-start all within = record {
    within = within;
    size = length-replicate {A = ℕ} max_nodes 0;
    marks = length-replicate {A = ℕ} max_nodes 0;
    bounded = λ x h k. absurd (omega arith);
    shares = record { each = λ x i h k. absurd (omega arith) };
    chosen = λ A t ts S N K O x h k. absurd (omega arith);
  }

  module _ {names shared shared' : List ℕ} {j y : ℕ}
      (inv : NamesGiven b g o names shared j) (some : 1 ≤ j) (few : g.subtrees.now.count ≤ max_nodes)
      (small : y ≤ g.n + g.subtrees.now.count) (sizes : length shared' ≡ max_nodes) (mark : Marked g.n j y shared shared')
      (found : (A : Automaton) (t : Tree) (ts : List Tree) (S : Tree → Bool) (N : Tree → ℕ) →
      KnownIn A t ts S b g → Open A t o → NamedAbove A t ts g.subtrees.now.count j names N →
      Chosen A t S ts g.n g.subtrees.now.count N j y) where
    abbrev more : List ℕ
    more = set names (j - 1) y

    -- the entry at j is new, and the others stay
    here : get_or more (j - 1) 0 ≡ y
    here = get_or-set_same names (j - 1) y 0 (omega (arith, inv.size, inv.within))

    above : (x : ℕ) → j < x → get_or more (x - 1) 0 ≡ get_or names (x - 1) 0
    above x h = get_or-set_other names (j - 1) (x - 1) y 0 (λ e. omega arith)

    -- what holds at j and above j holds above j - 1
    from : (P : ℕ → Type 0) → P j → ((x : ℕ) → j < x → x ≤ g.subtrees.now.count → P x) → (x : ℕ) → j - 1 < x → x ≤ g.subtrees.now.count → P x
    from P a k x h e = go (eqb x j) refl
      where
        go : (d : Bool) → eqb x j ≡ d → P x
        go true d = subst P (sym (eqb-true x j d)) a
        go false d = let ne = eqb-false x j d in k x (omega arith) e

    before : {A : Automaton} {t : Tree} {ts : List Tree} {N : Tree → ℕ} {x : ℕ} → j ≤ x →
        NamedAbove A t ts g.subtrees.now.count x more N → NamedAbove A t ts g.subtrees.now.count x names N
    before {A} {t} {ts} {N} {x} h X = record {
      others = X.others;
      named = λ k a e. X.named k a e ∙ above k (omega arith);
    }

    shares : Shared g.n g.subtrees.now.count (j - 1) more shared'
    shares = record {
      each = λ x i h k. from (λ x. 1 ≤ i → get_or more (x - 1) 0 ≡ g.n + i → x ≢ i → get_or shared' (i - 1) 0 ≢ 0)
          (λ a e d. mark.new i a (sym here ∙ e) d)
          (λ x h k a e d. mark.kept (i - 1) (inv.shares.each x i h k a (sym (above x h) ∙ e) d)) x h k;
    }

    pub given-next : NamesGiven b g o more shared' (j - 1)
    given-next = record {
      within = omega (arith, inv.within);
      size = length-set names (j - 1) y ∙ inv.size;
      marks = sizes;
      bounded = from (λ x. get_or more (x - 1) 0 ≤ g.n + g.subtrees.now.count) (omega (arith, here))
          (λ x h k. omega (arith, above x h, inv.bounded x h k));
      shares = shares;
      chosen = λ A t ts S N K O. from
          (λ x. NamedAbove A t ts g.subtrees.now.count x more N → Chosen A t S ts g.n g.subtrees.now.count N x (get_or more (x - 1) 0))
          (λ X. subst (Chosen A t S ts g.n g.subtrees.now.count N j) (sym here) (found A t ts S N K O (before (omega arith) X)))
          (λ x h k X. subst (Chosen A t S ts g.n g.subtrees.now.count N x) (sym (above x h))
          (inv.chosen A t ts S N K O x h k (before (omega arith) X)));
    }

  pub given-bounded : {names shared : List ℕ} {j : ℕ} → NamesGiven b g o names shared j →
      j ≤ 0 → Bounded g.n g.subtrees.now.count names
  given-bounded inv h = record { each = λ x a k. inv.bounded x (omega arith) k }

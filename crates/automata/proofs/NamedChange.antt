-- Names found by search give the changed automaton: its transitions are those between names, and its states and
-- transitions are counted before they are made (01, refusal 17). Nothing here says that the set is finite.
use mathlib.Core.Bool.{Bool, ◌&&◌, ◌||◌, and-true, cond, false, not, or-false, true}
use mathlib.Core.List.{List, []}
use mathlib.Core.Logic.{◌⊎◌, inl, inr}
use mathlib.Core.Path.{◌∙◌, ◌≡◌, ap, refl, subst, sym}
use Prim.Native.Nat.{◌+◌, ◌-◌, ◌≤◌, suc, zero, ℕ}
use native.Mathlib.Omega.{arith}
use lib.Dec.{eqb, leb}
use lib.ListN.{get_or, length}
use borrow.Author.Tests.{eqb-false, eqb-true, le-leb, lt-leb}
use Rattle.automata.specs.Automaton.{Automaton, Fits, Transition, accepting, accepts, run, states}
use Rattle.automata.specs.Canonical.{Canonical}
use Rattle.automata.specs.Change.{subtree_number, subtrees}
use Rattle.automata.specs.NamedChange.{OverNames, ShapeOf, changed_automaton, changed_set, name_class, names_in_use}
use Rattle.automata.specs.Names.{Naming, QuotientOf, is_subtree}
use Rattle.automata.specs.OpenStates.{open_state, sum_over}
use Rattle.automata.specs.Quotient.{gone_count, kept_names, new_count, own_name, quotient_list}
use Rattle.automata.specs.Renumber.{renumbered}
use Rattle.automata.specs.Searched.{OwnName, Searched, SharedName, StateName}
use Rattle.automata.specs.SubtreeNames.{IsOwnName, Names, name_of}
use Rattle.automata.specs.Valid.{LegalTransitions, states_in_range}
use Rattle.lists.specs.Positions.{up_from}
use Rattle.lists.specs.Tests.{Exactly, ◌∈◌}
use Rattle.trees.specs.Legal.{Legal, LegalNode}
use Rattle.trees.specs.Tree.{Forest, Tree, count, eq_tree, no_tree, node}
use Rattle.automata.proofs.CanonicalChange.{canonical-fits, canonical-ranged, delete-kept, insert-kept}
use Rattle.automata.proofs.Distinguishable.{run_fits}
use Rattle.automata.proofs.Frames.{not-subtree}
use Rattle.automata.proofs.GroupingCounts.{GroupOf, canonical-grouping, groups-length, transitions-length}
use Rattle.automata.proofs.Names.{named-somewhere, names-canonical, names-grouping, plug-other, unnamed-nowhere}
use Rattle.automata.proofs.NamesInUse.{list-shape, rep-used, used-args, used-distinct, used-out, used-positive}
use Rattle.automata.proofs.NamesInUse.{used-rep}
use Rattle.automata.proofs.ProductLaws.{rising-distinct}
use Rattle.automata.proofs.Quotient.{quotient-counted, quotient-distinct}
use Rattle.automata.proofs.QuotientNames.{quotient-of, rep-of}
use Rattle.automata.proofs.Renumbered.{Grouping}
use Rattle.automata.proofs.Representatives.{Rep, other_name, subtree-name}
use Rattle.automata.proofs.Searched.{position-numbering, searched-naming}
use Rattle.automata.proofs.SubtreeContexts.{subtrees-exact}
use Rattle.automata.proofs.Unique.{unique}
use Rattle.lists.proofs.Distinct.{up_from-distinct}
use Rattle.lists.proofs.Positions.{in-up_from, position_at, position-pos, up_from-in, up_from-length}
use Rattle.trees.proofs.Legal.{subtree-legal}
use Rattle.trees.proofs.Trees.{eq_tree-same, eq_tree-true}

-- ---- the change

-- only t itself may change
pub changed-agree : (inserting : Bool) (A : Automaton) (t v : Tree) → eq_tree v t ≡ false →
    changed_set inserting A t v ≡ accepts A v
unfolding changed_set
changed-agree true A t v e = ap (λ (b : Bool). accepts A v || b) e ∙ or-false (accepts A v)
changed-agree false A t v e = ap (λ (b : Bool). accepts A v && not b) e ∙ and-true (accepts A v)

pub changed-kept : (inserting : Bool) (A : Automaton) → Canonical (accepts A) A → (t : Tree) →
    Canonical (changed_set inserting A t) (changed_automaton inserting t A)
unfolding changed_set changed_automaton
changed-kept true A X t = insert-kept (accepts A) A X t
changed-kept false A X t = delete-kept (accepts A) A X t

-- ---- the class of a name

module _ (A : Automaton) (ts : List Tree) (S : Tree → Bool) where
  pub class-state : (x : ℕ) → x ≤ states A → name_class A ts S x ≡ accepting A x
  unfolding name_class
  class-state x h = rw (le-leb x (states A) h)

  pub class-own : (u : Tree) → u ∈ ts → name_class A ts S (own_name A ts u) ≡ S u
  unfolding name_class
  class-own u i = go (subtree_number ts u) refl (position-pos eq_tree eq_tree-true eq_tree-same ts u i)
    where
      go : (n : ℕ) → subtree_number ts u ≡ n → 1 ≤ n →
          cond (leb (states A + n) (states A)) (accepting A (states A + n))
          (S (get_or ts (states A + n - states A - 1) no_tree)) ≡ S u
      go zero e h = absurd (omega arith)
      go (suc n) e h =
          let d : states A + suc n - states A - 1 ≡ n = omega arith in
          rw (lt-leb (states A + suc n) (states A) (omega arith), d)
          (ap S (position_at eq_tree eq_tree-true eq_tree-same ts u no_tree n e).1)

-- ---- names found by search

-- each name is 0, an open state, or an own name
pub searched-names : (A : Automaton) (t : Tree) (ts : List Tree) (S : Tree → Bool) (ν : Tree → ℕ) →
    Searched A t S (subtree_number ts) ν → Names A t ts ν
searched-names A t ts S ν searched = record { named = λ u e. go u e (searched.found u e) }
  where
    go : (u : Tree) → is_subtree t u ≡ true →
        StateName A t S ν u ⊎ (SharedName A t S (subtree_number ts) ν u ⊎ OwnName A t S (subtree_number ts) ν u) →
        (ν u ≡ 0) ⊎ ((open_state A t (ν u) ≡ true) ⊎ IsOwnName A t ts ν (ν u))
    go u e (inl s) = free s.free
      where
        free : (ν u ≡ 0) ⊎ (open_state A t (ν u) ≡ true) →
            (ν u ≡ 0) ⊎ ((open_state A t (ν u) ≡ true) ⊎ IsOwnName A t ts ν (ν u))
        free (inl z) = inl z
        free (inr o) = inr (inl o)
    go u e (inr (inl s)) = inr (inr (s.model, s.there, s.own, s.same ∙ s.own))
    go u e (inr (inr o)) = inr (inr (u, e, o.own, o.own))

module _ (inserting : Bool) (A : Automaton) (X : Canonical (accepts A) A) (t : Tree) (ts : List Tree)
    (listed : Exactly (λ u. u ∈ subtrees t) ts) (ν : Tree → ℕ)
    (searched : Searched A t (changed_set inserting A t) (subtree_number ts) ν) where
  abbrev S : Tree → Bool
  S = changed_set inserting A t

  abbrev N : Tree → ℕ
  N = name_of A t ν

  abbrev W : List Transition
  W = quotient_list A t ts ν

  abbrev B : Automaton
  B = changed_automaton inserting t A

  ranged : states_in_range A ≡ true
  ranged = canonical-ranged (accepts A) A X

  fit : Fits A
  fit = canonical-fits (accepts A) A X

  agree : (v : Tree) → eq_tree v t ≡ false → changed_set inserting A t v ≡ accepts A v
  agree = changed-agree inserting A t

  Y : Canonical (changed_set inserting A t) (changed_automaton inserting t A)
  Y = changed-kept inserting A X t

  H : Names A t ts ν
  H = searched-names A t ts (changed_set inserting A t) ν searched

  M : Naming A t (changed_set inserting A t) (name_of A t ν)
  M =
      searched-naming (accepts A) A X t S agree (subtree_number ts) ν
      (position-numbering t ts (λ u i. (listed.members u).1 i)) searched

  -- the listed transitions are those between names
  pub searched-quotient : QuotientOf (name_of A t ν) (quotient_list A t ts ν)
  searched-quotient = quotient-of A t ts ν ranged X.sorted listed H S M

  -- ---- the class of a name is that of its trees

  class-rep : (v : Tree) → Rep A t ts ν v → name_class A ts S (N v) ≡ S v
  unfolding Rep
  class-rep v (inl (i, e)) =
      ap (name_class A ts S) (subtree-name A t ts ν v i ∙ e) ∙ class-own A ts S v ((listed.members v).1 i)
  class-rep v (inr (miss, s)) =
      ap (name_class A ts S) (other_name A t ts ν v miss)
      ∙ class-state A ts S (run A v) (run_fits A fit v)
      ∙ sym (agree v (plug-other t [] v (not-subtree t v miss)))

  pub searched-class : (u : Tree) → name_class A ts (changed_set inserting A t) (name_of A t ν u) ≡
      changed_set inserting A t u
  searched-class u = go (eqb (N u) 0) refl
    where
      go : (b : Bool) → eqb (N u) 0 ≡ b → name_class A ts S (N u) ≡ S u
      go true e =
          let z = eqb-true (N u) 0 e in
          ap (name_class A ts S) z ∙ class-state A ts S 0 (omega arith) ∙ sym (M.none-classed u z)
      go false e =
          let (v, p, d) = rep-of A t ts ν ranged X.sorted listed H u (eqb-false (N u) 0 e) in
          ap (name_class A ts S) (sym d) ∙ class-rep v p ∙ M.classed v u d

  -- ---- the changed automaton

  -- the transitions between names, renumbered, are those of the changed automaton
  pub searched-changed :
      renumbered (name_class A ts (changed_set inserting A t)) (quotient_list A t ts ν) ≡ changed_automaton inserting t A
  searched-changed =
      unique S (renumbered (name_class A ts S) W) B
      (names-canonical (accepts A) A X t S agree N M W searched-quotient (name_class A ts S)
      (λ u p. searched-class u))
      Y

  -- the names group the subtrees of the changed set
  pub searched-grouping : Grouping (changed_set inserting A t) (name_of A t ν) (quotient_list A t ts ν)
  searched-grouping = names-grouping (accepts A) A X t S agree N M W searched-quotient

  -- ---- its states

  -- the names of subtrees of the changed set are those in use
  pub searched-in-use : Exactly (GroupOf (changed_set inserting A t) (name_of A t ν)) (names_in_use A t ts ν)
  searched-in-use = record {
    once = used-distinct A t ts ν fit listed;
    members = λ x. (λ i. named x i, λ p. used x p);
  }
    where
      named : (x : ℕ) → x ∈ names_in_use A t ts ν → GroupOf S N x
      named x i =
          let (u, p, e) = used-rep A t ts ν fit listed x i in
          let h = used-positive A t ts ν fit listed x i in (
            u,
            named-somewhere (accepts A) A X t S agree N M u (λ z. omega (arith, z, e, h)),
            e,
          )

      used : (x : ℕ) → GroupOf S N x → x ∈ names_in_use A t ts ν
      used x (u, p, e) =
          let (v, r, d) =
          rep-of A t ts ν ranged X.sorted listed H u
          (λ z. unnamed-nowhere (accepts A) A X t S agree N M u z p) in
          subst (λ (y : ℕ). y ∈ names_in_use A t ts ν) (d ∙ e)
          (rep-used A t ts ν fit listed v r)

  states-exactly : Exactly (GroupOf S Y.group) (up_from 1 (states B))
  states-exactly = record {
    once = up_from-distinct 1 (states B);
    members = λ q. (λ i. onto q i, λ p. range q p);
  }
    where
      onto : (q : ℕ) → q ∈ up_from 1 (states B) → GroupOf S Y.group q
      onto q i = let r = up_from-in 1 (states B) q i in Y.onto q r.0 (omega arith)

      range : (q : ℕ) → GroupOf S Y.group q → q ∈ up_from 1 (states B)
      range q (u, p, e) =
          let r = Y.range u p in in-up_from 1 (states B) q (omega (arith, e, r)) (omega (arith, e, r))

  -- the changed automaton has one state for each name in use
  pub searched-states : states (changed_automaton inserting t A) ≡ length (names_in_use A t ts ν)
  searched-states =
      sym (up_from-length 1 (states B))
      ∙ groups-length S Y.group N B.transitions W (canonical-grouping S B Y) searched-grouping
      (up_from 1 (states B)) (names_in_use A t ts ν) states-exactly searched-in-use

  -- ---- its transitions

  -- the changed automaton has as many transitions as there are between names
  pub searched-length : length (changed_automaton inserting t A).transitions ≡ length (quotient_list A t ts ν)
  searched-length =
      transitions-length S Y.group N B.transitions W (canonical-grouping S B Y) searched-grouping
      (rising-distinct B.transitions Y.sorted)
      (quotient-distinct A t ts ν ranged X.sorted listed)

  pub searched-transitions : length (changed_automaton inserting t A).transitions + gone_count A ts ν ≡
      sum_over (λ q. length (kept_names A t ts ν q)) A.transitions + new_count A ts ν
  searched-transitions =
      ap (λ (n : ℕ). n + gone_count A ts ν) searched-length
      ∙ quotient-counted A t ts ν ranged X.sorted listed

  -- ---- what the transitions between names stand over

  pub names-bounded : (σ : Transition) → σ ∈ quotient_list A t ts ν → OverNames A t ts ν σ
  names-bounded σ i =
      let o = used-out A t ts ν ranged X.sorted listed H σ i in
      record {
        args = used-args A t ts ν ranged X.sorted listed σ i;
        out = o;
        positive = used-positive A t ts ν fit listed σ.out o;
        shape = list-shape A t ts ν ranged X.sorted listed (ShapeOf A t)
            (λ τ j. inl (τ, j, refl, refl)) (λ a f j. inr (f, j, refl)) σ i;
      }

  -- legal transitions and a legal tree give legal transitions
  pub names-legal : LegalTransitions A → Legal t → (σ : Transition) → σ ∈ quotient_list A t ts ν →
      LegalNode σ.label (length σ.args)
  names-legal old new =
      list-shape A t ts ν ranged X.sorted listed LegalNode old inside
    where
      inside : (a : ℕ) (f : Forest) → node a f ∈ subtrees t → LegalNode a (count f)
      inside a f i =
          let (c, e) = ((subtrees-exact t).members (node a f)).0 i in
          (subtree-legal c (node a f) (subst Legal (sym e) new)).0

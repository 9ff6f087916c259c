-- Two groupings of the subtrees of a set have as many groups and as many transitions as each other.
use mathlib.Core.Bool.{Bool}
use mathlib.Core.List.{List}
use mathlib.Core.Path.{◌∙◌, ◌≡◌, ap, refl, sym}
use Prim.Native.Nat.{◌≤◌, ℕ}
use native.Mathlib.Omega.{arith}
use lib.ListN.{length}
use Rattle.automata.specs.Automaton.{Automaton, Transition}
use Rattle.automata.specs.Canonical.{Canonical, Occurs, Subtree, each_tree, transition_of}
use Rattle.lists.specs.Tests.{Distinct, Exactly, ◌∈◌}
use Rattle.trees.specs.Tree.{AllTrees, Forest, Tree, cons, nil, node}
use Rattle.automata.proofs.Renumbered.{Grouping}
use Rattle.automata.proofs.Unique.{children}
use Rattle.lists.proofs.Distinct.{partners-length}

-- the groups of a canonical automaton
pub canonical-grouping : (S : Tree → Bool) (A : Automaton) (X : Canonical S A) → Grouping S X.group A.transitions
canonical-grouping S A X = record {
  joins = X.joins;
  separates = X.separates;
  occurs = X.occurs;
  only = X.only;
}

-- x is the group of a subtree
abbrev pub GroupOf : (Tree → Bool) → (Tree → ℕ) → ℕ → Type 0
GroupOf S g x = (u : Tree) × Subtree S u × (g u ≡ x)

module _ (S : Tree → Bool) where
  module _ (g h : Tree → ℕ) (Q R : List Transition) (G : Grouping S g Q) (H : Grouping S h R) where
    same-group : (u v : Tree) → Subtree S u → Subtree S v → h u ≡ h v → g u ≡ g v
    same-group u v p q e = G.joins u v p q (H.separates u v p q e)

    same-groups : (f k : Forest) → AllTrees (Subtree S) f → AllTrees (Subtree S) k → each_tree h f ≡ each_tree h k →
        each_tree g f ≡ each_tree g k
    same-groups nil nil p q e = refl
    same-groups nil (cons v k) p q e = let z : ◌≡◌ {A = ℕ} 0 1 = cc in absurd (omega arith)
    same-groups (cons u f) nil p q e = let z : ◌≡◌ {A = ℕ} 0 1 = cc in absurd (omega arith)
    same-groups (cons u f) (cons v k) p q e =
        let d : h u ≡ h v = cc in
        let ds : each_tree h f ≡ each_tree h k = cc in
        cc (same-group u v p.0 q.0 d, same-groups f k p.1 q.1 ds)

    -- two groups of one subtree
    abbrev Both : ℕ → ℕ → Type 0
    Both x y = (u : Tree) × Subtree S u × (g u ≡ x) × (h u ≡ y)

    groups-least : (L M : List ℕ) → Exactly (GroupOf S g) L → Exactly (GroupOf S h) M → length L ≤ length M
    groups-least L M E F = partners-length Both own L M E.once partner
      where
        own : (x y z : ℕ) → Both x z → Both y z → x ≡ y
        own x y z (u, p, d, e) (v, q, c, b) = sym d ∙ same-group u v p q (e ∙ sym b) ∙ c

        partner : (x : ℕ) → x ∈ L → (y : ℕ) × (y ∈ M) × Both x y
        partner x i =
            let (u, p, e) = (E.members x).0 i in
            (h u, (F.members (h u)).1 (u, p, refl), (u, p, e, refl))

    -- two transitions at the top of one subtree
    abbrev BothAt : Transition → Transition → Type 0
    BothAt σ τ =
        (a : ℕ) × (f : Forest) × Subtree S (node a f) × (σ ≡ transition_of g a f) × (τ ≡ transition_of h a f)

    transitions-least : Distinct Q → length Q ≤ length R
    transitions-least once = partners-length BothAt own Q R once partner
      where
        own : (σ τ υ : Transition) → BothAt σ υ → BothAt τ υ → σ ≡ τ
        own σ τ υ (a, f, p, d, e) (b, k, q, c, z) =
            let w : transition_of h a f ≡ transition_of h b k = sym e ∙ z in
            let l : a ≡ b = ap (λ (x : Transition). x.label) w in
            let s = same-groups f k (children S a f p) (children S b k q) (ap (λ (x : Transition). x.args) w) in
            let o = same-group (node a f) (node b k) p q (ap (λ (x : Transition). x.out) w) in
            d ∙ (λ i. record { label = l i; args = s i; out = o i }) ∙ sym c

        partner : (σ : Transition) → σ ∈ Q → (τ : Transition) × (τ ∈ R) × BothAt σ τ
        partner σ i = go (G.only σ i)
          where
            go : Occurs S g σ → (τ : Transition) × (τ ∈ R) × BothAt σ τ
            go (a, f, p, e) = (transition_of h a f, H.occurs a f p, (a, f, p, e, refl))

  module _ (g h : Tree → ℕ) (Q R : List Transition) (G : Grouping S g Q) (H : Grouping S h R) where
    pub groups-length : (L M : List ℕ) → Exactly (GroupOf S g) L → Exactly (GroupOf S h) M → length L ≡ length M
    groups-length L M E F =
        omega (arith, groups-least g h Q R G H L M E F, groups-least h g R Q H G M L F E)

    pub transitions-length : Distinct Q → Distinct R → length Q ≡ length R
    transitions-length d e =
        omega (arith, transitions-least g h Q R G H d, transitions-least h g R Q H G e)

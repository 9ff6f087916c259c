-- The automaton of a tree's subtrees runs each subtree to its number.
use mathlib.Core.Bool.{Bool, cond, false, true, true≢false}
use mathlib.Core.List.{List, ◌∷◌, map}
use mathlib.Core.Logic.{◌⊎◌, inl, inr}
use mathlib.Core.Path.{◌∙◌, ◌≡◌, ap, refl, subst, sym}
use Prim.Native.Nat.{◌≤◌, ℕ}
use native.Mathlib.Omega.{arith}
use lib.Dec.{eqb, leb}
use lib.ListN.{length, length-map}
use borrow.Author.Tests.{le-leb, ne_eqb}
use Rattle.automata.specs.Automaton.{Fits, Transition, lookup, run, runs, states, step}
use Rattle.automata.specs.Canonical.{each_tree, transition_of}
use Rattle.automata.specs.Change.{add_new, collect, collects, subtree_automaton, subtree_number, subtree_transition}
use Rattle.lists.specs.Closure.{elem}
use Rattle.lists.specs.Tests.{◌∈◌, any}
use Rattle.trees.specs.Tree.{AllTrees, Forest, Tree, cons, eq_tree, nil, node}
use Rattle.automata.proofs.Steps.{Has, lookup-in, lookup-view}
use Rattle.lists.proofs.Closure.{elem_in}
use Rattle.lists.proofs.Positions.{position_in, position-inj, position-length, position-none, position-pos}
use Rattle.lists.proofs.Tests.{in-every, in_map, map-in}
use Rattle.trees.proofs.Trees.{eq_tree-same, eq_tree-true, node-children}

-- a list of trees that holds the children of what it holds
abbrev pub Closed : List Tree → Type 0
Closed P = (a : ℕ) (f : Forest) → node a f ∈ P → AllTrees (λ t. t ∈ P) f

abbrev pub Within : List Tree → List Tree → Type 0
Within P Q = (t : Tree) → t ∈ P → t ∈ Q

all-within : (P Q : List Tree) → Within P Q → (f : Forest) → AllTrees (λ t. t ∈ P) f →
    AllTrees (λ t. t ∈ Q) f
all-within P Q h nil k = tt
all-within P Q h (cons t f) k = (h t k.0, all-within P Q h f k.1)

add-new : (t : Tree) (P : List Tree) → Within P (add_new t P) × (t ∈ add_new t P)
add-new t P = go (elem eq_tree t P) refl
  where
    go : (b : Bool) → elem eq_tree t P ≡ b → Within P (cond b P (t ∷ P)) × (t ∈ cond b P (t ∷ P))
    go true e = (λ u i. i, elem_in eq_tree eq_tree-true eq_tree-same t P e)
    go false e = (λ u i. inr i, inl refl)

add-closed : (a : ℕ) (f : Forest) (P : List Tree) → Closed P → AllTrees (λ t. t ∈ P) f →
    Closed (add_new (node a f) P)
add-closed a f P c h = go (elem eq_tree (node a f) P)
  where
    go : (b : Bool) → Closed (cond b P (node a f ∷ P))
    go true = c
    go false = new
      where
        new : Closed (node a f ∷ P)
        new b g (inl e) =
            subst (λ (x : Forest). AllTrees (λ t. t ∈ (node a f ∷ P)) x) (sym (node-children b a g f e))
            (all-within P (node a f ∷ P) (λ u i. inr i) f h)
        new b g (inr i) = all-within P (node a f ∷ P) (λ u i. inr i) g (c b g i)

mutual
  pub collected : (t : Tree) (P : List Tree) → Closed P →
      Closed (collect t P) × Within P (collect t P) × (t ∈ collect t P)
  collected (node a f) P c = go (collecteds f P c)
    where
      go : Closed (collects f P) × Within P (collects f P) × AllTrees (λ t. t ∈ collects f P) f →
          Closed (add_new (node a f) (collects f P)) × Within P (add_new (node a f) (collects f P)) ×
          (node a f ∈ add_new (node a f) (collects f P))
      go (k, w, h) = let n = add-new (node a f) (collects f P) in
          (add-closed a f (collects f P) k h, λ u i. n.0 u (w u i), n.1)

  collecteds : (f : Forest) (P : List Tree) → Closed P →
      Closed (collects f P) × Within P (collects f P) × AllTrees (λ t. t ∈ collects f P) f
  collecteds nil P c = (c, λ u i. i, tt)
  collecteds (cons t f) P c = go (collecteds f P c) (λ k. collected t (collects f P) k)
    where
      go : Closed (collects f P) × Within P (collects f P) × AllTrees (λ t. t ∈ collects f P) f →
          (Closed (collects f P) →
          Closed (collect t (collects f P)) × Within (collects f P) (collect t (collects f P)) ×
          (t ∈ collect t (collects f P))) →
          Closed (collect t (collects f P)) × Within P (collect t (collects f P)) ×
          ((t ∈ collect t (collects f P)) × AllTrees (λ t₁. t₁ ∈ collect t (collects f P)) f)
      go (k, w, h) ih = let n = ih k in (
        n.0,
        λ u i. n.1 u (w u i),
        (n.2, all-within (collects f P) (collect t (collects f P)) n.1 f h),
      )

module _ (P : List Tree) (c : Closed P) where
  pub numbered-subtree : (t : Tree) → 1 ≤ subtree_number P t → t ∈ P
  numbered-subtree t h = position_in eq_tree eq_tree-true eq_tree-same P t h

  pub subtree-numbered : (t : Tree) → t ∈ P → 1 ≤ subtree_number P t
  subtree-numbered t i = position-pos eq_tree eq_tree-true eq_tree-same P t i

  each-inj : (f g : Forest) → AllTrees (λ t. t ∈ P) f →
      each_tree (subtree_number P) f ≡ each_tree (subtree_number P) g → f ≡ g
  each-inj nil nil h e = refl
  each-inj nil (cons u g) h e = let z : ◌≡◌ {A = ℕ} 0 1 = cc in absurd (omega arith)
  each-inj (cons t f) nil h e = let z : ◌≡◌ {A = ℕ} 0 1 = cc in absurd (omega arith)
  each-inj (cons t f) (cons u g) h e =
      let p : subtree_number P t ≡ subtree_number P u = cc in
      let q : each_tree (subtree_number P) f ≡ each_tree (subtree_number P) g = cc in
      cc (position-inj eq_tree eq_tree-true eq_tree-same P t u h.0 p, each-inj f g h.1 q)

  each-pos : (f : Forest) → AllTrees (λ t. t ∈ P) f → any (eqb 0) (each_tree (subtree_number P) f) ≡ false
  each-pos nil h = refl
  each-pos (cons t f) h =
      rw (ne_eqb 0 (subtree_number P t) (λ e. omega (arith, subtree-numbered t h.0))) (each-pos f h.1)

  -- a transition of the automaton is that at the top of a subtree
  subtree-transition : (l : Transition) → l ∈ map (subtree_transition P) P →
      (b : ℕ) × (g : Forest) × (node b g ∈ P) × (l ≡ transition_of (subtree_number P) b g)
  subtree-transition l i = let (u, j, e) = map-in (subtree_transition P) P l i in go u j e
    where
      go : (u : Tree) → u ∈ P → l ≡ subtree_transition P u →
          (b : ℕ) × (g : Forest) × (node b g ∈ P) × (l ≡ transition_of (subtree_number P) b g)
      go (node b g) j e = (b, g, j, e)

  lookup-subtree : (a : ℕ) (f : Forest) →
      lookup a (each_tree (subtree_number P) f) (map (subtree_transition P) P) ≡ subtree_number P (node a f)
  lookup-subtree a f = go (lookup-view a (each_tree (subtree_number P) f) (map (subtree_transition P) P))
    where
      go : (lookup a (each_tree (subtree_number P) f) (map (subtree_transition P) P) ≡ 0) ⊎
          (Has (map (subtree_transition P) P) a (each_tree (subtree_number P) f)
          (lookup a (each_tree (subtree_number P) f) (map (subtree_transition P) P))) →
          lookup a (each_tree (subtree_number P) f) (map (subtree_transition P) P) ≡ subtree_number P (node a f)
      go (inl z) = z ∙ sym (position-none eq_tree eq_tree-true eq_tree-same P (node a f) missing)
        where
          missing : node a f ∈ P → ⊥
          missing i = clash
              (lookup-in (map (subtree_transition P) P) (transition_of (subtree_number P) a f)
              (in_map (subtree_transition P) P (node a f) i))
            where
              clash : (m : Transition) × (m ∈ map (subtree_transition P) P) × (m.label ≡ a) ×
                  (m.args ≡ each_tree (subtree_number P) f) ×
                  (lookup a (each_tree (subtree_number P) f) (map (subtree_transition P) P) ≡ m.out) → ⊥
              clash (m, j, p, q, e) = let (b, g, k, u) = subtree-transition m j in
                  omega (arith, z, e, ap (λ (l : Transition). l.out) u, subtree-numbered (node b g) k)
      go (inr (l, i, p, q, r)) = from (subtree-transition l i)
        where
          from : (b : ℕ) × (g : Forest) × (node b g ∈ P) × (l ≡ transition_of (subtree_number P) b g) →
              lookup a (each_tree (subtree_number P) f) (map (subtree_transition P) P) ≡ subtree_number P
              (node a f)
          from (b, g, k, u) =
              let x : b ≡ a = cc in
              let y : each_tree (subtree_number P) g ≡ each_tree (subtree_number P) f = cc in
              let w : g ≡ f = each-inj g f (c b g k) y in
              cc (r, u, x, w)

  step-subtree : (a : ℕ) (f : Forest) →
      cond (any (eqb 0) (each_tree (subtree_number P) f)) 0
      (lookup a (each_tree (subtree_number P) f) (map (subtree_transition P) P)) ≡ subtree_number P (node a f)
  step-subtree a f = go (any (eqb 0) (each_tree (subtree_number P) f)) refl
    where
      go : (b : Bool) → any (eqb 0) (each_tree (subtree_number P) f) ≡ b →
          cond b 0 (lookup a (each_tree (subtree_number P) f) (map (subtree_transition P) P)) ≡ subtree_number
          P (node a f)
      go true e = sym
          (position-none eq_tree eq_tree-true eq_tree-same P (node a f)
          (λ i. true≢false (sym e ∙ each-pos f (c a f i))))
      go false e = lookup-subtree a f

  mutual
    unfolding subtree_automaton

    pub run-subtree : (t : Tree) → run (subtree_automaton P) t ≡ subtree_number P t
    run-subtree (node a f) = go (runs-subtree f)
      where
        go : runs (subtree_automaton P) f ≡ each_tree (subtree_number P) f →
            step (subtree_automaton P) a (runs (subtree_automaton P) f) ≡ subtree_number P (node a f)
        go e = rw e (step-subtree a f)

    runs-subtree : (f : Forest) → runs (subtree_automaton P) f ≡ each_tree (subtree_number P) f
    runs-subtree nil = refl
    runs-subtree (cons t f) = cc (run-subtree t, runs-subtree f)

  pub subtree-fits : Fits (subtree_automaton P)
  unfolding subtree_automaton
  subtree-fits =
      in-every (λ l. leb l.out (states (subtree_automaton P))) (map (subtree_transition P) P) small
    where
      small : (l : Transition) → l ∈ map (subtree_transition P) P →
          leb l.out (states (subtree_automaton P)) ≡ true
      small l i = let (b, g, k, u) = subtree-transition l i in
          le-leb l.out (length (map (λ (t : Tree). true) P))
          (omega (
            arith,
            ap (λ (l : Transition). l.out) u,
            position-length eq_tree eq_tree-true eq_tree-same
                P (node b g),
            length-map P (λ (t : Tree). true),
          ))

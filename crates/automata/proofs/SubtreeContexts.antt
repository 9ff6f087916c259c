-- The distinct subtrees of a tree are the trees that some context puts into it, each once.
use mathlib.Core.Bool.{Bool, cond, false, true, true≢false}
use mathlib.Core.List.{List, [], ◌++◌, ◌∷◌}
use mathlib.Core.Logic.{◌⊎◌, inl, inr}
use mathlib.Core.Path.{◌∙◌, ◌≡◌, ap, refl, subst, sym}
use Prim.Native.Nat.{ℕ}
use Rattle.automata.specs.Change.{add_new, collect, collects, subtrees}
use Rattle.lists.specs.Closure.{elem}
use Rattle.lists.specs.Tests.{Distinct, Exactly, ◌∈◌}
use Rattle.trees.specs.Context.{Context, Frame, fill, plug}
use Rattle.trees.specs.Tree.{Forest, Tree, ◌⧺◌, cons, eq_tree, nil, node}
use Rattle.automata.proofs.Change.{own-subtree, subtrees-closed}
use Rattle.automata.proofs.Subtrees.{Closed}
use Rattle.lists.proofs.Closure.{in-elem}
use Rattle.trees.proofs.Trees.{all_here, eq_tree-same, eq_tree-true, plug-append}

-- some context puts u into t
abbrev Part : Tree → Tree → Type 0
Part u t = (c : Context) × (plug c u ≡ t)

-- some context puts u into a tree of the forest
abbrev PartOfOne : Tree → Forest → Type 0
PartOfOne u f = (b : Forest) × (s : Tree) × (g : Forest) × (f ≡ b ⧺ cons s g) × Part u s

part-node : (u : Tree) (a : ℕ) (f : Forest) → PartOfOne u f → Part u (node a f)
part-node u a f (b, s, g, e, (c, d)) =
    let r : Frame = record { label = a; before = b; after = g } in
    (c ++ (r ∷ []), plug-append c (r ∷ []) u ∙ ap (fill r) d ∙ ap (node a) (sym e))

part-later : (u t : Tree) (f : Forest) → PartOfOne u f → PartOfOne u (cons t f)
part-later u t f (b, s, g, e, p) = (cons t b, s, g, ap (cons t) e, p)

-- what is collected was there, or is a part
mutual
  collect-part : (t : Tree) (P : List Tree) (u : Tree) → u ∈ collect t P → (u ∈ P) ⊎ Part u t
  collect-part (node a f) P u i = go (λ j. collects-part f P u j) (elem eq_tree (node a f) (collects f P)) i
    where
      inner : (u ∈ P) ⊎ PartOfOne u f → (u ∈ P) ⊎ Part u (node a f)
      inner (inl j) = inl j
      inner (inr p) = inr (part-node u a f p)

      go : (u ∈ collects f P → (u ∈ P) ⊎ PartOfOne u f) → (b : Bool) →
          u ∈ cond b (collects f P) (node a f ∷ collects f P) → (u ∈ P) ⊎ Part u (node a f)
      go ih true j = inner (ih j)
      go ih false (inl e) = inr ([], e)
      go ih false (inr j) = inner (ih j)

  collects-part : (f : Forest) (P : List Tree) (u : Tree) → u ∈ collects f P → (u ∈ P) ⊎ PartOfOne u f
  collects-part nil P u i = inl i
  collects-part (cons t f) P u i = go (λ j. collects-part f P u j) (collect-part t (collects f P) u i)
    where
      later : (u ∈ P) ⊎ PartOfOne u f → (u ∈ P) ⊎ PartOfOne u (cons t f)
      later (inl j) = inl j
      later (inr p) = inr (part-later u t f p)

      go : (u ∈ collects f P → (u ∈ P) ⊎ PartOfOne u f) → (u ∈ collects f P) ⊎ Part u t →
          (u ∈ P) ⊎ PartOfOne u (cons t f)
      go ih (inl j) = later (ih j)
      go ih (inr p) = inr (nil, t, f, refl, p)

-- a list that holds the children of what it holds holds every part of it
part_in : (P : List Tree) → Closed P → (c : Context) (u : Tree) → plug c u ∈ P → u ∈ P
part_in P k [] u i = i
part_in P k (f ∷ c) u i =
    all_here (λ t. t ∈ P) f.before u f.after
    (k f.label (f.before ⧺ cons u f.after) (part_in P k c (fill f u) i))

add-distinct : (t : Tree) (P : List Tree) → Distinct P → Distinct (add_new t P)
add-distinct t P d = go (elem eq_tree t P) refl
  where
    go : (b : Bool) → elem eq_tree t P ≡ b → Distinct (cond b P (t ∷ P))
    go true e = d
    go false e = (λ i. true≢false (sym (in-elem eq_tree eq_tree-true eq_tree-same t P i) ∙ e), d)

mutual
  collect-distinct : (t : Tree) (P : List Tree) → Distinct P → Distinct (collect t P)
  collect-distinct (node a f) P d = add-distinct (node a f) (collects f P) (collects-distinct f P d)

  collects-distinct : (f : Forest) (P : List Tree) → Distinct P → Distinct (collects f P)
  collects-distinct nil P d = d
  collects-distinct (cons t f) P d = collect-distinct t (collects f P) (collects-distinct f P d)

-- 01: the distinct parts of a tree, none twice
pub subtrees-exact : (t : Tree) → Exactly (λ u. (c : Context) × (plug c u ≡ t)) (subtrees t)
subtrees-exact t = record {
  once = collect-distinct t [] tt;
  members = λ u. (λ i. from u (collect-part t [] u i), λ (c, e). to u c e);
}
  where
    from : (u : Tree) → (u ∈ []) ⊎ Part u t → Part u t
    from u (inl j) = absurd j
    from u (inr p) = p

    to : (u : Tree) (c : Context) → plug c u ≡ t → u ∈ subtrees t
    to u c e =
        part_in (subtrees t) (subtrees-closed t) c u
        (subst (λ (s : Tree). s ∈ subtrees t) (sym e) (own-subtree t))

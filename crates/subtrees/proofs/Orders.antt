-- The order in which a pass from the last node finds the subtrees: a node that takes its children off the trees
-- after it comes last, unless it was found before. So the whole tree has the last number.
use mathlib.Core.Bool.{Bool, cond, false, false≢true, true}
use mathlib.Core.List.{List, [], ◌++◌, ◌∷◌, reverse, reverse-cons}
use mathlib.Core.Logic.{◌⊎◌, inl, inr}
use mathlib.Core.Path.{◌∙◌, ◌≡◌, ap, refl, sym}
use Prim.Native.Nat.{◌+◌, ◌-◌, ◌≤◌, ℕ}
use native.Mathlib.Omega.{arith}
use lib.ListN.{length, length-append}
use lib.Seq.{get_or_at}
use Rattle.automata.specs.Change.{add_new, collect, collects}
use Rattle.lists.specs.Closure.{elem}
use Rattle.lists.specs.Tests.{◌∈◌}
use Rattle.subtrees.specs.Steps.{add_last}
use Rattle.subtrees.specs.Store.{bottom_up, tree_numbered}
use Rattle.trees.specs.Listing.{first_trees, later_trees}
use Rattle.trees.specs.Tree.{Forest, Tree, ◌⧺◌, cons, depth, depths, eq_tree, nil, no_tree, node}
use Rattle.lists.proofs.Closure.{elem_in, in-elem}
use Rattle.lists.proofs.Tests.{append-in, in_append_left, in_append_right}
use Rattle.trees.proofs.Forests.{first-later}
use Rattle.trees.proofs.Trees.{eq_tree-same, eq_tree-true}

-- the distinct subtrees of a list of trees, in the order in which a pass from the last node finds them
abbrev pub found_in : Forest → List Tree
found_in f = reverse (collects f [])

collects-append : (f g : Forest) (P : List Tree) → collects (f ⧺ g) P ≡ collects f (collects g P)
collects-append nil g P = refl
collects-append (cons t f) g P = ap (collect t) (collects-append f g P)

pub in-reverse : {A : Type 0} (xs : List A) (x : A) → x ∈ xs → x ∈ reverse xs
in-reverse {A = A} [] x m = elim m [ ]
in-reverse (y ∷ xs) x m = rw (reverse-cons y xs) (go m (λ i. in-reverse xs x i))
  where
    go : x ∈ (y ∷ xs) → (x ∈ xs → x ∈ reverse xs) → x ∈ (reverse xs ++ (y ∷ []))
    go (inl e) ih = in_append_right (reverse xs) (y ∷ []) x (inl e)
    go (inr i) ih = in_append_left (reverse xs) (y ∷ []) x (ih i)

pub reverse-in : {A : Type 0} (xs : List A) (x : A) → x ∈ reverse xs → x ∈ xs
reverse-in [] x m = m
reverse-in (y ∷ xs) x m =
    go (append-in (reverse xs) (y ∷ []) x (rw (reverse-cons y xs) at m)) (λ i. reverse-in xs x i)
  where
    go : (x ∈ reverse xs) ⊎ (x ∈ (y ∷ [])) → (x ∈ reverse xs → x ∈ xs) → x ∈ (y ∷ xs)
    go (inl i) ih = inr (ih i)
    go (inr (inl e)) ih = inl e
    go (inr (inr i)) ih = absurd i

-- the test finds a tree if it is in the list
pub elem-true : (ts : List Tree) (t : Tree) → t ∈ ts → elem eq_tree t ts ≡ true
elem-true ts t m = in-elem eq_tree eq_tree-true eq_tree-same t ts m

pub elem-false : (ts : List Tree) (t : Tree) → (t ∈ ts → ⊥) → elem eq_tree t ts ≡ false
elem-false ts t h = go (elem eq_tree t ts) refl
  where
    go : (b : Bool) → elem eq_tree t ts ≡ b → elem eq_tree t ts ≡ false
    go true e = absurd (h (elem_in eq_tree eq_tree-true eq_tree-same t ts e))
    go false e = e

pub last-old : (ts : List Tree) (t : Tree) → t ∈ ts → add_last ts t ≡ ts
last-old ts t m = rw (elem-true ts t m)

pub last-new : (ts : List Tree) (t : Tree) → (t ∈ ts → ⊥) → add_last ts t ≡ ts ++ (t ∷ [])
last-new ts t h = rw (elem-false ts t h)

elem-reverse : (P : List Tree) (t : Tree) → elem eq_tree t (reverse P) ≡ elem eq_tree t P
elem-reverse P t = go (elem eq_tree t P) refl
  where
    go : (b : Bool) → elem eq_tree t P ≡ b → elem eq_tree t (reverse P) ≡ elem eq_tree t P
    go true e = elem-true (reverse P) t (in-reverse P t (elem_in eq_tree eq_tree-true eq_tree-same t P e)) ∙ sym e
    go false e =
        elem-false (reverse P) t (λ m. false≢true (sym e ∙ elem-true P t (reverse-in P t m))) ∙ sym e

reverse-new : (P : List Tree) (t : Tree) → reverse (add_new t P) ≡ add_last (reverse P) t
reverse-new P t = go (elem eq_tree t P) refl
  where
    go : (b : Bool) → elem eq_tree t P ≡ b → reverse (add_new t P) ≡ add_last (reverse P) t
    go true e = rw (e, elem-reverse P t, e)
    go false e = rw (e, elem-reverse P t, e) (reverse-cons t P)

-- one node more
pub found-node : (a c : ℕ) (f : Forest) →
    found_in (cons (node a (first_trees c f)) (later_trees c f)) ≡ add_last (found_in f) (node a (first_trees c f))
found-node a c f =
    ap (λ P. reverse (add_new (node a (first_trees c f)) P))
    (sym (collects-append (first_trees c f) (later_trees c f) []) ∙ ap (λ g. collects g []) (first-later c f)) ∙
    reverse-new (collects f []) (node a (first_trees c f))

-- ---- the tree itself comes last

-- no subtree found is deeper than the trees it was found in
mutual
  collect-depth : (t : Tree) (P : List Tree) (n : ℕ) → depth t ≤ n → ((u : Tree) → u ∈ P → depth u ≤ n) →
      (u : Tree) → u ∈ collect t P → depth u ≤ n
  collect-depth (node a f) P n b h u m =
      go (λ i. collects-depth f P n (omega arith) h u i) (elem eq_tree (node a f) (collects f P)) m
    where
      go : (u ∈ collects f P → depth u ≤ n) → (d : Bool) → u ∈ cond d (collects f P) (node a f ∷ collects f P) →
          depth u ≤ n
      go ih true i = ih i
      go ih false (inl e) = omega (arith, ap depth e)
      go ih false (inr i) = ih i

  collects-depth : (f : Forest) (P : List Tree) (n : ℕ) → depths f ≤ n → ((u : Tree) → u ∈ P → depth u ≤ n) →
      (u : Tree) → u ∈ collects f P → depth u ≤ n
  collects-depth nil P n b h u m = h u m
  collects-depth (cons t f) P n b h u m =
      collect-depth t (collects f P) n (omega arith) (λ v i. collects-depth f P n (omega arith) h v i) u m

tree-last : (a : ℕ) (f : Forest) → bottom_up (node a f) ≡ found_in f ++ (node a f ∷ [])
tree-last a f =
    reverse-new (collects f []) (node a f) ∙
    last-new (found_in f) (node a f) (λ m.
    let i = reverse-in (collects f []) (node a f) m in
    omega (arith, collects-depth f [] (depths f) (omega arith) (λ u j. absurd j) (node a f) i))

-- so the tree itself has the last number
pub last-number : (t : Tree) {n : ℕ} → length (bottom_up t) ≡ n → (1 ≤ n) × (tree_numbered (bottom_up t) n ≡ t)
last-number (node a f) {n} e = (omega (arith, size), at)
  where
    size : n ≡ length (found_in f) + 1
    size = sym e ∙ ap length (tree-last a f) ∙ length-append (found_in f) (node a f ∷ [])

    at : tree_numbered (bottom_up (node a f)) n ≡ node a f
    at =
        ap (λ ts. tree_numbered ts n) (tree-last a f) ∙
        get_or_at (found_in f) (node a f) [] no_tree (n - 1) (omega (arith, size))

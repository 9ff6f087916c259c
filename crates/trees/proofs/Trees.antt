-- Laws of equality, of forests and of contexts.
use mathlib.Core.Bool.{false≢true, true}
use mathlib.Core.List.{[], ◌++◌, ◌∷◌}
use mathlib.Core.Path.{◌≡◌, refl}
use Prim.Native.Nat.{◌+◌, ◌≤◌, ℕ}
use native.Mathlib.Omega.{arith}
use lib.Dec.{eqb}
use lib.ListN.{length}
use borrow.Author.Tests.{eq-eqb, eqb-true}
use Rattle.trees.specs.Context.{Context, fill, plug}
use Rattle.trees.specs.Tree.{AllTrees, Forest, Tree, ◌⧺◌, cons, depth, depths, eq_forest, eq_tree, nil, node}
use Rattle.lists.proofs.Tests.{and_both, and_left, and_right}

mutual
  pub eq_tree-true : (t u : Tree) → eq_tree t u ≡ true → t ≡ u
  eq_tree-true (node a f) (node b g) e =
      cc (
        eqb-true a b (and_left (eqb a b) (eq_forest f g) e),
        eq_forest-true f g
            (and_right (eqb a b) (eq_forest f g) e),
      )

  pub eq_forest-true : (f g : Forest) → eq_forest f g ≡ true → f ≡ g
  eq_forest-true nil nil e = refl
  eq_forest-true nil (cons u g) e = absurd (false≢true e)
  eq_forest-true (cons t f) nil e = absurd (false≢true e)
  eq_forest-true (cons t f) (cons u g) e =
      cc (
        eq_tree-true t u (and_left (eq_tree t u) (eq_forest f g) e),
        eq_forest-true f g
            (and_right (eq_tree t u) (eq_forest f g) e),
      )

mutual
  pub eq_tree-same : (t : Tree) → eq_tree t t ≡ true
  eq_tree-same (node a f) = and_both (eq-eqb a a refl) (eq_forest-same f)

  eq_forest-same : (f : Forest) → eq_forest f f ≡ true
  eq_forest-same nil = refl
  eq_forest-same (cons t f) = and_both (eq_tree-same t) (eq_forest-same f)

pub snoc-append : (b : Forest) (t : Tree) (f : Forest) → (b ⧺ cons t nil) ⧺ f ≡ b ⧺ cons t f
snoc-append nil t f = refl
snoc-append (cons u b) t f = rw (snoc-append b t f)

-- the parts of a node and of a forest
pub node-label : (a b : ℕ) (f g : Forest) → node a f ≡ node b g → a ≡ b
node-label a b f g e = cc

pub node-children : (a b : ℕ) (f g : Forest) → node a f ≡ node b g → f ≡ g
node-children a b f g e = cc

pub cons-tree : (t u : Tree) (f g : Forest) → cons t f ≡ cons u g → t ≡ u
cons-tree t u f g e = cc

pub cons-forest : (t u : Tree) (f g : Forest) → cons t f ≡ cons u g → f ≡ g
cons-forest t u f g e = cc

-- one tree of the forest
pub all_here : (P : Tree → Type 0) (b : Forest) (t : Tree) (f : Forest) → AllTrees P (b ⧺ cons t f) → P t
all_here P nil t f h = h.0
all_here P (cons u b) t f h = all_here P b t f h.1

-- a context in another
pub plug-append : (c d : Context) (t : Tree) → plug (c ++ d) t ≡ plug d (plug c t)
plug-append [] d t = refl
plug-append (f ∷ c) d t = plug-append c d (fill f t)

-- a tree is no deeper than what it stands in
pub depths-here : (b : Forest) (t : Tree) (c : Forest) → depth t ≤ depths (b ⧺ cons t c)
depths-here nil t c = omega arith
depths-here (cons u b) t c = omega (arith, depths-here b t c)

pub depth-plug : (c : Context) (t : Tree) → depth t + length c ≤ depth (plug c t)
depth-plug [] t = omega arith
depth-plug (f ∷ c) t = omega (arith, depth-plug c (fill f t), depths-here f.before t f.after)

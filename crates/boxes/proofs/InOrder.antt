-- A tree is in order exactly if ordering leaves it as it is, and the ordered form is the only tree in order that swaps make
-- of a tree.
use mathlib.Core.Bool.{true}
use mathlib.Core.Logic.{◌↔◌}
use mathlib.Core.Path.{◌∙◌, ◌≡◌, ap, refl, subst, sym}
use Prim.Native.Nat.{ℕ}
use Rattle.boxes.specs.Boxes.{AllInOrder, InOrder, Rising, Swaps, arranged, by_listing, is_box, ordered, ordered_each}
use Rattle.trees.specs.Tree.{AllTrees, Forest, Tree, cons, nil, node}
use Rattle.boxes.proofs.Arranged.{arranged-all, arranged-holds, box-ordered}
use Rattle.boxes.proofs.ByListing.{by-listing-rises, rising_stays}
use Rattle.boxes.proofs.Swaps.{ordered-twice, swaps-same}
use Rattle.trees.proofs.Trees.{node-children}

-- ---- ordering leaves a tree that is in order

arranged-rising : (a : ℕ) (f : Forest) → (is_box a ≡ true → Rising f) → arranged a f ≡ f
arranged-rising a f r = arranged-holds (λ g. g ≡ f) a f (λ e. rising_stays f (r e)) (λ e. refl)

mutual
  in-order-fixed : (t : Tree) → InOrder t → ordered t ≡ t
  in-order-fixed (node a f) h =
      ap (λ (g : Forest). node a (arranged a g)) (all-in-order-fixed f h.1)
      ∙ ap (node a) (arranged-rising a f h.0)

  all-in-order-fixed : (f : Forest) → AllInOrder f → ordered_each f ≡ f
  all-in-order-fixed nil h = refl
  all-in-order-fixed (cons t f) h = cc (in-order-fixed t h.0, all-in-order-fixed f h.1)

-- ---- what ordering leaves is in order

-- ordering leaves the tree
Fixed : Tree → Type 0
Fixed t = ordered t ≡ t

each-fixed : (f : Forest) → AllTrees Fixed (ordered_each f)
unfolding Fixed
each-fixed nil = tt
each-fixed (cons t f) = (ordered-twice t, each-fixed f)

-- the children of a node that ordering leaves
children-rise : (a : ℕ) (f : Forest) → Fixed (node a f) → is_box a ≡ true → Rising f
unfolding Fixed
children-rise a f e b =
    subst Rising (node-children a a (by_listing (ordered_each f)) f (sym (box-ordered a f b) ∙ e))
    (by-listing-rises (ordered_each f))

children-fixed : (a : ℕ) (f : Forest) → Fixed (node a f) → AllTrees Fixed f
unfolding Fixed
children-fixed a f e =
    subst (AllTrees Fixed) (node-children a a (arranged a (ordered_each f)) f e)
    (arranged-all Fixed a (ordered_each f) (each-fixed f))

mutual
  fixed-in-order : (t : Tree) → Fixed t → InOrder t
  fixed-in-order (node a f) e = (children-rise a f e, all-fixed-in-order f (children-fixed a f e))

  all-fixed-in-order : (f : Forest) → AllTrees Fixed f → AllInOrder f
  all-fixed-in-order nil h = tt
  all-fixed-in-order (cons t f) h = (fixed-in-order t h.0, all-fixed-in-order f h.1)

-- ---- the laws

-- a tree is in order exactly if ordering leaves it
pub in-order-iff : (t : Tree) → InOrder t ↔ (ordered t ≡ t)
unfolding Fixed
in-order-iff t = (in-order-fixed t, fixed-in-order t)

-- ordering brings a tree in order
pub ordered-in-order : (t : Tree) → InOrder (ordered t)
unfolding Fixed
ordered-in-order t = fixed-in-order (ordered t) (ordered-twice t)

-- of the trees that swaps make of a tree, the ordered form is the only one in order
pub in-order-unique : (t u : Tree) → Swaps t u → InOrder u → u ≡ ordered t
in-order-unique t u s h = sym (in-order-fixed u h) ∙ sym (swaps-same s)

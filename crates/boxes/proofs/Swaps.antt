-- Trees have the same ordered form exactly if swaps under boxes make one of the other.
use mathlib.Core.Bool.{Bool, cond, false, true}
use mathlib.Core.List.{[], ◌++◌, ◌∷◌}
use mathlib.Core.Logic.{◌↔◌}
use mathlib.Core.Path.{◌∙◌, ◌≡◌, ap, refl, subst, subst₂, sym}
use Prim.Native.Nat.{ℕ}
use Rattle.boxes.specs.Boxes.{Swaps, arranged, back, by_listing, chain, exchange, insert_by_listing, is_box}
use Rattle.boxes.specs.Boxes.{listing_not_after, ordered, ordered_each, same}
use Rattle.trees.specs.Context.{Context, fill, plug}
use Rattle.trees.specs.Tree.{Forest, Tree, ◌⧺◌, cons, nil, node}
use Rattle.boxes.proofs.Arranged.{arranged-holds, box-ordered}
use Rattle.boxes.proofs.ByListing.{by-listing-exchange}
use Rattle.trees.proofs.Trees.{plug-append, snoc-append}

-- ---- swaps keep the ordered form

each_append : (f g : Forest) → ordered_each (f ⧺ g) ≡ ordered_each f ⧺ ordered_each g
each_append nil g = refl
each_append (cons t f) g = ap (cons (ordered t)) (each_append f g)

-- trees with the same ordered form have it in every context
pub plug-ordered : (c : Context) (t u : Tree) → ordered t ≡ ordered u → ordered (plug c t) ≡ ordered (plug c u)
plug-ordered [] t u e = e
plug-ordered (f ∷ c) t u e =
    plug-ordered c (fill f t) (fill f u)
    (ap (λ (g : Forest). node f.label (arranged f.label g))
    (each_append f.before (cons t f.after)
    ∙ ap (λ (v : Tree). ordered_each f.before ⧺ cons v (ordered_each f.after)) e
    ∙ sym (each_append f.before (cons u f.after))))

exchange-ordered : (a : ℕ) (b : Forest) (t u : Tree) (f : Forest) → is_box a ≡ true →
    ordered (node a (b ⧺ cons t (cons u f))) ≡ ordered (node a (b ⧺ cons u (cons t f)))
exchange-ordered a b t u f e =
    box-ordered a (b ⧺ cons t (cons u f)) e
    ∙ ap (λ (g : Forest). node a (by_listing g)) (each_append b (cons t (cons u f)))
    ∙ ap (node a) (by-listing-exchange (ordered_each b) (ordered t) (ordered u) (ordered_each f))
    ∙ ap (λ (g : Forest). node a (by_listing g)) (sym (each_append b (cons u (cons t f))))
    ∙ sym (box-ordered a (b ⧺ cons u (cons t f)) e)

pub swaps-same : {t u : Tree} → Swaps t u → ordered t ≡ ordered u
swaps-same (same t) = refl
swaps-same (back s) = sym (swaps-same s)
swaps-same (chain s r) = swaps-same s ∙ swaps-same r
swaps-same (exchange c a b t u f e) =
    plug-ordered c (node a (b ⧺ cons t (cons u f))) (node a (b ⧺ cons u (cons t f))) (exchange-ordered a b t u f e)

-- ---- a tree is made its ordered form by swaps

-- swaps in a context
pub plug-swaps : (d : Context) {t u : Tree} → Swaps t u → Swaps (plug d t) (plug d u)
plug-swaps d (same t) = same (plug d t)
plug-swaps d (back s) = back (plug-swaps d s)
plug-swaps d (chain s r) = chain (plug-swaps d s) (plug-swaps d r)
plug-swaps d (exchange c a b t u f e) =
    subst₂ Swaps (plug-append c d (node a (b ⧺ cons t (cons u f)))) (plug-append c d (node a (b ⧺ cons u (cons t f))))
    (exchange (c ++ d) a b t u f e)

-- swaps in a child
pub child-swaps : (a : ℕ) (b : Forest) (t u : Tree) (f : Forest) → Swaps t u →
    Swaps (node a (b ⧺ cons t f)) (node a (b ⧺ cons u f))
child-swaps a b t u f s = plug-swaps (record { label = a; before = b; after = f } ∷ []) s

insert-swaps : (a : ℕ) → is_box a ≡ true → (f : Forest) (b : Forest) (t : Tree) →
    Swaps (node a (b ⧺ cons t f)) (node a (b ⧺ insert_by_listing t f))
insert-swaps a e nil b t = same (node a (b ⧺ cons t nil))
insert-swaps a e (cons u f) b t = go (insert-swaps a e f (b ⧺ cons u nil) t) (listing_not_after t u)
  where
    go : Swaps (node a ((b ⧺ cons u nil) ⧺ cons t f)) (node a ((b ⧺ cons u nil) ⧺ insert_by_listing t f)) →
        (r : Bool) →
        Swaps (node a (b ⧺ cons t (cons u f))) (node a (b ⧺ cond r (cons t (cons u f)) (cons u (insert_by_listing t f))))
    go ih true = same (node a (b ⧺ cons t (cons u f)))
    go ih false =
        chain (exchange [] a b t u f e)
        (subst₂ (λ (g h : Forest). Swaps (node a g) (node a h)) (snoc-append b u (cons t f))
        (snoc-append b u (insert_by_listing t f)) ih)

by-listing-swaps : (a : ℕ) → is_box a ≡ true → (f : Forest) (b : Forest) →
    Swaps (node a (b ⧺ f)) (node a (b ⧺ by_listing f))
by-listing-swaps a e nil b = same (node a (b ⧺ nil))
by-listing-swaps a e (cons t f) b =
    chain (subst₂ (λ (g h : Forest). Swaps (node a g) (node a h)) (snoc-append b t f) (snoc-append b t (by_listing f))
    (by-listing-swaps a e f (b ⧺ cons t nil))) (insert-swaps a e (by_listing f) b t)

arranged-swaps : (a : ℕ) (f : Forest) → Swaps (node a f) (node a (arranged a f))
arranged-swaps a f =
    arranged-holds (λ g. Swaps (node a f) (node a g)) a f (λ e. by-listing-swaps a e f nil) (λ e. same (node a f))

mutual
  pub ordered-swaps : (t : Tree) → Swaps t (ordered t)
  ordered-swaps (node a f) = chain (each-swaps f a nil) (arranged-swaps a (ordered_each f))

  each-swaps : (f : Forest) (a : ℕ) (b : Forest) → Swaps (node a (b ⧺ f)) (node a (b ⧺ ordered_each f))
  each-swaps nil a b = same (node a (b ⧺ nil))
  each-swaps (cons t f) a b =
      chain (child-swaps a b t (ordered t) f (ordered-swaps t))
      (subst₂ (λ (g h : Forest). Swaps (node a g) (node a h)) (snoc-append b (ordered t) f)
      (snoc-append b (ordered t) (ordered_each f)) (each-swaps f a (b ⧺ cons (ordered t) nil)))

-- ---- the laws

-- two trees have the same ordered form exactly if they differ only by swaps under boxes
pub swaps-iff : (t u : Tree) → (ordered t ≡ ordered u) ↔ Swaps t u
swaps-iff t u = (to, swaps-same)
  where
    to : ordered t ≡ ordered u → Swaps t u
    to e = chain (ordered-swaps t) (subst (λ (v : Tree). Swaps v u) (sym e) (back (ordered-swaps u)))

-- ordering twice changes nothing
pub ordered-twice : (t : Tree) → ordered (ordered t) ≡ ordered t
ordered-twice t = sym (swaps-same (ordered-swaps t))

-- Lists of trees by state: the choices of children for a transition, the nodes over them, and how many these are.
use mathlib.Core.Bool.{Bool, cond, false, true}
use mathlib.Core.List.{List, [], ◌++◌, ◌∷◌, map}
use mathlib.Core.Logic.{◌⊎◌, inl, inr}
use mathlib.Core.Path.{◌∙◌, ◌≡◌, ap, refl, subst, sym}
use Prim.Native.Nat.{◌*◌, ℕ}
use native.Mathlib.Nat.{suc-mul, zero-mul}
use native.Mathlib.Omega.{arith}
use lib.Dec.{eqb}
use lib.ListN.{length, length-append, length-map}
use borrow.Author.Tests.{eq-eqb, eqb-true}
use Rattle.automata.specs.Automaton.{Transition}
use Rattle.automata.specs.Product.{concat_map}
use Rattle.automata.specs.Totals.{product_over, sum_into}
use Rattle.lists.specs.Tests.{Distinct, ◌∈◌}
use Rattle.trees.specs.Tree.{Forest, Tree, cons, nil, node}
use Rattle.automata.proofs.Nodes.{concat_map-in, in-concat_map}
use Rattle.lists.proofs.Distinct.{append-distinct, map-distinct}
use Rattle.lists.proofs.Tests.{append-in, in_append_left, in_append_right, in_map, length-if, map-in}
use Rattle.trees.proofs.Trees.{cons-forest, cons-tree}

module _ {A B : Type 0} where
  -- lists of one length, one after another
  pub concat_map-length : (f : A → List B) (n : ℕ) (xs : List A) → ((x : A) → length (f x) ≡ n) →
      length (concat_map f xs) ≡ length xs * n
  concat_map-length f n [] h = sym (zero-mul n)
  concat_map-length f n (x ∷ xs) h =
      omega (arith, length-append (f x) (concat_map f xs), h x, concat_map-length f n xs h, suc-mul (length xs) n)

  -- lists without repeats that share nothing, one after another
  pub concat_map-distinct : (f : A → List B) (xs : List A) → Distinct xs → ((x : A) → x ∈ xs → Distinct (f x)) →
      ((x y : A) (z : B) → z ∈ f x → z ∈ f y → x ≡ y) → Distinct (concat_map f xs)
  concat_map-distinct f [] d e h = tt
  concat_map-distinct f (x ∷ xs) d e h =
      append-distinct (f x) (concat_map f xs) (e x (inl refl)) (concat_map-distinct f xs d.1 (λ y i. e y (inr i)) h)
      (λ z i j. let (y, k, l) = concat_map-in f xs z j in d.0 (subst (λ (w : A). w ∈ xs) (sym (h x y z i l)) k))

module _ (T : ℕ → List Tree) where
  -- the lists of trees that have a tree of each state
  unfoldable pub choices : List ℕ → List Forest
  choices [] = nil ∷ []
  choices (q ∷ qs) = concat_map (λ t. map (cons t) (choices qs)) (T q)

  -- the trees with this transition at the top
  unfoldable pub nodes_over : Transition → List Tree
  nodes_over τ = map (node τ.label) (choices τ.args)

  -- the trees with a transition into q at the top
  unfoldable pub nodes_into : ℕ → List Transition → List Tree
  nodes_into q [] = []
  nodes_into q (τ ∷ τs) = cond (eqb τ.out q) (nodes_over τ) [] ++ nodes_into q τs

  -- a tree of each state
  abbrev pub Chosen : Forest → List ℕ → Type 0
  Chosen nil [] = Unit {0}
  Chosen nil (q ∷ qs) = ⊥
  Chosen (cons t f) [] = ⊥
  Chosen (cons t f) (q ∷ qs) = (t ∈ T q) × Chosen f qs

  pub choices-length : (qs : List ℕ) → length (choices qs) ≡ product_over (λ q. length (T q)) qs
  unfolding choices
  choices-length [] = refl
  choices-length (q ∷ qs) =
      concat_map-length (λ t. map (cons t) (choices qs)) (length (choices qs)) (T q)
      (λ t. length-map (choices qs) (cons t)) ∙ ap (λ (n : ℕ). length (T q) * n) (choices-length qs)

  pub nodes_over-length : (τ : Transition) → length (nodes_over τ) ≡ product_over (λ q. length (T q)) τ.args
  unfolding nodes_over
  nodes_over-length τ = length-map (choices τ.args) (node τ.label) ∙ choices-length τ.args

  pub nodes_into-length : (q : ℕ) (τs : List Transition) →
      length (nodes_into q τs) ≡ sum_into (λ q. length (T q)) q τs
  unfolding nodes_into
  nodes_into-length q [] = refl
  nodes_into-length q (τ ∷ τs) =
      length-append (cond (eqb τ.out q) (nodes_over τ) []) (nodes_into q τs)
      ∙ cc (
        length-if (eqb τ.out q) (nodes_over τ) (product_over (λ q. length (T q)) τ.args) (nodes_over-length τ),
        nodes_into-length q τs,
      )

  pub choices-in : (qs : List ℕ) (f : Forest) → f ∈ choices qs → Chosen f qs
  unfolding choices
  choices-in [] f (inl e) = rw e tt
  choices-in [] f (inr i) = absurd i
  choices-in (q ∷ qs) f i =
      go (λ g. choices-in qs g) (concat_map-in (λ t. map (cons t) (choices qs)) (T q) f i)
    where
      go : ((g : Forest) → g ∈ choices qs → Chosen g qs) →
          (t : Tree) × (t ∈ T q) × (f ∈ map (cons t) (choices qs)) → Chosen f (q ∷ qs)
      go ih (t, j, n) = let (g, k, e) = map-in (cons t) (choices qs) f n in rw e (j, ih g k)

  pub in-choices : (f : Forest) (qs : List ℕ) → Chosen f qs → f ∈ choices qs
  unfolding choices
  in-choices nil [] h = inl refl
  in-choices nil (q ∷ qs) h = absurd h
  in-choices (cons t f) [] h = absurd h
  in-choices (cons t f) (q ∷ qs) h =
      in-concat_map (λ t. map (cons t) (choices qs)) (T q) t (cons t f) h.0
      (in_map (cons t) (choices qs) f (in-choices f qs h.1))

  pub choices-distinct : (qs : List ℕ) → ((q : ℕ) → q ∈ qs → Distinct (T q)) → Distinct (choices qs)
  unfolding choices
  choices-distinct [] h = (λ i. i, tt)
  choices-distinct (q ∷ qs) h =
      concat_map-distinct (λ t. map (cons t) (choices qs)) (T q) (h q (inl refl))
      (λ t i. map-distinct (cons t) (choices qs) (λ f g k l. cons-forest t t f g)
      (choices-distinct qs (λ p i. h p (inr i))))
      apart
    where
      apart : (t u : Tree) (f : Forest) → f ∈ map (cons t) (choices qs) → f ∈ map (cons u) (choices qs) → t ≡ u
      apart t u f i j =
          let (g, k, d) = map-in (cons t) (choices qs) f i in
          let (h, l, e) = map-in (cons u) (choices qs) f j in cons-tree t u g h (sym d ∙ e)

  pub nodes_into-in : (q : ℕ) (τs : List Transition) (t : Tree) → t ∈ nodes_into q τs →
      (τ : Transition) × (τ ∈ τs) × (τ.out ≡ q) × (t ∈ nodes_over τ)
  unfolding nodes_into
  nodes_into-in q [] t i = elim i [ ]
  nodes_into-in q (τ ∷ τs) t i =
      go (λ j. nodes_into-in q τs t j) (eqb τ.out q) refl
      (append-in (cond (eqb τ.out q) (nodes_over τ) []) (nodes_into q τs) t i)
    where
      go : (t ∈ nodes_into q τs → (σ : Transition) × (σ ∈ τs) × (σ.out ≡ q) × (t ∈ nodes_over σ)) → (b : Bool) →
          eqb τ.out q ≡ b → (t ∈ cond b (nodes_over τ) []) ⊎ (t ∈ nodes_into q τs) →
          (σ : Transition) × (σ ∈ (τ ∷ τs)) × (σ.out ≡ q) × (t ∈ nodes_over σ)
      go ih true e (inl j) = (τ, inl refl, eqb-true τ.out q e, j)
      go ih false e (inl j) = absurd j
      go ih b e (inr j) = let (σ, k, o, n) = ih j in (σ, inr k, o, n)

  pub in-nodes_into : (q : ℕ) (τs : List Transition) (t : Tree) (τ : Transition) → τ ∈ τs → τ.out ≡ q →
      t ∈ nodes_over τ → t ∈ nodes_into q τs
  unfolding nodes_into
  in-nodes_into q [] t τ x3 o j = elim x3 [ ]
  in-nodes_into q (σ ∷ τs) t τ (inl e) o j =
      in_append_left (cond (eqb σ.out q) (nodes_over σ) []) (nodes_into q τs) t
      (rw (eq-eqb σ.out q (ap (λ (υ : Transition). υ.out) (sym e) ∙ o))
      (subst (λ (υ : Transition). t ∈ nodes_over υ) e j))
  in-nodes_into q (σ ∷ τs) t τ (inr i) o j =
      in_append_right (cond (eqb σ.out q) (nodes_over σ) []) (nodes_into q τs) t (in-nodes_into q τs t τ i o j)

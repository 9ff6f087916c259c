-- Trees to come as states and numbers in two lists, and the children of a node put there one at a time.
use mathlib.Core.List.{List, ◌∷◌, map}
use mathlib.Core.Path.{◌∙◌, ◌≡◌, ap, ap₂, refl, sym}
use Prim.Native.Nat.{◌%◌, ◌*◌, ◌+◌, ◌-◌, ◌/◌, ◌<◌, ◌≤◌, suc, zero, ℕ}
use native.Mathlib.Decide.{ℕ_discrete}
use native.Mathlib.Nat.{mod-le, sub-zero}
use native.Mathlib.Omega.{arith}
use lib.ListN.{get_or, length, length-set, set}
use lib.Seq.{get_or-set_other, get_or-set_same}
use Rattle.std.specs.declared.option.Option.{Option}
use Rattle.automata.specs.Ranks.{children_of}
use Rattle.automata.specs.Totals.{product_over}
use Rattle.format.specs.Format.{max_nodes}
use Rattle.lists.specs.Positions.{up_from}
use Rattle.lists.proofs.Loops.{up_from-next, up_from-none}
use Rattle.lists.proofs.Radix.{digit-first, digit-second, factor-second}
use Rattle.table.specs.Layout.{arg_of, arity_of, transition_at}
use Rattle.totals.specs.Limited.{limit, total_of, worth}
use Rattle.trees.specs.Tree.{Forest, Tree, ◌⧺◌, cons, count, nil}
use Rattle.trees.proofs.Trees.{snoc-append}
use Rattle.ranks.specs.Steps.{ChildrenPut, trees_from}
use Rattle.ranks.proofs.Worth.{divided-number, remainder-number, some-worth}
use Rattle.trees.proofs.Forests.{append-none}

-- ---- trees to come

module _ (T : ℕ → ℕ → Tree) where
  pub from-same : (qs ks qs' ks' : List ℕ) (m i : ℕ) →
      ((j : ℕ) → i ≤ j → j < i + m → get_or qs' j 0 ≡ get_or qs j 0) →
      ((j : ℕ) → i ≤ j → j < i + m → get_or ks' j 0 ≡ get_or ks j 0) → trees_from T qs' ks' i m ≡ trees_from T qs ks i m
  from-same qs ks qs' ks' zero i h g = refl
  from-same qs ks qs' ks' (suc m) i h g =
      ap₂ cons (ap₂ T (h i (omega arith) (omega arith)) (g i (omega arith) (omega arith)))
      (from-same qs ks qs' ks' m (suc i) (λ j a b. h j (omega arith) (omega arith))
      (λ j a b. g j (omega arith) (omega arith)))

  module _ (qs ks : List ℕ) where
    pub from-split : (m n i : ℕ) → trees_from T qs ks i (m + n) ≡ trees_from T qs ks i m ⧺ trees_from T qs ks (i + m) n
    from-split zero n i =
        let z : 0 + n ≡ n = omega arith in
        let e : i + 0 ≡ i = omega arith in
        ap (trees_from T qs ks i) z ∙ ap (λ (j : ℕ). trees_from T qs ks j n) (sym e)
    from-split (suc m) n i =
        let z : suc m + n ≡ suc (m + n) = omega arith in
        let e : suc i + m ≡ i + suc m = omega arith in
        ap (trees_from T qs ks i) z
        ∙ ap (cons (T (get_or qs i 0) (get_or ks i 0))) (from-split m n (suc i)
        ∙ ap (λ (j : ℕ). trees_from T qs ks (suc i) m ⧺ trees_from T qs ks j n) e)

    pub from_last : (m i : ℕ) → trees_from T qs ks i (m + 1) ≡
        trees_from T qs ks i m ⧺ cons (T (get_or qs (i + m) 0) (get_or ks (i + m) 0)) nil
    from_last m i = from-split m 1 i

    pub from-count : (m i : ℕ) → count (trees_from T qs ks i m) ≡ m
    from-count zero i = refl
    from-count (suc m) i = ap suc (from-count m (suc i))

-- ---- the children of a node

-- the arguments from place k on of the transition that starts at a byte
abbrev pub later_args : List ℕ → ℕ → ℕ → List ℕ
later_args s at k = map (arg_of s at) (up_from k (arity_of s at - k))

-- the first k children are put, and those over the other arguments have the number l together
pub record PutTo (w : ℕ → ℕ) (s : List ℕ) (at n top : ℕ) (qs₀ ks₀ qs ks : List ℕ) (l k : ℕ) : Type 0 where
  pub within : k ≤ arity_of s at
  pub states-size : length qs ≡ max_nodes
  pub numbers-size : length ks ≡ max_nodes
  pub fits : l < limit
  pub left : l < product_over w (later_args s at k)
  pub children : (T : ℕ → ℕ → Tree) →
      children_of T w (transition_at s at).args n ≡ trees_from T qs ks top k ⧺ children_of T w (later_args s at k) l
  pub states : (j : ℕ) → j < k → get_or qs (top + j) 0 ≡ arg_of s at j
  pub below : (j : ℕ) → j < k → get_or ks (top + j) 0 < w (get_or qs (top + j) 0)
  pub later-states : (j : ℕ) → top + k ≤ j → get_or qs j 0 ≡ get_or qs₀ j 0
  pub later-numbers : (j : ℕ) → top + k ≤ j → get_or ks j 0 ≡ get_or ks₀ j 0

module _ {w : ℕ → ℕ} {s : List ℕ} {at n top : ℕ} {qs₀ ks₀ : List ℕ} where
  pub put-start : length qs₀ ≡ max_nodes → length ks₀ ≡ max_nodes → n < limit →
      n < product_over w (transition_at s at).args → PutTo w s at n top qs₀ ks₀ qs₀ ks₀ n 0
  put-start a b f h =
      let z = sub-zero (arity_of s at) in
      record {
        within = omega arith;
        states-size = a;
        numbers-size = b;
        fits = f;
        left = rw z h;
        children = λ T. rw z;
        states = λ j i. absurd (omega arith);
        below = λ j i. absurd (omega arith);
        later-states = λ j i. refl;
        later-numbers = λ j i. refl;
      }

  module _ {qs ks : List ℕ} {l k : ℕ} (x : PutTo w s at n top qs₀ ks₀ qs ks l k) where
    pub put-end : arity_of s at ≤ k → ChildrenPut w s at n top qs₀ ks₀ qs ks
    put-end h =
        let e : k ≡ arity_of s at = omega (arith, x.within) in
        record {
          states-size = x.states-size;
          numbers-size = x.numbers-size;
          children = λ T.
              x.children T
              ∙ ap (λ (is : List ℕ). trees_from T qs ks top k ⧺ children_of T w (map (arg_of s at) is) l)
              (up_from-none k (arity_of s at) h)
              ∙ append-none (trees_from T qs ks top k) ∙ ap (trees_from T qs ks top) e;
          states = λ j i. x.states j (omega arith);
          below = λ j i. x.below j (omega arith);
          later-states = λ j i. x.later-states j (omega arith);
          later-numbers = λ j i. x.later-numbers j (omega arith);
        }

    module _ (more : k < arity_of s at) {end : ℕ} (all : end ≡ arity_of s at) {weight : Option ℕ}
        (weighs : weight ≡ total_of (product_over w (map (arg_of s at) (up_from (k + 1) (end - (k + 1)))))) where
      abbrev rest : ℕ
      rest = product_over w (later_args s at (k + 1))

      e : weight ≡ total_of rest
      e = weighs ∙ ap (λ (n : ℕ). total_of (product_over w (map (arg_of s at) (up_from (k + 1) (n - (k + 1)))))) all

      next : later_args s at k ≡ arg_of s at k ∷ later_args s at (k + 1)
      next = ap (map (arg_of s at)) (up_from-next k (arity_of s at) more)

      digits : l < w (arg_of s at k) * rest
      digits = omega (arith, x.left, ap (product_over w) next)

      pub weight-some : 1 ≤ worth weight
      weight-some =
          let h : 1 ≤ w (arg_of s at k) * rest = omega (arith, digits) in
          some-worth l rest x.fits e (factor-second (w (arg_of s at k)) rest h)

      module _ (room : top + arity_of s at ≤ max_nodes) {q d r : ℕ} (a : q ≡ arg_of s at k) (f : d ≡ l / worth weight)
          (g : r ≡ l % worth weight) where
        abbrev qs' : List ℕ
        qs' = set qs (top + k) q

        abbrev ks' : List ℕ
        ks' = set ks (top + k) d

        divided : d ≡ l / rest
        divided = f ∙ divided-number l rest x.fits e

        rested : r ≡ l % rest
        rested = g ∙ remainder-number l rest x.fits e

        state-here : get_or qs' (top + k) 0 ≡ q
        state-here = get_or-set_same qs (top + k) q 0 (omega (arith, x.states-size))

        number-here : get_or ks' (top + k) 0 ≡ d
        number-here = get_or-set_same ks (top + k) d 0 (omega (arith, x.numbers-size))

        state-there : (j : ℕ) → (j ≡ top + k → ⊥) → get_or qs' j 0 ≡ get_or qs j 0
        state-there j h = get_or-set_other qs (top + k) j q 0 h

        number-there : (j : ℕ) → (j ≡ top + k → ⊥) → get_or ks' j 0 ≡ get_or ks j 0
        number-there j h = get_or-set_other ks (top + k) j d 0 h

        states-next : (j : ℕ) → j < k + 1 → Dec (j ≡ k) → get_or qs' (top + j) 0 ≡ arg_of s at j
        states-next j h (yes z) = rw z (state-here ∙ a)
        states-next j h (no z) = state-there (top + j) (λ y. z (omega arith)) ∙ x.states j (omega arith)

        below_next : (j : ℕ) → j < k + 1 → Dec (j ≡ k) → get_or ks' (top + j) 0 < w (get_or qs' (top + j) 0)
        below_next j h (yes z) =
            rw (z, number-here, state-here, a, divided) (digit-first l (w (arg_of s at k)) rest digits)
        below_next j h (no z) =
            rw (state-there (top + j) (λ y. z (omega arith)), number-there (top + j) (λ y. z (omega arith)))
            (x.below j (omega arith))

        children-next : (T : ℕ → ℕ → Tree) → children_of T w (transition_at s at).args n ≡
            trees_from T qs' ks' top (k + 1) ⧺ children_of T w (later_args s at (k + 1)) r
        children-next T =
            x.children T
            ∙ ap (λ (ps : List ℕ). trees_from T qs ks top k ⧺ children_of T w ps l) next
            ∙ sym (snoc-append (trees_from T qs ks top k) (T (arg_of s at k) (l / rest))
            (children_of T w (later_args s at (k + 1)) (l % rest)))
            ∙ ap₂ (λ (f : Forest) (m : ℕ). f ⧺ children_of T w (later_args s at (k + 1)) m) (sym longer) (sym rested)
          where
            longer : trees_from T qs' ks' top (k + 1) ≡
                trees_from T qs ks top k ⧺ cons (T (arg_of s at k) (l / rest)) nil
            longer =
                from_last T qs' ks' k top
                ∙ ap₂ (λ (f : Forest) (t : Tree). f ⧺ cons t nil)
                (from-same T qs ks qs' ks' k top (λ j i h. state-there j (λ y. omega arith))
                (λ j i h. number-there j (λ y. omega arith)))
                (ap₂ T (state-here ∙ a) (number-here ∙ divided))

        pub put_next : PutTo w s at n top qs₀ ks₀ qs' ks' r (k + 1)
        put_next = record {
          within = omega arith;
          states-size = length-set qs (top + k) q ∙ x.states-size;
          numbers-size = length-set ks (top + k) d ∙ x.numbers-size;
          fits = omega (arith, rested, mod-le l rest, x.fits);
          left = rw rested (digit-second l (w (arg_of s at k)) rest digits);
          children = children-next;
          states = λ j h. states-next j h (ℕ_discrete j k);
          below = λ j h. below_next j h (ℕ_discrete j k);
          later-states = λ j h. state-there j (λ y. omega arith) ∙ x.later-states j (omega arith);
          later-numbers = λ j h. number-there j (λ y. omega arith) ∙ x.later-numbers j (omega arith);
        }

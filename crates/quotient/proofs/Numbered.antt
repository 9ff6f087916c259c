-- The subtrees by index: their own names, their children's, and the tests that code makes.
use mathlib.Core.Bool.{Bool, ◌&&◌, false, not, true}
use mathlib.Core.List.{List, [], ◌∷◌, map}
use mathlib.Core.Path.{◌∙◌, ◌≡◌, ap, ap₂, refl, subst, sym}
use Prim.Native.Nat.{◌+◌, ◌-◌, ◌<◌, ◌≤◌, suc, zero, ℕ}
use native.Mathlib.Nat.{zero-add}
use native.Mathlib.Omega.{arith}
use lib.Dec.{eqb, ltb}
use lib.ListN.{get_or-eq_default, get_or, length, length-map}
use borrow.Author.Tests.{eq-eqb, lt-ltb, ltb-false, ltb-true, ne_eqb}
use Rattle.automata.specs.Automaton.{Automaton, run, states}
use Rattle.automata.specs.Change.{subtree_number}
use Rattle.automata.specs.Quotient.{all_own, children_own, is_gone, is_new, own_name, own_names, own_transition}
use Rattle.format.specs.Format.{byte_values, max_arity, max_nodes}
use Rattle.lists.specs.Positions.{up_from}
use Rattle.lists.specs.Tests.{every}
use Rattle.packed.specs.Packed.{packed, padded}
use Rattle.subtrees.specs.Store.{Stored, child_at, child_numbers, trees_numbered}
use Rattle.trees.specs.Tree.{Tree, eq_tree, no_tree, node}
use Rattle.lists.proofs.Intervals.{get_d-in, get_d_map, get_d-tabulated, length-tabulated, tabulated}
use Rattle.lists.proofs.Positions.{position_at, position-pos}
use Rattle.lists.proofs.Tests.{every-mapped}
use Rattle.packed.proofs.Digits.{digits_same}
use Rattle.packed.proofs.Order.{Packable}
use Rattle.subtrees.proofs.Entering.{stored-among}
use Rattle.subtrees.proofs.Numbers.{Among, distinct-index}
use Rattle.trees.proofs.Trees.{eq_tree-same, eq_tree-true}
use Rattle.quotient.specs.Nodes.{Nodes, children_own_at, gone_at, key_of, new_at, place_digit}

module _ {A : Automaton} {ts : List Tree} {m : ℕ} {l r c q : List ℕ} (st : Stored A ts m l r c q)
    {n : ℕ} (size : n ≡ states A) where
  abbrev pub tree_at : ℕ → Tree
  tree_at j = get_or ts j no_tree

  pub all-trees : ts ≡ map tree_at (up_from 0 m)
  all-trees = sym (tabulated tree_at 0 m no_tree ts st.size (λ i h. ap tree_at (zero-add i)))

  pub number_of : (j : ℕ) → j < m → subtree_number ts (tree_at j) ≡ suc j
  number_of j h = go (subtree_number ts (tree_at j)) refl
    where
      go : (x : ℕ) → subtree_number ts (tree_at j) ≡ x → x ≡ suc j
      go zero e =
          let i = get_d-in ts j no_tree (omega (arith, st.size)) in
          absurd (omega (arith, e, position-pos eq_tree eq_tree-true eq_tree-same ts (tree_at j) i))
      go (suc x) e =
          let (a, b) = position_at eq_tree eq_tree-true eq_tree-same ts (tree_at j) no_tree x e in
          ap suc (distinct-index ts st.distinct x j a (omega (arith, st.size)) b)

  pub own_of : (j : ℕ) → j < m → own_name A ts (tree_at j) ≡ n + suc j
  own_of j h = omega (arith, number_of j h, size)

  -- ---- children

  pub among : (j : ℕ) → j < m → Among m (child_numbers r c j)
  among j h = subst (λ (k : ℕ). Among k (child_numbers r c j)) st.size (stored-among st j h)

  -- the own names of the children of the subtree at index j
  abbrev pub child_names : ℕ → List ℕ
  child_names j = map (λ x. n + x) (child_numbers r c j)

  own-number : (x : ℕ) → 1 ≤ x → x ≤ m → own_name A ts (tree_at (x - 1)) ≡ n + x
  own-number x h k = omega (arith, own_of (x - 1) (omega arith))

  own-numbered : (ns : List ℕ) → Among m ns → own_names A ts (trees_numbered ts ns) ≡ map (λ x. n + x) ns
  own-numbered [] w = refl
  own-numbered (x ∷ ns) w =
      ap₂ (λ (y : ℕ) (ys : List ℕ). y ∷ ys) (own-number x w.0.0 w.0.1) (own-numbered ns w.1)

  pub own-children : (j : ℕ) → j < m → own_names A ts (trees_numbered ts (child_numbers r c j)) ≡ child_names j
  own-children j h = own-numbered (child_numbers r c j) (among j h)

  module _ (ν : Tree → ℕ) (v : List ℕ) (named : (j : ℕ) → j < m → get_or v j 0 ≡ ν (tree_at j)) where
    all-numbered : (ns : List ℕ) → Among m ns →
        all_own A ts ν (trees_numbered ts ns) ≡ every (λ x. eqb (get_or v (x - 1) 0) (n + x)) ns
    all-numbered [] w = refl
    all-numbered (x ∷ ns) w =
        ap₂ (λ (a b : Bool). a && b)
        (ap₂ eqb (sym (named (x - 1) (omega (arith, w.0)))) (own-number x w.0.0 w.0.1))
        (all-numbered ns w.1)

    pub children-own : (j : ℕ) → j < m → children_own_at n r c v j ≡ children_own A ts ν (tree_at j)
    children-own j h =
        sym (ap (children_own A ts ν) (st.tree j h) ∙ all-numbered (child_numbers r c j) (among j h)
        ∙ every-mapped (λ x. eqb (get_or v (x - 1) 0) (n + x)) (child_at c j) (up_from 0 (get_or r j 0)))

    pub new-same : (j : ℕ) → j < m → new_at n r c q v j ≡ is_new A ts ν (tree_at j)
    new-same j h =
        ap (λ (x : ℕ). eqb x 0 && not (eqb (get_or v j 0) 0) && children_own_at n r c v j) (st.state j h)
        ∙ ap (λ (x : ℕ). eqb (run A (tree_at j)) 0 && not (eqb x 0) && children_own_at n r c v j) (named j h)
        ∙ ap (λ (b : Bool). eqb (run A (tree_at j)) 0 && not (eqb (ν (tree_at j)) 0) && b) (children-own j h)

    pub gone_same : (j : ℕ) → j < m → gone_at n r c q v j ≡ is_gone A ts ν (tree_at j)
    gone_same j h =
        ap (λ (x : ℕ). not (eqb x 0) && eqb (get_or v j 0) 0 && children_own_at n r c v j) (st.state j h)
        ∙ ap (λ (x : ℕ). not (eqb (run A (tree_at j)) 0) && eqb x 0 && children_own_at n r c v j) (named j h)
        ∙ ap (λ (b : Bool). not (eqb (run A (tree_at j)) 0) && eqb (ν (tree_at j)) 0 && b) (children-own j h)

    pub own-transition : (j : ℕ) → j < m →
        own_transition A ts ν (tree_at j) ≡ record { label = get_or l j 0; args = child_names j; out = get_or v j 0 }
    own-transition j h =
        ap (own_transition A ts ν) (st.tree j h)
        ∙ ap (λ (xs : List ℕ). record {
          label = get_or l j 0;
          args = xs;
          out = ν (node (get_or l j 0) (trees_numbered ts
              (child_numbers r c j)));
        }) (own-children j h)
        ∙ ap (λ (x : ℕ). record { label = get_or l j 0; args = child_names j; out = x })
        (sym (named j h ∙ ap ν (st.tree j h)))

  -- ---- numbers of nodes

  pub names-length : (j : ℕ) → length (child_names j) ≡ get_or r j 0
  names-length j = length-map (child_numbers r c j) (λ x. n + x) ∙ length-tabulated (child_at c j) 0 (get_or r j 0)

  name-at : (j k : ℕ) → k < get_or r j 0 → get_or (child_names j) k 0 ≡ n + child_at c j k
  name-at j k h =
      get_d_map (λ x. n + x) (child_numbers r c j) k 0 0 (omega (arith, length-tabulated (child_at c j) 0 (get_or r j 0)))
      ∙ ap (λ (x : ℕ). n + x) (get_d-tabulated (child_at c j) 0 (get_or r j 0) k 0 h ∙ ap (child_at c j) (zero-add k))

  pub key-names : (j : ℕ) → j < m → key_of n c j ≡ packed (child_names j)
  unfolding key_of packed
  key-names j h = digits_same (place_digit n c j) (padded (child_names j)) 0 max_arity 0 (λ k a b. go k (ltb k (get_or r j 0)) refl b)
    where
      go : (k : ℕ) (b : Bool) → ltb k (get_or r j 0) ≡ b → k < 0 + max_arity →
          place_digit n c j k ≡ padded (child_names j) k
      go k true e b =
          let i = ltb-true k (get_or r j 0) e in
          let s = st.child-some j k h i in
          rw (ne_eqb (child_at c j k) 0 (λ z. omega arith)) (sym (name-at j k i))
      go k false e b =
          let i = ltb-false k (get_or r j 0) e in
          rw (eq-eqb (child_at c j k) 0 (st.child-beyond j k h i (omega arith)))
          (sym (get_or-eq_default (child_names j) 0 (omega (arith, names-length j))))

  pub names-packable : n + m < byte_values → (j : ℕ) → j < m → Packable (child_names j)
  names-packable b j h = record {
    short = omega (arith, names-length j, st.narrow j h);
    some = λ k i.
        omega (arith, name-at j k (omega (arith, names-length j)), st.child-some j k h (omega (arith, names-length j)));
    bytes = λ k. go k (ltb k (get_or r j 0)) refl;
  }
    where
      go : (k : ℕ) (t : Bool) → ltb k (get_or r j 0) ≡ t → get_or (child_names j) k 0 < byte_values
      go k true e =
          let i = ltb-true k (get_or r j 0) e in omega (arith, name-at j k i, st.child-before j k h i)
      go k false e =
          let i = ltb-false k (get_or r j 0) e in
          let z : get_or (child_names j) k 0 ≡ 0 =
          get_or-eq_default (child_names j) 0 (omega (arith, names-length j)) in
          omega arith

  -- own names are above the states
  pub names-own : (j : ℕ) → j < m → every (ltb n) (child_names j) ≡ true
  names-own j h = above (child_numbers r c j) (among j h)
    where
      above : (ns : List ℕ) → Among m ns → every (ltb n) (map (λ x. n + x) ns) ≡ true
      above [] w = refl
      above (x ∷ ns) w = rw (lt-ltb n (n + x) (omega (arith, w.0))) (above ns w.1)

  pub nodes : m ≤ max_nodes → Nodes m l r c
  nodes few = record {
    few = few;
    label = λ j h. st.label j h;
    narrow = λ j h. st.narrow j h;
    some = λ j k h i. st.child-some j k h i;
    known = λ j k h i. known j k h i (ltb k (get_or r j 0)) refl;
  }
    where
      known : (j k : ℕ) → j < m → k < max_arity → (b : Bool) → ltb k (get_or r j 0) ≡ b → child_at c j k ≤ max_nodes
      known j k h i true e = omega (arith, st.child-before j k h (ltb-true k (get_or r j 0) e))
      known j k h i false e = omega (arith, st.child-beyond j k h (ltb-false k (get_or r j 0) e) i)

-- The subtree that the code finds for a choice of names is that of the definition.
use mathlib.Core.Bool.{Bool, ◌&&◌, cond, false, true}
use mathlib.Core.List.{List, map}
use mathlib.Core.Path.{◌∙◌, ◌≡◌, ap, refl, subst, sym}
use Prim.Native.Nat.{◌*◌, ◌+◌, ◌<◌, ◌≤◌, suc, zero, ℕ}
use native.Mathlib.Omega.{arith}
use lib.Dec.{eqb, ltb}
use lib.ListN.{get_or, length}
use borrow.Author.Tests.{eq-eqb, eqb-true}
use Rattle.automata.specs.Automaton.{Automaton, states}
use Rattle.automata.specs.Quotient.{is_node_of, node_name}
use Rattle.format.specs.Format.{byte_pairs, byte_values, max_label}
use Rattle.lists.specs.Positions.{up_from}
use Rattle.lists.specs.Tests.{every, same_list}
use Rattle.packed.specs.Packed.{packed}
use Rattle.subtrees.specs.Store.{Stored}
use Rattle.trees.specs.Tree.{Tree}
use Rattle.lists.proofs.Tests.{and_both, and_left, and_right, same_list-refl, same_list-true}
use Rattle.packed.proofs.Order.{Packable, packed-injective}
use Rattle.quotient.specs.Making.{out_over}
use Rattle.quotient.specs.Nodes.{EachNode, is_node_at, key_of, meta_of, named_by}
use Rattle.quotient.proofs.Numbered.{all-trees, child_names, key-names, names-length, names-own, names-packable}
use Rattle.quotient.proofs.Numbered.{own-children, tree_at}

-- two tests that pass together
same_tests : (b d : Bool) → (b ≡ true → d ≡ true) → (d ≡ true → b ≡ true) → b ≡ d
same_tests true true f g = refl
same_tests true false f g = sym (f refl)
same_tests false true f g = g refl
same_tests false false f g = refl

module _ {A : Automaton} {ts : List Tree} {m : ℕ} {l r c q : List ℕ} (st : Stored A ts m l r c q)
    {n : ℕ} (size : n ≡ states A) (few : n + m < byte_values) {metas keys : List ℕ}
    (M : EachNode (meta_of l r) m metas) (K : EachNode (key_of n c) m keys) where
  node-of : (a : ℕ) (xs : List ℕ) (j : ℕ) → j < m →
      is_node_of A ts a xs (tree_at st size j) ≡ (eqb a (get_or l j 0) && same_list xs (child_names st size j))
  node-of a xs j h =
      ap (is_node_of A ts a xs) (st.tree j h)
      ∙ ap (λ (ys : List ℕ). eqb a (get_or l j 0) && same_list xs ys) (own-children st size j h)

  node-same : (a : ℕ) (xs : List ℕ) → a ≤ max_label → Packable xs → (j : ℕ) → j < m →
      is_node_at metas keys (byte_pairs * length xs + a) (packed xs) j ≡ is_node_of A ts a xs (tree_at st size j)
  node-same a xs b p j h = same_tests _ _ there back ∙ sym (node-of a xs j h)
    where
      meta-is : get_or metas j 0 ≡ byte_pairs * get_or r j 0 + get_or l j 0
      meta-is = M.each j h

      key-is : get_or keys j 0 ≡ packed (child_names st size j)
      key-is = K.each j h ∙ key-names st size j h

      there : is_node_at metas keys (byte_pairs * length xs + a) (packed xs) j ≡ true →
          (eqb a (get_or l j 0) && same_list xs (child_names st size j)) ≡ true
      there e =
          let d = eqb-true (get_or metas j 0) (byte_pairs * length xs + a) (and_left _ _ e) in
          let f = eqb-true (get_or keys j 0) (packed xs)
          (and_right (eqb (get_or metas j 0) (byte_pairs * length xs + a)) _ e) in
          let g = packed-injective xs (child_names st size j) p (names-packable st size few j h) (sym f ∙ key-is) in
          and_both (eq-eqb a (get_or l j 0) (omega (arith, d, meta-is, b, st.label j h)))
          (subst (λ (ys : List ℕ). same_list xs ys ≡ true) g (same_list-refl xs))

      back : (eqb a (get_or l j 0) && same_list xs (child_names st size j)) ≡ true →
          is_node_at metas keys (byte_pairs * length xs + a) (packed xs) j ≡ true
      back e =
          let d = eqb-true a (get_or l j 0) (and_left _ _ e) in
          let g = same_list-true xs (child_names st size j) (and_right (eqb a (get_or l j 0)) _ e) in
          let k : length xs ≡ get_or r j 0 = ap length g ∙ names-length st size j in
          and_both (eq-eqb (get_or metas j 0) (byte_pairs * length xs + a) (omega (arith, d, meta-is, k)))
          (eq-eqb (get_or keys j 0) (packed xs) (key-is ∙ ap packed (sym g)))

  module _ (ν : Tree → ℕ) (v : List ℕ) (named : (j : ℕ) → j < m → get_or v j 0 ≡ ν (tree_at st size j))
      (a : ℕ) (xs : List ℕ) (b : a ≤ max_label) (p : Packable xs) (o : ℕ) where
    named-same : (d k : ℕ) → k + d ≤ m →
        named_by metas keys v (byte_pairs * length xs + a) (packed xs) o (up_from k d) ≡
        node_name A ts ν a xs o (map (tree_at st size) (up_from k d))
    named-same zero k h = refl
    named-same (suc d) k h =
        ap (λ (x : ℕ). cond (is_node_at metas keys (byte_pairs * length xs + a) (packed xs) k) (get_or v k 0) x)
        (named-same d (suc k) (omega arith))
        ∙ ap (λ (x : ℕ). cond (is_node_at metas keys (byte_pairs * length xs + a) (packed xs) k) x (node_name A ts ν a xs o
        (map (tree_at st size) (up_from (suc k) d)))) (named k (omega arith))
        ∙ ap (λ (t : Bool). cond t (ν (tree_at st size k)) (node_name A ts ν a xs o
        (map (tree_at st size) (up_from (suc k) d)))) (node-same a xs b p k (omega arith))

    not-node : every (ltb n) xs ≡ false → (j : ℕ) → j < m → is_node_of A ts a xs (tree_at st size j) ≡ false
    not-node e j h = go (is_node_of A ts a xs (tree_at st size j)) refl
      where
        go : (t : Bool) → is_node_of A ts a xs (tree_at st size j) ≡ t → t ≡ false
        go false d = refl
        go true d =
            let f = sym (node-of a xs j h) ∙ d in
            let g = same_list-true xs (child_names st size j) (and_right (eqb a (get_or l j 0)) _ f) in
            sym (names-own st size j h) ∙ ap (every (ltb n)) (sym g) ∙ e

    named_none : every (ltb n) xs ≡ false → (d k : ℕ) → k + d ≤ m →
        o ≡ node_name A ts ν a xs o (map (tree_at st size) (up_from k d))
    named_none e zero k h = refl
    named_none e (suc d) k h =
        named_none e d (suc k) (omega arith)
        ∙ sym (ap (λ (t : Bool). cond t (ν (tree_at st size k)) (node_name A ts ν a xs o
        (map (tree_at st size) (up_from (suc k) d)))) (not-node e k (omega arith)))

    -- the output over a choice of names
    pub out-link : out_over metas keys v m (every (ltb n) xs) (byte_pairs * length xs + a) (packed xs) o ≡
        node_name A ts ν a xs o ts
    out-link = go (every (ltb n) xs) refl ∙ ap (node_name A ts ν a xs o) (sym (all-trees st size))
      where
        go : (t : Bool) → every (ltb n) xs ≡ t →
            out_over metas keys v m t (byte_pairs * length xs + a) (packed xs) o ≡
            node_name A ts ν a xs o (map (tree_at st size) (up_from 0 m))
        go true e = named-same m 0 (omega arith)
        go false e = named_none e m 0 (omega arith)

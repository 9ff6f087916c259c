-- A node compared with the stored trees. It equals one of them if and only if label and child numbers agree. If it
-- equals none, the arrays get it after them.
use mathlib.Core.Bool.{false, false≢true, true}
use mathlib.Core.List.{List, [], ◌++◌, ◌∷◌}
use mathlib.Core.Logic.{inl, inr}
use mathlib.Core.Path.{◌∙◌, ◌≡◌, ap, subst, sym}
use Prim.Native.Nat.{◌*◌, ◌+◌, ◌-◌, ◌<◌, ◌≤◌, ℕ}
use native.Mathlib.Nat.{zero-add}
use native.Mathlib.Omega.{arith}
use lib.Dec.{eqb}
use lib.ListN.{get_or-append, get_or, length, length-append, length-set, set, take}
use lib.Seq.{get_or_at, get_or-set_other, get_or-set_same, get_or-take, length-take-le}
use borrow.Author.Count.{below_more}
use borrow.Author.Tests.{eq-eqb, eqb-true}
use Rattle.automata.specs.Automaton.{Automaton, run}
use Rattle.format.specs.Format.{max_arity, max_label, max_nodes}
use Rattle.lists.specs.Positions.{up_from}
use Rattle.lists.specs.Tests.{◌∈◌, every}
use Rattle.subtrees.specs.Steps.{Children, ChildrenStored, Entered, Sized, add_last, same_child}
use Rattle.subtrees.specs.Steps.{same_node}
use Rattle.subtrees.specs.Store.{Stored, child_at, child_numbers, tree_numbered, trees_numbered}
use Rattle.trees.specs.Tree.{Tree, no_tree, node}
use Rattle.lists.proofs.Distinct.{append-distinct}
use Rattle.lists.proofs.Intervals.{at_every, every-at, get_d-in, get_d-tabulated, in-get_d, length-tabulated}
use Rattle.lists.proofs.Intervals.{tabulated}
use Rattle.lists.proofs.Tests.{and_both, and_left, and_right}
use Rattle.subtrees.proofs.Numbers.{Among, index-among, numbered-append, numbered-inj}
use Rattle.subtrees.proofs.Orders.{last-new, last-old}
use Rattle.trees.proofs.Trees.{node-children, node-label}

-- stores keep the lengths
pub sized_new : {l r c q : List ℕ} → Sized l r c q → (n a k v : ℕ) {ns c' : List ℕ} → ChildrenStored c n ns c' →
    Sized (set l n a) (set r n k) c' (set q n v)
sized_new {l} {r} {c} {q} sz n a k v cs = record {
  labels = length-set l n a ∙ sz.labels;
  arities = length-set r n k ∙ sz.arities;
  children = cs.size ∙ sz.children;
  states = length-set q n v ∙ sz.states;
}

-- the numbers that a node with k children brings
module _ {ns : List ℕ} {k n : ℕ} (ch : Children ns k n) (eight : length ns ≡ max_arity) where
  children-length : length (take k ns) ≡ k
  children-length = length-take-le k ns (omega (arith, ch.narrow))

  pub children-among : Among n (take k ns)
  children-among =
      index-among n (take k ns)
      (λ i h. let b : i < k = omega (arith, children-length) in rw (get_or-take k ns i 0 b) (ch.some i b))
      (λ i h. let b : i < k = omega (arith, children-length) in rw (get_or-take k ns i 0 b) (ch.known i b))

  -- the child numbers of index j are those of the node
  children-same : (r c : List ℕ) (j : ℕ) → get_or r j 0 ≡ k → ((i : ℕ) → i < k → child_at c j i ≡ get_or ns i 0) →
      child_numbers r c j ≡ take k ns
  children-same r c j e h =
      rw e
      (tabulated (child_at c j) 0 k 0 (take k ns) children-length
      (λ i b. ap (child_at c j) (zero-add i) ∙ h i b ∙ sym (get_or-take k ns i 0 b)))

  children-back : (r c : List ℕ) (j : ℕ) → child_numbers r c j ≡ take k ns →
      (get_or r j 0 ≡ k) × ((i : ℕ) → i < k → child_at c j i ≡ get_or ns i 0)
  children-back r c j e = (size, at)
    where
      size : get_or r j 0 ≡ k
      size = sym (length-tabulated (child_at c j) 0 (get_or r j 0)) ∙ ap length e ∙ children-length

      at : (i : ℕ) → i < k → child_at c j i ≡ get_or ns i 0
      at i h =
          ap (child_at c j) (sym (zero-add i)) ∙
          sym (get_d-tabulated (child_at c j) 0 (get_or r j 0) i 0 (omega (arith, size))) ∙
          ap (λ xs. get_or xs i 0) e ∙ get_or-take k ns i 0 h

-- arrays that hold the list with the tree appended
entered : (A : Automaton) (ts us : List Tree) (t : Tree) (n i : ℕ) (l r c q : List ℕ) → add_last ts t ≡ us →
    Stored A us n l r c q → tree_numbered us i ≡ t → Entered A ts t n i l r c q
entered A ts us t n i l r c q e st h = record {
  stored = subst (λ (xs : List Tree). Stored A xs n l r c q) (sym e) st;
  numbered = ap (λ xs. tree_numbered xs i) e ∙ h;
}

module _ {A : Automaton} {ts : List Tree} {n : ℕ} {l r c q : List ℕ} (st : Stored A ts n l r c q) where
  -- a stored tree's children have lower numbers
  pub stored-among : (j : ℕ) → j < n → Among (length ts) (child_numbers r c j)
  stored-among j h =
      index-among (length ts) (child_numbers r c j) (λ i b. rw (at i b) (st.child-some j i h (below i b)))
      (λ i b. rw (at i b) (omega (arith, st.child-before j i h (below i b), st.size)))
    where
      below : (i : ℕ) → i < length (child_numbers r c j) → i < get_or r j 0
      below i b = omega (arith, length-tabulated (child_at c j) 0 (get_or r j 0))

      at : (i : ℕ) → i < length (child_numbers r c j) → get_or (child_numbers r c j) i 0 ≡ child_at c j i
      at i b = get_d-tabulated (child_at c j) 0 (get_or r j 0) i 0 (below i b) ∙ ap (child_at c j) (zero-add i)

  module _ (a : ℕ) {ns : List ℕ} {k : ℕ} (ch : Children ns k n) (eight : length ns ≡ max_arity) where
    -- the node itself
    abbrev entrant : Tree
    entrant = node a (trees_numbered ts (take k ns))

    known_among : Among (length ts) (take k ns)
    known_among = subst (λ (m : ℕ). Among m (take k ns)) (sym st.size) (children-among ch eight)

    pub same-tree : (j : ℕ) → j < n → same_node l r c a k ns j ≡ true → get_or ts j no_tree ≡ entrant
    same-tree j h e =
        let p = eqb-true (get_or l j 0) a (and_left _ _ e) in
        let d = and_right (eqb (get_or l j 0) a) _ e in
        let s = eqb-true (get_or r j 0) k (and_left _ _ d) in
        let m = and_right (eqb (get_or r j 0) k) (every (same_child c j ns) (up_from 0 k)) d in
        let u = children-same ch eight r c j s (λ i b.
        eqb-true _ _ (every-at (same_child c j ns) 0 k m i (omega arith) (omega arith))) in
        st.tree j h ∙ rw (p, u)

    other-tree : (j : ℕ) → j < n → same_node l r c a k ns j ≡ false → get_or ts j no_tree ≡ entrant → ⊥
    other-tree j h e d = false≢true (sym e ∙ same)
      where
        both : node (get_or l j 0) (trees_numbered ts (child_numbers r c j)) ≡ entrant
        both = sym (st.tree j h) ∙ d

        numbers : (get_or r j 0 ≡ k) × ((i : ℕ) → i < k → child_at c j i ≡ get_or ns i 0)
        numbers =
            children-back ch eight r c j
            (numbered-inj ts st.distinct (child_numbers r c j) (take k ns) (stored-among j h) known_among
            (node-children _ _ _ _ both))

        same : same_node l r c a k ns j ≡ true
        same =
            and_both (eq-eqb (get_or l j 0) a (node-label _ _ _ _ both))
            (and_both (eq-eqb (get_or r j 0) k numbers.0)
            (at_every (same_child c j ns) 0 k (λ i b m. eq-eqb _ _ (numbers.1 i (omega arith)))))

    -- the node was found before, at index i
    pub enter-old : {i : ℕ} → same_node l r c a k ns i ≡ true → i < n → Entered A ts entrant n (i + 1) l r c q
    enter-old {i} f h =
        let e = same-tree i h f in
        let b : i < length ts = omega (arith, st.size) in
        let z : i + 1 - 1 ≡ i = omega arith in
        entered A ts ts entrant n (i + 1) l r c q (last-old ts entrant (rw (← e) (get_d-in ts i no_tree b))) st (rw z e)

    pub enter-missing : ((j : ℕ) → j < n → same_node l r c a k ns j ≡ false) → entrant ∈ ts → ⊥
    enter-missing f m =
        let (j, b, e) = in-get_d ts entrant no_tree m in
        other-tree j (omega (arith, st.size)) (f j (omega (arith, st.size))) (sym e)

    module _ (sz : Sized l r c q) (room : n < max_nodes) (small : a ≤ max_label) {c' : List ℕ} (cs : ChildrenStored c n ns c') {v : ℕ}
        (right : v ≡ run A entrant) (missing : entrant ∈ ts → ⊥) where
      kept : (s : List ℕ) (w j : ℕ) → j < n → get_or (set s n w) j 0 ≡ get_or s j 0
      kept s w j h = get_or-set_other s n j w 0 (λ e. omega arith)

      kept-child : (j i : ℕ) → j < n → i < max_arity → child_at c' j i ≡ child_at c j i
      kept-child j i h b = cs.before (max_arity * j + i) (omega arith)

      new-arity : get_or (set r n k) n 0 ≡ k
      new-arity = get_or-set_same r n k 0 (omega (arith, sz.arities))

      new-child : (i : ℕ) → i < max_arity → child_at c' n i ≡ get_or ns i 0
      new-child i b = cs.stored i b

      kept-numbers : (j : ℕ) → j < n → child_numbers (set r n k) c' j ≡ child_numbers r c j
      kept-numbers j h =
          rw (kept r k j h)
          (tabulated (child_at c' j) 0 (get_or r j 0) 0 (child_numbers r c j)
          (length-tabulated (child_at c j) 0 (get_or r j 0))
          (λ i b. ap (child_at c' j) (zero-add i) ∙ kept-child j i h (omega (arith, st.narrow j h)) ∙
          ap (child_at c j) (sym (zero-add i)) ∙ sym (get_d-tabulated (child_at c j) 0 (get_or r j 0) i 0 b)))

      new-numbers : child_numbers (set r n k) c' n ≡ take k ns
      new-numbers =
          children-same ch eight (set r n k) c' n new-arity (λ i b. new-child i (omega (arith, ch.narrow)))

      -- the trees with the node appended
      abbrev more : List Tree
      more = ts ++ (entrant ∷ [])

      more-old : (j : ℕ) → j < n → get_or more j no_tree ≡ get_or ts j no_tree
      more-old j h = get_or-append ts (entrant ∷ []) no_tree j (omega (arith, st.size))

      more-new : get_or more n no_tree ≡ entrant
      more-new = get_or_at ts entrant [] no_tree n st.size

      stored-new : Stored A more (n + 1) (set l n a) (set r n k) c' (set q n v)
      stored-new = record {
        size = length-append ts (entrant ∷ []) ∙ ap (λ m. m + 1) st.size;
        distinct = append-distinct ts (entrant ∷ []) st.distinct (λ i. i, tt) apart;
        tree = below_more (λ j. get_or more j no_tree ≡ node (get_or (set l n a) j 0)
            (trees_numbered more (child_numbers (set r n k) c' j))) n tree-old tree-new;
        label = below_more (λ j. get_or (set l n a) j 0 ≤ max_label) n (λ j h. rw (kept l a j h) (st.label j h))
            (rw (get_or-set_same l n a 0 (omega (arith, sz.labels))) small);
        narrow = below_more (λ j. get_or (set r n k) j 0 ≤ max_arity) n
            (λ j h. rw (kept r k j h) (st.narrow j h)) (rw new-arity ch.narrow);
        child-some = λ j i h. below_more (λ j. i < get_or (set r n k) j 0 → 1 ≤ child_at c' j i) n
            (λ j h b. let d = rw (kept r k j h) at b in
            rw (kept-child j i h (omega (arith, st.narrow j h))) (st.child-some j i h d))
            (λ b. let d = rw new-arity at b in rw (new-child i (omega (arith, ch.narrow))) (ch.some i d)) j h;
        child-before = λ j i h. below_more (λ j. i < get_or (set r n k) j 0 → child_at c' j i ≤ j) n
            (λ j h b. let d = rw (kept r k j h) at b in
            rw (kept-child j i h (omega (arith, st.narrow j h))) (st.child-before j i h d))
            (λ b. let d = rw new-arity at b in rw (new-child i (omega (arith, ch.narrow))) (ch.known i d)) j h;
        child-beyond = λ j i h. below_more
            (λ j. get_or (set r n k) j 0 ≤ i → i < max_arity → child_at c' j i ≡ 0) n
            (λ j h b m. kept-child j i h m ∙ st.child-beyond j i h (rw (kept r k j h) at b) m)
            (λ b m. new-child i m ∙ ch.beyond i (rw new-arity at b)) j h;
        state = below_more (λ j. get_or (set q n v) j 0 ≡ run A (get_or more j no_tree)) n
            (λ j h. kept q v j h ∙ st.state j h ∙ ap (run A) (sym (more-old j h)))
            (get_or-set_same q n v 0 (omega (arith, sz.states)) ∙ right ∙ ap (run A) (sym more-new));
      }
        where
          apart : (x : Tree) → x ∈ ts → x ∈ (entrant ∷ []) → ⊥
          apart x i (inl e) = missing (rw e at i)
          apart x i (inr j) = j

          tree-old : (j : ℕ) → j < n → get_or more j no_tree ≡ node (get_or (set l n a) j 0)
              (trees_numbered more (child_numbers (set r n k) c' j))
          tree-old j h =
              let e = numbered-append ts (entrant ∷ []) (child_numbers r c j) (stored-among j h) in
              rw (kept l a j h, kept-numbers j h, e) (more-old j h ∙ st.tree j h)

          tree-new : get_or more n no_tree ≡ node (get_or (set l n a) n 0)
              (trees_numbered more (child_numbers (set r n k) c' n))
          tree-new =
              rw (
                get_or-set_same l n a 0 (omega (arith, sz.labels)),
                new-numbers,
                numbered-append ts (entrant ∷ []) (take k ns) known_among,
              ) more-new

      pub enter-new : Entered A ts entrant (n + 1) (n + 1) (set l n a) (set r n k) c' (set q n v)
      enter-new =
          let z : n + 1 - 1 ≡ n = omega arith in
          entered A ts more entrant (n + 1) (n + 1) (set l n a) (set r n k) c' (set q n v)
          (last-new ts entrant missing) stored-new (rw z more-new)

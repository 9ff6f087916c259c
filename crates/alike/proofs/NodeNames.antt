-- Nodes over stored trees: eight bytes for the children, their states, and the name of the node.
use mathlib.Core.Bool.{Bool, false, true}
use mathlib.Core.List.{List, [], ◌++◌, ◌∷◌, map}
use mathlib.Core.Path.{◌∙◌, ◌≡◌, ap, refl, subst, sym}
use Prim.Native.Nat.{◌+◌, ◌-◌, ◌<◌, ◌≤◌, suc, zero, ℕ}
use native.Mathlib.Nat.{zero-add}
use native.Mathlib.Omega.{arith}
use lib.Dec.{eqb}
use lib.ListN.{drop, get_or, length, length-take, set, take}
use lib.Seq.{ext_get_or, get_or-set_other, get_or-set_same, get_or-take, length-take-le}
use borrow.Author.Tests.{eq-eqb, eqb-false, eqb-true}
use Rattle.automata.specs.Automaton.{Automaton, lookup, run, runs, step}
use Rattle.format.specs.Format.{max_arity}
use Rattle.lists.specs.Positions.{up_from}
use Rattle.lists.specs.Tests.{any, every}
use Rattle.packed.specs.Seeking.{Places}
use Rattle.subtrees.specs.Steps.{Children, Filled, same_child, same_node}
use Rattle.subtrees.specs.Store.{Stored, child_at, tree_numbered, trees_numbered}
use Rattle.trees.specs.Tree.{Tree, no_tree, node}
use Rattle.alike.specs.Agreeing.{state_of}
use Rattle.alike.specs.Known.{Holds, NamedAbove}
use Rattle.automata.proofs.Frames.{not-subtree}
use Rattle.lists.proofs.Intervals.{every-at, get_d-in, in-get_d, tabulated}
use Rattle.lists.proofs.Tests.{and_left, and_right, in-any, none-zero}
use Rattle.subtrees.proofs.Entering.{enter-missing, same-tree}

-- ---- zeros among the first bytes

pub zero-there : (qs : List ℕ) (n k : ℕ) → n ≤ length qs → k < n → get_or qs k 0 ≡ 0 → true ≡ any (eqb 0) (take n qs)
zero-there qs n k l h e =
    sym (in-any (eqb 0) (take n qs) (get_or (take n qs) k 0)
    (get_d-in (take n qs) k 0 (omega (arith, length-take-le n qs l)))
    (eq-eqb 0 (get_or (take n qs) k 0) (sym (get_or-take n qs k 0 h ∙ e))))

pub zero-nowhere : (qs : List ℕ) (n : ℕ) → ((k : ℕ) → k < n → get_or qs k 0 ≡ 0 → ⊥) → false ≡ any (eqb 0) (take n qs)
zero-nowhere qs n h = sym (none-zero (take n qs) (λ q m. some q (in-get_d (take n qs) q 0 m)))
  where
    some : (q : ℕ) → (k : ℕ) × (k < length (take n qs)) × (q ≡ get_or (take n qs) k 0) → 1 ≤ q
    some q (k, b, e) =
        let l : k < n = omega (arith, length-take n qs) in
        let d = get_or-take n qs k 0 l in
        positive (get_or qs k 0) (h k l) (e ∙ d)
      where
        positive : (x : ℕ) → (x ≡ 0 → ⊥) → q ≡ x → 1 ≤ q
        positive zero z i = absurd (z refl)
        positive (suc x) z i = omega arith

-- ---- eight bytes

module _ {f : ℕ → ℕ} {n : ℕ} {r : List ℕ} (filled : Filled f n r) (narrow : n ≤ max_arity) where
  pub filled-take : take n r ≡ map f (up_from 0 n)
  filled-take =
      sym (tabulated f 0 n 0 (take n r) (length-take-le n r (omega (arith, filled.size)))
      (λ i h. ap f (zero-add i) ∙ sym (filled.filled i h) ∙ sym (get_or-take n r i 0 h)))

  pub filled-places : Places n r
  filled-places = record { narrow = narrow; beyond = filled.beyond }

  pub put-places : (k x : ℕ) → k < n → Places n (set r k x)
  put-places k x h = record {
    narrow = narrow;
    beyond = λ j l. get_or-set_other r k j x 0 (λ e. omega arith) ∙ filled.beyond j l;
  }

  pub filled-children : (m : ℕ) → ((k : ℕ) → k < n → 1 ≤ f k) → ((k : ℕ) → k < n → f k ≤ m) → Children r n m
  filled-children m some known = record {
    narrow = narrow;
    some = λ k h. rw (filled.filled k h) (some k h);
    known = λ k h. rw (filled.filled k h) (known k h);
    beyond = filled.beyond;
  }

-- the same with child x at place k
pub put-children : {r : List ℕ} {n m : ℕ} → Children r n m → length r ≡ max_arity → (k x : ℕ) → k < n → 1 ≤ x → x ≤ m →
    Children (set r k x) n m
put-children {r} {n} {m} ch size k x h some known = record {
  narrow = ch.narrow;
  some = λ i b. at i (λ y. 1 ≤ y) some (ch.some i b) (eqb i k) refl;
  known = λ i b. at i (λ y. y ≤ m) known (ch.known i b) (eqb i k) refl;
  beyond = λ i l. get_or-set_other r k i x 0 (λ e. omega arith) ∙ ch.beyond i l;
}
  where
    at : (i : ℕ) (P : ℕ → Type 0) → P x → P (get_or r i 0) → (b : Bool) → eqb i k ≡ b → P (get_or (set r k x) i 0)
    at i P new old true e =
        subst P (sym (ap (λ z. get_or (set r k x) z 0) (eqb-true i k e)
        ∙ get_or-set_same r k x 0 (omega (arith, ch.narrow)))) new
    at i P new old false e = subst P (sym (get_or-set_other r k i x 0 (eqb-false i k e))) old

pub children-more : {r : List ℕ} {n m p : ℕ} → m ≤ p → Children r n m → Children r n p
children-more l ch = record {
  narrow = ch.narrow;
  some = ch.some;
  known = λ k h. omega (arith, ch.known k h);
  beyond = ch.beyond;
}

-- the same for a width that equals n
pub widened-children : {r : List ℕ} {n w m : ℕ} → w ≡ n → Children r n m → Children r w m
widened-children {r} {n} {w} {m} e ch = subst (λ (k : ℕ). Children r k m) (sym e) ch

-- ---- states of children

-- one state put among those of a forest
pub runs-put : (A : Automaton) (ts : List Tree) (ns : List ℕ) (k x : ℕ) → k < length ns →
    set (runs A (trees_numbered ts ns)) k x ≡
    runs A (trees_numbered ts (take k ns)) ++ (x ∷ runs A (trees_numbered ts (drop (suc k) ns)))
runs-put A ts [] k x h = absurd (omega arith)
runs-put A ts (n ∷ ns) zero x h = refl
runs-put A ts (n ∷ ns) (suc k) x h =
    ap (λ qs. run A (tree_numbered ts n) ∷ qs) (runs-put A ts ns k x (omega arith))

runs-length : (A : Automaton) (ts : List Tree) (ns : List ℕ) → length (runs A (trees_numbered ts ns)) ≡ length ns
runs-length A ts [] = refl
runs-length A ts (n ∷ ns) = ap suc (runs-length A ts ns)

runs-at : (A : Automaton) (ts : List Tree) (ns : List ℕ) (k : ℕ) → k < length ns →
    get_or (runs A (trees_numbered ts ns)) k 0 ≡ run A (tree_numbered ts (get_or ns k 0))
runs-at A ts [] k h = absurd (omega arith)
runs-at A ts (n ∷ ns) zero h = refl
runs-at A ts (n ∷ ns) (suc k) h = runs-at A ts ns k (omega arith)

module _ {A : Automaton} {ts : List Tree} {m : ℕ} {l r c q : List ℕ} (st : Stored A ts m l r c q) where
  pub states-run : {n : ℕ} {ns qs : List ℕ} → length ns ≡ max_arity → Children ns n m → Filled (state_of q ns) n qs →
      take n qs ≡ runs A (trees_numbered ts (take n ns))
  states-run {n} {ns} {qs} eight ch filled =
      ext_get_or 0 (take n qs) (runs A (trees_numbered ts (take n ns)))
      (size-qs ∙ sym (runs-length A ts (take n ns) ∙ size-ns)) (λ k h. at k (omega (arith, size-qs)))
    where
      size-qs : length (take n qs) ≡ n
      size-qs = length-take-le n qs (omega (arith, ch.narrow, filled.size))

      size-ns : length (take n ns) ≡ n
      size-ns = length-take-le n ns (omega (arith, ch.narrow))

      at : (k : ℕ) → k < n → get_or (take n qs) k 0 ≡ get_or (runs A (trees_numbered ts (take n ns))) k 0
      at k h =
          get_or-take n qs k 0 h ∙ filled.filled k h
          ∙ st.state (get_or ns k 0 - 1) (omega (arith, ch.some k h, ch.known k h))
          ∙ ap (λ x. run A (tree_numbered ts x)) (sym (get_or-take n ns k 0 h))
          ∙ sym (runs-at A ts (take n ns) k (omega (arith, size-ns)))

-- ---- the state of a node

module _ (A : Automaton) (b : ℕ) (qs : List ℕ) where
  pub step-lost : true ≡ any (eqb 0) qs → 0 ≡ step A b qs
  step-lost e = rw (sym e)

  pub step-found : {x : ℕ} → false ≡ any (eqb 0) qs → x ≡ lookup b qs A.transitions → x ≡ step A b qs
  step-found e d = rw (sym e) d

-- its children's states are those of the forest
pub widened-step : (A : Automaton) (ts : List Tree) (b : ℕ) (ns qs : List ℕ) {n w x : ℕ} → w ≡ n →
    x ≡ step A b (take w qs) → take w qs ≡ runs A (trees_numbered ts (take w ns)) →
    x ≡ step A b (runs A (trees_numbered ts (take n ns)))
widened-step A ts b ns qs e d f =
    d ∙ ap (step A b) f ∙ ap (λ k. step A b (runs A (trees_numbered ts (take k ns)))) e

-- ---- the name of a node

module _ {A : Automaton} {t : Tree} {ts : List Tree} {m j : ℕ} {l r c q names : List ℕ} {N : Tree → ℕ}
    (holds : Holds A t ts m l r c q) (known : NamedAbove A t ts m j names N) {b n : ℕ} {ns : List ℕ}
    (eight : length ns ≡ max_arity) (ch : Children ns n m) where
  -- the name if the node is the subtree at index i
  pub name-found : (i k : ℕ) → k < n → j ≤ get_or ns k 0 → i < m → same_node l r c b n ns i ≡ true →
      get_or names i 0 ≡ N (node b (trees_numbered ts (take n ns)))
  name-found i k h a inside same =
      let st = holds.stored in
      let d = and_right (eqb (get_or l i 0) b) _ same in
      let s = eqb-true (get_or r i 0) n (and_left _ _ d) in
      let child = eqb-true (child_at c i k) (get_or ns k 0) (every-at (same_child c i ns) 0 n
      (and_right (eqb (get_or r i 0) n) (every (same_child c i ns) (up_from 0 n)) d) k (omega arith) (omega arith)) in
      let z : i + 1 - 1 ≡ i = omega arith in
      let above = st.child-before i k inside (omega arith) in
      ap (λ x. get_or names x 0) (sym z) ∙ sym (known.named (i + 1) (omega arith) (omega arith))
      ∙ ap N (ap (λ x. get_or ts x no_tree) z ∙ same-tree st b ch eight i inside same)

  -- the name if the node is no subtree
  pub name-missing : {x : ℕ} → ((i : ℕ) → i < m → same_node l r c b n ns i ≡ false) → x ≡ step A b (runs A (trees_numbered ts (take n ns))) →
      x ≡ N (node b (trees_numbered ts (take n ns)))
  name-missing none e =
      let u = node b (trees_numbered ts (take n ns)) in
      e ∙ sym (known.others u (not-subtree t u
      (λ k. enter-missing holds.stored b ch eight none (holds.every-subtree u k))))

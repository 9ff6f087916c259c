-- The pass over the nodes: the stack has the numbers of the trees from node i on, and the arrays hold their distinct
-- subtrees.
use mathlib.Core.Bool.{Bool, cond, false, true}
use mathlib.Core.List.{List, [], ◌++◌, ◌∷◌}
use mathlib.Core.Path.{◌∙◌, ◌≡◌, ap, ap₂, refl, subst, sym}
use Prim.Native.Nat.{◌+◌, ◌-◌, ◌<◌, ◌≤◌, ℕ}
use native.Mathlib.Omega.{arith}
use lib.ListN.{drop, drop_of_length-le, get_or, length, length-drop, length-set, set, take}
use lib.Seq.{drop-drop, ext_get_or, get_or-drop, get_or-take, length-take-le}
use Rattle.automata.specs.Automaton.{Automaton, run}
use Rattle.automata.specs.Change.{subtrees}
use Rattle.format.specs.Format.{max_arity, max_nodes}
use Rattle.lists.specs.Closure.{elem}
use Rattle.running.specs.Running.{HoldsStates}
use Rattle.subtrees.specs.Steps.{Children, Entered, Filled, NumberGiven, Sized, add_last}
use Rattle.subtrees.specs.Store.{Held, Lists, Stored, arrays, bottom_up, tree_numbered, trees_numbered}
use Rattle.trees.specs.Listing.{children_at, first_tree, first_trees, label_at, later_trees, nodes_in, read_tree, read_trees}
use Rattle.trees.specs.Tree.{Tree, cons, count, eq_tree, node}
use Rattle.subtrees.proofs.Numbers.{Among, among-drop, among-index, among-more, numbered-append}
use Rattle.subtrees.proofs.Numbers.{numbered-count, numbered-first, numbered-later}
use Rattle.subtrees.proofs.Orders.{found-node, found_in, in-reverse, last-number, reverse-in}
use Rattle.lists.specs.Positions.{byte_from}
use Rattle.running.proofs.Tables.{node-byte}
use Rattle.trees.proofs.Suffixes.{Passed, children-there, nodes-end, nodes_from, read_next, read_whole}
use Rattle.lists.proofs.Heads.{drop-set}

-- the label and the number of children of the node before node i
abbrev pub label_before : List ℕ → ℕ → ℕ
label_before s i = label_at s (i - 1)

abbrev pub arity_before : List ℕ → ℕ → ℕ
arity_before s i = children_at s (i - 1)

-- the subtrees found from node i on
abbrev pub found_from : List ℕ → ℕ → List Tree
found_from s i = found_in (read_trees (nodes_from s i))

-- the pass at node i; bs has the states of the nodes of the tree that s lists
pub record Collecting (s bs : List ℕ) (i top found : ℕ) (stack l r c q : List ℕ) : Type 0 where
  pub left : i ≤ nodes_in s
  pub below : i ≤ top
  pub within : top ≤ max_nodes
  pub room : found + i ≤ max_nodes
  pub stacked : length stack ≡ max_nodes
  pub sized : Sized l r c q
  pub numbers : Among found (drop top stack)
  pub trees : read_trees (nodes_from s i) ≡ trees_numbered (found_from s i) (drop top stack)
  pub stored : (A : Automaton) → HoldsStates A (read_tree s) bs → Stored A (found_from s i) found l r c q

nothing_stored : (A : Automaton) (l r c q : List ℕ) → Stored A [] 0 l r c q
nothing_stored A l r c q = record {
  size = refl;
  distinct = tt;
  tree = λ j h. absurd (omega arith);
  narrow = λ j h. absurd (omega arith);
  child-some = λ j k h. absurd (omega arith);
  child-before = λ j k h. absurd (omega arith);
  child-beyond = λ j k h. absurd (omega arith);
  label = λ j h. absurd (omega arith);
  state = λ j h. absurd (omega arith);
}

pub collecting-start : {s : List ℕ} → Passed s → (bs : List ℕ) {l r c q : List ℕ} → Sized l r c q →
    {stack : List ℕ} → length stack ≡ max_nodes → Collecting s bs (nodes_in s) max_nodes 0 stack l r c q
collecting-start {s} ok bs {l} {r} {c} {q} sz {stack} e =
    let z = ap read_trees (nodes-end ok) in
    let d = drop_of_length-le stack {i = max_nodes} (omega arith) in
    record {
      left = omega arith;
      below = ok.short;
      within = omega arith;
      room = omega (arith, ok.short);
      stacked = e;
      sized = sz;
      numbers = rw d tt;
      trees = rw (d, z);
      stored = λ A h. rw z (nothing_stored A l r c q);
    }

popped-take : (s : List ℕ) (at k : ℕ) {r : List ℕ} → Filled (byte_from s at) k r → k ≤ max_arity →
    at + k ≤ length s → take k r ≡ take k (drop at s)
popped-take s at k {r} f h b =
    ext_get_or 0 (take k r) (take k (drop at s)) (size ∙ sym other)
    (λ i l. let m : i < k = omega (arith, size) in
    get_or-take k r i 0 m ∙ f.filled i m ∙ sym (get_or-take k (drop at s) i 0 m ∙ get_or-drop at s i 0))
  where
    size : length (take k r) ≡ k
    size = length-take-le k r (omega (arith, f.size))

    other : length (take k (drop at s)) ≡ k
    other = length-take-le k (drop at s) (omega (arith, length-drop at s))

-- appending a tree changes no number
numbered-last : (ts : List Tree) (t : Tree) (ns : List ℕ) → Among (length ts) ns →
    trees_numbered (add_last ts t) ns ≡ trees_numbered ts ns
numbered-last ts t ns w = go (elem eq_tree t ts)
  where
    go : (b : Bool) → trees_numbered (cond b ts (ts ++ (t ∷ []))) ns ≡ trees_numbered ts ns
    go true = refl
    go false = numbered-append ts (t ∷ []) ns w

module _ {s bs : List ℕ} {i top found : ℕ} {stack l r c q : List ℕ}
    (inv : Collecting s bs i top found stack l r c q) where
  pub collecting-at : (j : ℕ) → i ≡ j → Collecting s bs j top found stack l r c q
  collecting-at j e = subst (λ (n : ℕ). Collecting s bs n top found stack l r c q) e inv

  found-length : Held (read_tree s) bs → length (found_from s i) ≡ found
  found-length held = (inv.stored held.0 held.1).size

  stack-length : length (drop top stack) ≡ max_nodes - top
  stack-length = length-drop top stack ∙ ap (λ n. n - top) inv.stacked

  trees-count : count (read_trees (nodes_from s i)) ≡ max_nodes - top
  trees-count = ap count inv.trees ∙ numbered-count (found_from s i) (drop top stack) ∙ stack-length

-- the next node, i - 1
module _ {s bs : List ℕ} {i top found : ℕ} {stack l r c q : List ℕ} (ok : Passed s)
    (done : Collecting s bs i top found stack l r c q) (more : 0 < i) where
  inv : Collecting s bs (i - 1 + 1) top found stack l r c q
  inv = collecting-at done (i - 1 + 1) (omega arith)

  pub pop-room : top + arity_before s i ≤ max_nodes
  pop-room = omega (arith, children-there ok (i - 1) (omega (arith, inv.left)), trees-count inv, inv.within)

  pub pop-narrow : arity_before s i ≤ max_arity
  pop-narrow = ok.narrow (i - 1) (omega (arith, inv.left))

  module _ {ns : List ℕ} (filled : Filled (byte_from stack top) (arity_before s i) ns) where
    pub pop-children : Children ns (arity_before s i) found
    pop-children = record {
      narrow = pop-narrow;
      some = λ k b. rw (at k b) (among k b).0;
      known = λ k b. rw (at k b) (among k b).1;
      beyond = filled.beyond;
    }
      where
        at : (k : ℕ) → k < arity_before s i → get_or ns k 0 ≡ get_or (drop top stack) k 0
        at k b = filled.filled k b ∙ sym (get_or-drop top stack k 0)

        among : (k : ℕ) → k < arity_before s i → (1 ≤ get_or (drop top stack) k 0) × (get_or (drop top stack) k 0 ≤ found)
        among k b =
            among-index found (drop top stack) inv.numbers k (omega (arith, stack-length inv, pop-room))

    -- the node's number takes the place of its children's
    module _ {m num : ℕ} (given : NumberGiven found m num) {l' r' c' q' : List ℕ} (sz : Sized l' r' c' q')
        (held : Held (read_tree s) bs)
        (holds : (A : Automaton) (ts : List Tree) →
        get_or bs (i - 1) 0 ≡ run A (node (label_before s i) (trees_numbered ts (take (arity_before s i) ns))) →
        Stored A ts found l r c q →
        Entered A ts (node (label_before s i) (trees_numbered ts (take (arity_before s i) ns))) m num l' r' c' q') where
      abbrev place : ℕ
      place = top + arity_before s i - 1

      abbrev before : List Tree
      before = found_from s (i - 1 + 1)

      abbrev entrant : Tree
      entrant = node (label_before s i) (trees_numbered before (take (arity_before s i) ns))

      children : trees_numbered before (take (arity_before s i) ns) ≡
          first_trees (arity_before s i) (read_trees (nodes_from s (i - 1 + 1)))
      children =
          ap (trees_numbered before)
          (popped-take stack top (arity_before s i) filled pop-narrow (omega (arith, pop-room, inv.stacked))) ∙
          sym (numbered-first before (arity_before s i) (drop top stack)) ∙
          ap (first_trees (arity_before s i)) (sym inv.trees)

      -- the node's byte is the state that it runs to
      entrant-state : (A : Automaton) → HoldsStates A (read_tree s) bs → get_or bs (i - 1) 0 ≡ run A entrant
      entrant-state A h =
          node-byte ok h (i - 1) (omega (arith, inv.left)) ∙
          ap (λ f. run A (first_tree f)) (read_next ok (i - 1) (omega (arith, inv.left))) ∙
          ap (λ f. run A (node (label_before s i) f)) (sym children)

      entered : (A : Automaton) → HoldsStates A (read_tree s) bs → Entered A before entrant m num l' r' c' q'
      entered A h = holds A before (entrant-state A h) (inv.stored A h)

      found-next : found_from s (i - 1) ≡ add_last before entrant
      found-next =
          ap found_in (read_next ok (i - 1) (omega (arith, inv.left))) ∙
          found-node (label_before s i) (arity_before s i) (read_trees (nodes_from s (i - 1 + 1))) ∙
          ap (λ f. add_last before (node (label_before s i) f)) (sym children)

      dropped : drop place (set stack place num) ≡ num ∷ drop (arity_before s i) (drop top stack)
      dropped =
          let z : place + 1 ≡ top + arity_before s i = omega (arith, inv.below) in
          drop-set stack place num (omega (arith, pop-room, inv.stacked, inv.below)) ∙
          ap (λ n. num ∷ drop n stack) z ∙ ap (λ ns. num ∷ ns) (sym (drop-drop (arity_before s i) top stack))

      later : Among found (drop (arity_before s i) (drop top stack))
      later = among-drop found (arity_before s i) (drop top stack) inv.numbers

      trees-next : read_trees (nodes_from s (i - 1)) ≡
          trees_numbered (found_from s (i - 1)) (drop place (set stack place num))
      trees-next =
          read_next ok (i - 1) (omega (arith, inv.left)) ∙ (λ i. cons (first i) (rest i)) ∙
          sym (ap₂ trees_numbered found-next dropped)
        where
          first : node (label_before s i) (first_trees (arity_before s i) (read_trees (nodes_from s (i - 1 + 1)))) ≡
              tree_numbered (add_last before entrant) num
          first =
              ap (node (label_before s i)) (sym children) ∙
              sym (entered held.0 held.1).numbered

          rest : later_trees (arity_before s i) (read_trees (nodes_from s (i - 1 + 1))) ≡
              trees_numbered (add_last before entrant) (drop (arity_before s i) (drop top stack))
          rest =
              ap (later_trees (arity_before s i)) inv.trees ∙
              numbered-later before (arity_before s i) (drop top stack) ∙
              sym (numbered-last before entrant (drop (arity_before s i) (drop top stack))
              (rw (found-length inv held) later))

      pub collecting-next : Collecting s bs (i - 1) place m (set stack place num) l' r' c' q'
      collecting-next = record {
        left = omega (arith, inv.left);
        below = omega (arith, inv.below);
        within = omega (arith, pop-room);
        room = omega (arith, inv.room, given.one_more);
        stacked = length-set stack place num ∙ inv.stacked;
        sized = sz;
        numbers = rw dropped (
          (given.some, given.known),
          among-more found m (drop (arity_before s i) (drop top stack)) given.grows later,
        );
        trees = trees-next;
        stored = λ A h. subst (λ (ts : List Tree). Stored A ts m l' r' c' q') (sym found-next)
            (entered A h).stored;
      }

-- at the end no node is left
module _ {s bs : List ℕ} {top found : ℕ} {stack l r c q : List ℕ} (ok : Passed s)
    (inv : Collecting s bs 0 top found stack l r c q) where
  pub collecting-end : (A : Automaton) → HoldsStates A (read_tree s) bs →
      Lists A (read_tree s) (bottom_up (read_tree s)) (arrays found l r c q)
  collecting-end A h = let held = rw (read_whole ok) at (inv.stored A h) in record {
    few = omega (arith, inv.room);
    stored = held;
    subtree = λ x m. reverse-in (subtrees (read_tree s)) x m;
    every-subtree = λ x m. in-reverse (subtrees (read_tree s)) x m;
    some = (last-number (read_tree s) held.size).0;
    last = (last-number (read_tree s) held.size).1;
  }

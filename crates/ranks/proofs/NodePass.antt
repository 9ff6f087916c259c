-- The pass over the nodes from the last to the first: the states of the trees from node i on are on the stack, and the
-- number is the one that these trees have together.
use mathlib.Core.List.{List, ◌∷◌}
use mathlib.Core.Path.{◌∙◌, ◌≡◌, ap, ap₂, refl, subst, sym}
use Prim.Native.Nat.{◌*◌, ◌+◌, ◌-◌, ◌<◌, ◌≤◌, suc, zero, ℕ}
use native.Mathlib.Nat.{add-mul, mul_assoc, one-mul}
use native.Mathlib.Omega.{arith}
use lib.ListN.{drop, drop_of_length-le, get_or, length, length-set, set, take}
use lib.Seq.{drop-drop}
use Rattle.std.specs.declared.option.Option.{Option}
use Rattle.std.specs.declared.option.Option.TheVariants.{Some}
use Rattle.automata.specs.Automaton.{Automaton, Transition, run, runs}
use Rattle.automata.specs.Ranks.{rank_in, ranks_in, sum_before}
use Rattle.automata.specs.Totals.{product_over}
use Rattle.format.specs.Format.{max_arity, max_nodes}
use Rattle.running.specs.Running.{HoldsStates}
use Rattle.running.proofs.Tables.{node-byte}
use Rattle.totals.specs.Limited.{total_of, worth}
use Rattle.totals.proofs.Limits.{total-is, total-plus, total-times}
use Rattle.trees.specs.Listing.{children_at, first_tree, first_trees, label_at, later_trees, nodes_in, read_tree, read_trees}
use Rattle.trees.specs.Tree.{Forest, Tree, cons, count, nil, node}
use Rattle.trees.proofs.Forests.{later-count}
use Rattle.trees.proofs.Suffixes.{Passed, children-there, nodes-end, nodes_from, read_next, read_whole}
use Rattle.lists.proofs.Heads.{drop-set}

-- ---- trees split into the first c and the others

module _ (A : Automaton) where
  runs-first : (c : ℕ) (f : Forest) → runs A (first_trees c f) ≡ take c (runs A f)
  runs-first zero f = refl
  runs-first (suc c) nil = refl
  runs-first (suc c) (cons t f) = ap (λ (qs : List ℕ). run A t ∷ qs) (runs-first c f)

  runs-later : (c : ℕ) (f : Forest) → runs A (later_trees c f) ≡ drop c (runs A f)
  runs-later zero f = refl
  runs-later (suc c) nil = refl
  runs-later (suc c) (cons t f) = runs-later c f

  module _ (w : ℕ → ℕ) where
    product-split : (c : ℕ) (f : Forest) → product_over w (runs A f) ≡
        product_over w (runs A (first_trees c f)) * product_over w (runs A (later_trees c f))
    product-split zero f = sym (one-mul (product_over w (runs A f)))
    product-split (suc c) nil = refl
    product-split (suc c) (cons t f) =
        ap (λ (n : ℕ). w (run A t) * n) (product-split c f)
        ∙ sym (mul_assoc (w (run A t)) (product_over w (runs A (first_trees c f)))
        (product_over w (runs A (later_trees c f))))

    -- the numbers of the first count once for each row of the others
    ranks-split : (c : ℕ) (f : Forest) → ranks_in A w f ≡
        ranks_in A w (first_trees c f) * product_over w (runs A (later_trees c f)) + ranks_in A w (later_trees c f)
    ranks-split zero f = omega arith
    ranks-split (suc c) nil = refl
    ranks-split (suc c) (cons t f) =
        let r = rank_in A w t in
        let m = product_over w (runs A (first_trees c f)) in
        let n = product_over w (runs A (later_trees c f)) in
        let e : r * product_over w (runs A f) ≡ r * m * n =
        ap (λ (x : ℕ). r * x) (product-split c f) ∙ sym (mul_assoc r m n) in
        omega (arith, ranks-split c f, add-mul (r * m) (ranks_in A w (first_trees c f)) n)

    -- a node takes the first c trees as its children
    ranks-node : (a c : ℕ) (f : Forest) → ranks_in A w (cons (node a (first_trees c f)) (later_trees c f)) ≡
        sum_before w (run A (node a (first_trees c f))) a (runs A (first_trees c f)) A.transitions *
        product_over w (runs A (later_trees c f)) + ranks_in A w f
    ranks-node a c f =
        let b = sum_before w (run A (node a (first_trees c f))) a (runs A (first_trees c f)) A.transitions in
        let n = product_over w (runs A (later_trees c f)) in
        omega (arith, add-mul b (ranks_in A w (first_trees c f)) n, ranks-split c f)

-- ---- the pass

-- what is on the stack and what is counted, for an automaton that has these transitions and states
pub record Stands (A : Automaton) (w : ℕ → ℕ) (f : Forest) (stack : List ℕ) (top : ℕ) (r : Option ℕ) : Type 0 where
  pub states : runs A f ≡ drop top stack
  pub number : r ≡ total_of (ranks_in A w f)

pub record Ranking (τs : List Transition) (w : ℕ → ℕ) (s bs stack : List ℕ) (top i : ℕ) (r : Option ℕ) : Type 0 where
  pub left : i ≤ nodes_in s
  pub below : i ≤ top
  pub stacked : length stack ≡ max_nodes
  pub room : top + count (read_trees (nodes_from s i)) ≡ max_nodes
  pub stands : (A : Automaton) → A.transitions ≡ τs → HoldsStates A (read_tree s) bs →
      Stands A w (read_trees (nodes_from s i)) stack top r

pub ranking-start : (τs : List Transition) (w : ℕ → ℕ) {s : List ℕ} → Passed s → (bs : List ℕ) {stack : List ℕ} →
    length stack ≡ max_nodes → Ranking τs w s bs stack max_nodes (nodes_in s) (Some 0)
ranking-start τs w {s} ok bs {stack} e =
    let z = ap read_trees (nodes-end ok) in
    record {
      left = omega arith;
      below = ok.short;
      stacked = e;
      room = omega (arith, ap count z);
      stands = λ A t h. record {
        states = ap (runs A) z ∙ sym (drop_of_length-le stack {i = max_nodes} (omega arith));
        number = total-is (ap (ranks_in A w) (sym z)) (rw z (omega arith));
      };
    }

module _ {τs : List Transition} {w : ℕ → ℕ} {s bs stack : List ℕ} {top i : ℕ} {r : Option ℕ} (ok : Passed s)
    (done : Ranking τs w s bs stack top i r) (more : 0 < i) where
  abbrev j : ℕ
  j = i - 1

  abbrev arity : ℕ
  arity = children_at s j

  abbrev after : Forest
  after = read_trees (nodes_from s (j + 1))

  abbrev root : Tree
  root = node (label_at s j) (first_trees arity after)

  inv : Ranking τs w s bs stack top (j + 1) r
  inv =
      let e : i ≡ j + 1 = omega arith in
      subst (λ (k : ℕ). Ranking τs w s bs stack top k r) e done

  there : j < nodes_in s
  there = omega (arith, done.left)

  pub pop-narrow : arity ≤ max_arity
  pop-narrow = ok.narrow j there

  pub pop-room : top + arity ≤ max_nodes
  pop-room = omega (arith, children-there ok j there, inv.room)

  pub push-room : 1 ≤ top + arity
  push-room = omega (arith, inv.below)

  pub ranking-next : {q : ℕ} → q ≡ get_or bs j 0 → {before weight product r' : Option ℕ} →
      before ≡ total_of (sum_before w q (label_at s j) (take arity (drop top stack)) τs) →
      weight ≡ total_of (product_over w (drop (top + arity) stack)) →
      product ≡ total_of (worth before * worth weight) → r' ≡ total_of (worth product + worth r) →
      Ranking τs w s bs (set stack (top + arity - 1) q) (top + arity - 1) j r'
  ranking-next {q} d {before} {weight} {product} {r'} e f g h = record {
    left = omega (arith, there);
    below = omega (arith, inv.below);
    stacked = length-set stack (top + arity - 1) q ∙ inv.stacked;
    room = omega (
      arith,
      push-room,
      children-there ok j there,
      inv.room,
      ap count (read_next ok j there),
      later-count arity after,
    );
    stands = λ A t H. stood A t H (inv.stands A t H);
  }
    where
      stood : (A : Automaton) → A.transitions ≡ τs → HoldsStates A (read_tree s) bs → Stands A w after stack top r →
          Stands A w (read_trees (nodes_from s j)) (set stack (top + arity - 1) q) (top + arity - 1) r'
      stood A t H x = record {
        states = ap (runs A) (read_next ok j there) ∙ ap₂ (λ (p : ℕ) (qs : List ℕ). p ∷ qs) (sym state) others
            ∙ sym pushed;
        number = h ∙ total-plus b (ranks_in A w after) counted x.number
            ∙ ap total_of (sym (ap (ranks_in A w) (read_next ok j there) ∙ ranks-node A w (label_at s j) arity after));
      }
        where
          state : q ≡ run A root
          state =
              d ∙ node-byte ok H j there ∙ ap (λ (f : Forest). run A (first_tree f)) (read_next ok j there)

          firsts : runs A (first_trees arity after) ≡ take arity (drop top stack)
          firsts = runs-first A arity after ∙ ap (take arity) x.states

          others : runs A (later_trees arity after) ≡ drop (top + arity) stack
          others = runs-later A arity after ∙ ap (drop arity) x.states ∙ drop-drop arity top stack

          pushed : drop (top + arity - 1) (set stack (top + arity - 1) q) ≡ q ∷ drop (top + arity) stack
          pushed =
              let z : top + arity - 1 + 1 ≡ top + arity = omega (arith, push-room) in
              drop-set stack (top + arity - 1) q (omega (arith, pop-room, push-room, inv.stacked))
              ∙ ap (λ (n : ℕ). q ∷ drop n stack) z

          b : ℕ
          b =
              sum_before w (run A root) (label_at s j) (runs A (first_trees arity after)) A.transitions *
              product_over w (runs A (later_trees arity after))

          counted : product ≡ total_of b
          counted =
              g ∙ total-times (sum_before w q (label_at s j) (take arity (drop top stack)) τs)
              (product_over w (drop (top + arity) stack)) e f
              ∙ rw (← state, firsts, others, t)

-- no node is left
pub ranking-end : {τs : List Transition} {w : ℕ → ℕ} {s bs stack : List ℕ} {top i : ℕ} {r : Option ℕ} → Passed s →
    Ranking τs w s bs stack top i r → i ≤ 0 → (A : Automaton) → A.transitions ≡ τs → HoldsStates A (read_tree s) bs →
    r ≡ total_of (rank_in A w (read_tree s))
ranking-end {τs} {w} {s} {bs} {stack} {top} {i} {r} ok x h A t H =
    let z : i ≡ 0 = omega arith in
    let y = subst (λ (k : ℕ). Ranking τs w s bs stack top k r) z x in
    let e : rank_in A w (read_tree s) * 1 + 0 ≡ rank_in A w (read_tree s) = omega arith in
    (y.stands A t H).number ∙ ap (λ (f : Forest). total_of (ranks_in A w f)) (read_whole ok) ∙ ap total_of e

-- The place at which a tree stops: a tree that runs to no state has one, any other has none, and children that are run
-- from left to right meet the least one first. In words of the set it is the first node that stops.
use mathlib.Core.Bool.{Bool, ◌||◌, cond, false, false≢true, not, true, true≢false}
use mathlib.Core.Logic.{◌↔◌}
use mathlib.Core.Path.{◌∙◌, ◌≡◌, ap, refl, subst, sym}
use Prim.Native.Nat.{◌+◌, ◌-◌, ◌≤◌, suc, zero, ℕ}
use native.Mathlib.Omega.{arith}
use lib.Dec.{eqb, ltb}
use lib.ListN.{length}
use borrow.Author.Tests.{eq-eqb, eqb-false, eqb-true, ltb-false, ltb-true, ne_eqb, not-true}
use Rattle.automata.specs.Automaton.{Automaton, lookup, run, runs}
use Rattle.automata.specs.Canonical.{Canonical, Subtree}
use Rattle.automata.specs.Stops.{FirstStop, Stops, stop_place, stop_places, stops}
use Rattle.lists.specs.Positions.{shift}
use Rattle.lists.specs.Tests.{any}
use Rattle.trees.specs.Preorder.{preorder, preorders, subtree_at}
use Rattle.trees.specs.Tree.{AllTrees, Forest, Tree, ◌⧺◌, cons, nil, no_tree, node}
use Rattle.automata.proofs.CanonicalRun.{run-none-iff, runs-subtrees, subtrees-run}
use Rattle.automata.proofs.Steps.{runs_append}
use Rattle.automata.proofs.Unique.{children}
use Rattle.lists.proofs.FirstPlace.{first-append, first-at, first-later, first-length, first-none, shift-some}
use Rattle.lists.proofs.Intervals.{get_d-in}
use Rattle.lists.proofs.Positions.{shift-pos}
use Rattle.lists.proofs.Tests.{and_both, and_left, and_right, any-after, or_left, or-none-left, or-none-right}
use Rattle.trees.proofs.Preorder.{preorder-all, preorders-all, preorders-append}

module _ (A : Automaton) where
  -- the tree runs to a state
  abbrev Runs : Tree → Type 0
  Runs t = 1 ≤ run A t

  zero-free : (f : Forest) → any (eqb 0) (runs A f) ≡ false → AllTrees Runs f
  zero-free nil e = tt
  zero-free (cons t f) e = (
    omega (arith, eqb-false 0 (run A t) (or-none-left _ _ e)),
    zero-free f (or-none-right (eqb 0 (run A t)) _ e),
  )

  pub children-run : (a : ℕ) (f : Forest) → 1 ≤ run A (node a f) → any (eqb 0) (runs A f) ≡ false
  children-run a f = go (any (eqb 0) (runs A f))
    where
      go : (b : Bool) → 1 ≤ cond b 0 (lookup a (runs A f) A.transitions) → b ≡ false
      go true h = absurd (omega arith)
      go false h = refl

  runs-children : (a : ℕ) (f : Forest) → Runs (node a f) → AllTrees Runs f
  runs-children a f h = zero-free f (children-run a f h)

  state-unstopped : (u : Tree) → Runs u → stops A u ≡ false
  state-unstopped (node a f) h = rw (ne_eqb (run A (node a f)) 0 (λ e. omega arith))

  -- ---- a tree that runs to a state has no place

  pub run-unstopped : (t : Tree) → 1 ≤ run A t → stop_place A t ≡ 0
  unfolding stop_place
  run-unstopped t h =
      first-none (stops A) (preorder t) (λ u i. state-unstopped u (preorder-all Runs runs-children t h u i))

  pub runs-unstopped : (f : Forest) → any (eqb 0) (runs A f) ≡ false → stop_places A f ≡ 0
  unfolding stop_places
  runs-unstopped f e =
      first-none (stops A) (preorders f) (λ u i.
      state-unstopped u (preorders-all Runs runs-children f (zero-free f e) u i))

  -- ---- one that runs to none has a place, the first that its children or itself have

  -- the node itself, if each child runs to a state
  pub stop-here : (a : ℕ) (f : Forest) → any (eqb 0) (runs A f) ≡ false → run A (node a f) ≡ 0 →
      stop_place A (node a f) ≡ 1
  unfolding stop_place
  stop-here a f n e =
      let t : stops A (node a f) ≡ true = and_both (eq-eqb (run A (node a f)) 0 e) (ap not n) in rw t

  place-below : (a : ℕ) (f : Forest) → any (eqb 0) (runs A f) ≡ true → stop_place A (node a f) ≡ shift (stop_places A f)
  unfolding stop_place stop_places
  place-below a f n = rw n

  place-child : (t : Tree) (f : Forest) → 1 ≤ stop_place A t → stop_places A (cons t f) ≡ stop_place A t
  unfolding stop_place stop_places
  place-child t f h = first-append (stops A) (preorder t) (preorders f) h

  place_after : (b f : Forest) → any (eqb 0) (runs A b) ≡ false → 1 ≤ stop_places A f →
      stop_places A (b ⧺ f) ≡ length (preorders b) + stop_places A f
  unfolding stop_places
  place_after b f n h =
      rw (preorders-append b f) (first-later (stops A) (preorders b) (preorders f) (runs-unstopped b n) h)

  mutual
    -- a tree without a state has a place
    pub run-stopped : (t : Tree) → run A t ≡ 0 → 1 ≤ stop_place A t
    run-stopped (node a f) e = go (λ n. runs-stopped f n) (any (eqb 0) (runs A f)) refl
      where
        go : (any (eqb 0) (runs A f) ≡ true → 1 ≤ stop_places A f) → (b : Bool) → any (eqb 0) (runs A f) ≡ b →
            1 ≤ stop_place A (node a f)
        go ih true n = rw (place-below a f n) (shift-pos (stop_places A f) (ih n))
        go ih false n = omega (arith, stop-here a f n e)

    pub runs-stopped : (f : Forest) → any (eqb 0) (runs A f) ≡ true → 1 ≤ stop_places A f
    runs-stopped nil e = absurd (false≢true e)
    runs-stopped (cons t f) e = go (λ z. run-stopped t z) (λ n. runs-stopped f n) (eqb 0 (run A t)) refl e
      where
        go : (run A t ≡ 0 → 1 ≤ stop_place A t) → (any (eqb 0) (runs A f) ≡ true → 1 ≤ stop_places A f) → (b : Bool) →
            eqb 0 (run A t) ≡ b → (b || any (eqb 0) (runs A f)) ≡ true → 1 ≤ stop_places A (cons t f)
        go here after true z n =
            let h = here (sym (eqb-true 0 (run A t) z)) in omega (arith, place-child t f h)
        go here after false z n = let h = after n in omega (arith, place_after (cons t nil) f (rw z) h)

  -- the place among the children and the node, if a child has no state
  pub stop-below : (a : ℕ) (f : Forest) → any (eqb 0) (runs A f) ≡ true → stop_place A (node a f) ≡ suc (stop_places A f)
  stop-below a f n = place-below a f n ∙ shift-some (stop_places A f) (runs-stopped f n)

  -- the first child's place, if it has no state
  pub stop-child : (t : Tree) (f : Forest) → run A t ≡ 0 → stop_places A (cons t f) ≡ stop_place A t
  stop-child t f e = place-child t f (run-stopped t e)

  -- children that run to states, and the place among those after them
  pub stop-after : (b f : Forest) → any (eqb 0) (runs A b) ≡ false → any (eqb 0) (runs A f) ≡ true →
      stop_places A (b ⧺ f) ≡ length (preorders b) + stop_places A f
  stop-after b f n m = place_after b f n (runs-stopped f m)

  -- Children that are run from left to right meet the place at the first child without a state: before it are the node
  -- and the nodes of the children before that one.
  pub stop-at-child : (a : ℕ) (b : Forest) (u : Tree) (f : Forest) → any (eqb 0) (runs A b) ≡ false → run A u ≡ 0 →
      stop_place A (node a (b ⧺ cons u f)) ≡ suc (length (preorders b) + stop_place A u)
  stop-at-child a b u f n e =
      let here : any (eqb 0) (runs A (cons u f)) ≡ true = or_left _ _ (eq-eqb 0 (run A u) (sym e)) in
      let below : any (eqb 0) (runs A (b ⧺ cons u f)) ≡ true =
      rw runs_append (any-after (eqb 0) (runs A b) (runs A (cons u f)) n ∙ here) in
      omega (arith, stop-below a (b ⧺ cons u f) below, stop-after b (cons u f) n here, stop-child u f e)

  -- a place is one of the nodes
  pub stop-within : (t : Tree) → stop_place A t ≤ length (preorder t)
  unfolding stop_place
  stop-within t = first-length (stops A) (preorder t)

-- ---- in words of the set

-- what stops stands in no tree of the set
stops-none : (S : Tree → Bool) (u : Tree) → Stops S u → Subtree S u → ⊥
stops-none S (node a f) h = h.0

-- a tree of which a node stops stands in no tree of the set
pub first-stop-none : (S : Tree → Bool) (t : Tree) (k : ℕ) → FirstStop S t k → Subtree S t → ⊥
first-stop-none S t k F p =
    stops-none S (subtree_at t k) F.stops
    (preorder-all (Subtree S) (children S) t p (subtree_at t k) (get_d-in (preorder t) (k - 1) no_tree (omega arith)))

-- a tree has at most one first stop
pub first-stop-same : (S : Tree → Bool) (t : Tree) (j k : ℕ) → FirstStop S t j → FirstStop S t k → j ≡ k
first-stop-same S t j k F G = go (ltb j k) refl (ltb k j) refl
  where
    go : (b : Bool) → ltb j k ≡ b → (c : Bool) → ltb k j ≡ c → j ≡ k
    go true e c d = absurd (G.first j F.within.0 (ltb-true j k e) F.stops)
    go false e true d = absurd (F.first k G.within.0 (ltb-true k j d) G.stops)
    go false e false d = omega (arith, ltb-false j k e, ltb-false k j d)

module _ (S : Tree → Bool) (A : Automaton) (X : Canonical S A) where
  -- the canonical automaton stops where the set does
  pub stops-iff : (u : Tree) → (stops A u ≡ true) ↔ Stops S u
  stops-iff (node a f) = (to, from)
    where
      to : stops A (node a f) ≡ true → Stops S (node a f)
      to e = (
        (run-none-iff S A X (node a f)).0 (eqb-true (run A (node a f)) 0 (and_left _ _ e)),
        runs-subtrees S A X f (not-true (any (eqb 0) (runs A f)) (and_right (eqb (run A (node a f)) 0) _ e)),
      )

      from : Stops S (node a f) → stops A (node a f) ≡ true
      from (h, p) =
          and_both (eq-eqb (run A (node a f)) 0 ((run-none-iff S A X (node a f)).1 h))
          (ap not (subtrees-run S A X f p))

  -- the place is that of the first node that stops
  pub stop-first : (t : Tree) → run A t ≡ 0 → FirstStop S t (stop_place A t)
  unfolding stop_place
  stop-first t e = go (stop_place A t) refl (run-stopped A t e)
    where
      go : (k : ℕ) → stop_place A t ≡ k → 1 ≤ k → FirstStop S t (stop_place A t)
      go zero d h = absurd (omega arith)
      go (suc i) d h =
          let F = first-at (stops A) (preorder t) no_tree i d in
          let z : suc i - 1 ≡ i = omega arith in
          let last : stops A (subtree_at t (suc i)) ≡ true = rw z F.passes in
          subst (FirstStop S t) (sym d) (record {
            within = (omega arith, F.within);
            stops = (stops-iff (subtree_at t (suc i))).0 last;
            first = λ j l m s. true≢false (sym ((stops-iff (subtree_at t j)).1 s) ∙ F.first (j - 1) (omega arith));
          })

-- A state that has finitely many trees has none that is deeper than there are states: on a longer way down some state
-- comes twice, and the part between can be repeated.
use mathlib.Core.Bool.{Bool, false, true, true≢false}
use mathlib.Core.List.{List, [], ◌∷◌}
use mathlib.Core.Logic.{◌⊎◌, inl, inr}
use mathlib.Core.Path.{◌∙◌, ◌≡◌, ap, refl, subst, sym}
use Prim.Native.Nat.{◌+◌, ◌<◌, ◌≤◌, max, suc, zero, ℕ}
use native.Mathlib.Omega.{arith}
use lib.Dec.{eqb, leb}
use lib.ListN.{length}
use borrow.Author.Tests.{eqb-true, leb-false, leb-true}
use Rattle.automata.specs.Acyclic.{acyclic}
use Rattle.automata.specs.Automaton.{Automaton, IsState, run, runs, states}
use Rattle.automata.specs.ContextRun.{run_context, step_frame}
use Rattle.automata.specs.Totals.{FinitelyMany}
use Rattle.automata.specs.Valid.{states_in_range}
use Rattle.lists.specs.Closure.{elem}
use Rattle.lists.specs.Positions.{up_from}
use Rattle.lists.specs.Tests.{Distinct, ◌∈◌}
use Rattle.trees.specs.Context.{Context, Frame, fill, plug}
use Rattle.trees.specs.Tree.{Forest, Tree, ◌⧺◌, cons, depth, depths, nil, node}
use Rattle.automata.proofs.Bounded.{depth-rank, pow, pow-length, pow-run, rank}
use Rattle.automata.proofs.Distinguishable.{run_fits}
use Rattle.automata.proofs.Steps.{run-fill, run-plug, step-zero}
use Rattle.automata.proofs.Valid.{in-states, ranged-fits}
use Rattle.lists.proofs.Closure.{elem_in, in-elem}
use Rattle.lists.proofs.Distinct.{distinct-length}
use Rattle.lists.proofs.Positions.{up_from-length}
use Rattle.lists.proofs.Tests.{eqb_same}
use Rattle.trees.proofs.Trees.{depth-plug, depths-here}

-- a child that is as deep as any
deepest : (f : Forest) → 1 ≤ depths f →
    (b : Forest) × (u : Tree) × (c : Forest) × (f ≡ b ⧺ cons u c) × (depths f ≤ depth u)
deepest nil h = absurd (omega arith)
deepest (cons t f) h = go (λ k. deepest f k) (leb (depths f) (depth t)) refl
  where
    go : (1 ≤ depths f → (b : Forest) × (u : Tree) × (c : Forest) × (f ≡ b ⧺ cons u c) × (depths f ≤ depth u)) →
        (x : Bool) → leb (depths f) (depth t) ≡ x →
        (b : Forest) × (u : Tree) × (c : Forest) × (cons t f ≡ b ⧺ cons u c) × (max (depth t) (depths f) ≤ depth u)
    go ih true e = (nil, t, f, refl, omega (arith, leb-true))
    go ih false e = let l = leb-false (depths f) (depth t) e in let (b, u, c, d, m) = ih (omega arith) in
        (cons t b, u, c, ap (cons t) d, omega arith)

-- a context of one frame or more that takes p to q
abbrev Way : Automaton → ℕ → ℕ → Type 0
Way A p q = (d : Context) × (1 ≤ length d) × (run_context A d p ≡ q)

-- a state that comes back to itself on the way from a tree to q
record Loops (A : Automaton) (q : ℕ) : Type 0 where
  tree : Tree
  around : Way A (run A tree) (run A tree)
  out : (c : Context) × (run_context A c (run A tree) ≡ q)

loops-many : (A : Automaton) (q : ℕ) → Loops A q → FinitelyMany A q → ⊥
loops-many A q l (n, bound) =
    let t = l.tree in
    let (d, h, r) = l.around in
    let (c, e) = l.out in
    let T : Tree = plug c (plug (pow d (suc n)) t) in
    let same : run A T ≡ q = run-plug A c (plug (pow d (suc n)) t)
    ∙ ap (run_context A c) (run-plug A (pow d (suc n)) t ∙ pow-run A d (run A t) r (suc n)) ∙ e in
    omega (
      arith,
      bound T same,
      depth-plug c (plug (pow d (suc n)) t),
      depth-plug (pow d (suc n)) t,
      pow-length d h (suc n),
    )

module _ (A : Automaton) (ranged : states_in_range A ≡ true) (q : ℕ) where
  -- the states on the way down to a subtree, none twice, and the ways back up to them and to q
  record Path (t : Tree) (vs : List ℕ) : Type 0 where
    some : 1 ≤ run A t
    once : Distinct vs
    range : (v : ℕ) → v ∈ vs → IsState A v
    back : (v : ℕ) → v ∈ vs → Way A (run A t) v
    out : (c : Context) × (run_context A c (run A t) ≡ q)

  range-run : (t : Tree) → 1 ≤ run A t → IsState A (run A t)
  range-run t h = (h, run_fits A (ranged-fits A ranged) t)

  -- one node further down
  next : (F : Frame) (u : Tree) (vs : List ℕ) → Path (fill F u) vs → (run A (fill F u) ∈ vs → ⊥) →
      Path u (run A (fill F u) ∷ vs)
  next F u vs P new = record {
    some = positive (run A u) refl;
    once = (new, P.once);
    range = range;
    back = back;
    out = (F ∷ P.out.0, ap (run_context A P.out.0) (sym (run-fill A F u)) ∙ P.out.1);
  }
    where
      positive : (p : ℕ) → run A u ≡ p → 1 ≤ p
      positive zero e =
          absurd (omega (
            arith,
            P.some,
            run-fill A F u ∙ ap (step_frame A F) e ∙ step-zero A F.label (runs A F.before) (runs A F.after),
          ))
      positive (suc p) e = omega arith

      range : (v : ℕ) → v ∈ (run A (fill F u) ∷ vs) → IsState A v
      range v (inl e) = rw e (range-run (fill F u) P.some)
      range v (inr i) = P.range v i

      back : (v : ℕ) → v ∈ (run A (fill F u) ∷ vs) → Way A (run A u) v
      back v (inl e) = (F ∷ [], omega arith, sym (run-fill A F u) ∙ sym e)
      back v (inr i) = let (d, l, r) = P.back v i in
          (F ∷ d, omega arith, ap (run_context A d) (sym (run-fill A F u)) ∙ r)

  -- a new state is one of those that the automaton has
  room : (t : Tree) (vs : List ℕ) → Path t vs → (run A t ∈ vs → ⊥) → length vs < states A
  room t vs P new =
      omega (
        arith,
        distinct-length (run A t ∷ vs) (up_from 1 (states A)) (new, P.once) within,
        up_from-length 1 (states A),
      )
    where
      within : (v : ℕ) → v ∈ (run A t ∷ vs) → v ∈ up_from 1 (states A)
      within v (inl e) = rw e (in-states A (run A t) (range-run t P.some))
      within v (inr i) = in-states A v (P.range v i)

  long-loops : (n : ℕ) (t : Tree) (vs : List ℕ) → Path t vs → depth t ≤ n → states A < depth t + length vs →
      Loops A q
  long-loops zero (node a f) vs P l h = absurd (omega arith)
  long-loops (suc n) (node a f) vs P l h = go (long-loops n) (elem eqb (run A (node a f)) vs) refl
    where
      go : ((u : Tree) (us : List ℕ) → Path u us → depth u ≤ n → states A < depth u + length us → Loops A q) →
          (b : Bool) → elem eqb (run A (node a f)) vs ≡ b → Loops A q
      go ih true e = record {
        tree = node a f;
        around = P.back (run A (node a f)) (elem_in eqb eqb-true eqb_same (run A (node a f)) vs e);
        out = P.out;
      }
      go ih false e = down (deepest f (omega (arith, room (node a f) vs P new)))
        where
          new : run A (node a f) ∈ vs → ⊥
          new i = true≢false (sym (in-elem eqb eqb-true eqb_same (run A (node a f)) vs i) ∙ e)

          down : (b : Forest) × (u : Tree) × (c : Forest) × (f ≡ b ⧺ cons u c) × (depths f ≤ depth u) → Loops A q
          down (b, u, c, d, m) =
              let F : Frame = record { label = a; before = b; after = c } in
              let here = subst (λ (g : Forest). (run A (node a g) ∈ vs → ⊥) × Path (node a g) vs) d (new, P) in
              ih u (run A (fill F u) ∷ vs) (next F u vs here.1 here.0)
              (omega (arith, depths-here b u c, ap depths d)) (omega arith)

  -- no tree of a state that has finitely many is deeper than there are states
  pub depth-states : 1 ≤ q → FinitelyMany A q → (t : Tree) → run A t ≡ q → depth t ≤ states A
  depth-states s many t e = go (leb (depth t) (states A)) refl
    where
      start : Path t []
      start = record {
        some = omega arith;
        once = tt;
        range = λ v i. absurd i;
        back = λ v i. absurd i;
        out = ([], e);
      }

      go : (b : Bool) → leb (depth t) (states A) ≡ b → depth t ≤ states A
      go true h = leb-true (depth t) (states A) h
      go false h =
          absurd (loops-many A q
          (long-loops (depth t) t [] start (omega arith) (omega (arith, leb-false (depth t) (states A) h))) many)

-- every state of an automaton in which no state comes back has finitely many trees
pub acyclic-many : (A : Automaton) → states_in_range A ≡ true → acyclic A ≡ true → (q : ℕ) → 1 ≤ q → FinitelyMany A q
acyclic-many A ranged ac q s = (suc (rank A ranged q), λ t e. go t e (depth-rank A ranged ac t))
  where
    go : (t : Tree) → run A t ≡ q → (run A t ≡ 0) ⊎ (depth t ≤ suc (rank A ranged (run A t))) →
        depth t ≤ suc (rank A ranged q)
    go t e (inl z) = absurd (omega arith)
    go t e (inr l) = rw e at l

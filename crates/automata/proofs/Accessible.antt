-- A state is accessible exactly when some tree runs to it.
use mathlib.Core.Bool.{Bool, ◌&&◌, false, true}
use mathlib.Core.List.{List, [], ◌∷◌}
use mathlib.Core.Logic.{◌↔◌, ◌⊎◌, inl, inr}
use mathlib.Core.Path.{◌∙◌, ◌≡◌, refl, sym}
use Prim.Native.Nat.{◌≤◌, ℕ}
use native.Mathlib.Omega.{arith}
use lib.Dec.{eqb, leb}
use borrow.Author.Tests.{eqb-false, eqb-true, leb-true}
use Rattle.automata.specs.Accessible.{accessible, accessible_rule}
use Rattle.automata.specs.Automaton.{Automaton, Fits, Transition, run, runs, states, step}
use Rattle.automata.specs.Order.{rising}
use Rattle.lists.specs.Positions.{up_from}
use Rattle.lists.specs.Tests.{◌∈◌, any, every}
use Rattle.trees.specs.Tree.{Forest, Tree, cons, nil, node}
use Rattle.automata.proofs.Order.{lookup-transition}
use Rattle.automata.proofs.Steps.{Taken, step-view}
use Rattle.lists.proofs.Closure.{closed, closure-all}
use Rattle.lists.proofs.Positions.{in-up_from, up_from-in}
use Rattle.lists.proofs.Tests.{and_both, and_left, and_right, any-in, eqb_same, every_in, in-any, none-zero}
use Rattle.lists.proofs.Tests.{or-none-left, or-none-right}

-- a list of trees for a list of states, each of which has a tree
pub forest : (A : Automaton) (qs : List ℕ) → ((q : ℕ) → q ∈ qs → (t : Tree) × (run A t ≡ q)) →
    (f : Forest) × (runs A f ≡ qs)
forest A [] h = (nil, refl)
forest A (q ∷ qs) h =
    let t = h q (inl refl) in
    let f = forest A qs (λ p m. h p (inr m)) in
    (cons t.0 f.0, cc (t.1, f.1))

module _ (A : Automaton) (rises : rising A.transitions ≡ true) where
  -- some tree runs to the state, which is not 0
  abbrev HasTree : ℕ → Type 0
  HasTree q = (1 ≤ q) × ((t : Tree) × (run A t ≡ q))

  made : (m : ℕ → Bool) → ((j : ℕ) → m j ≡ true → HasTree j) → (k : ℕ) → k ∈ up_from 1 (states A) →
      accessible_rule A m k ≡ true → HasTree k
  made m ih k i e = go (any-in (λ τ. every m τ.args && eqb k τ.out) A.transitions e)
    where
      go : (τ : Transition) × (τ ∈ A.transitions) × ((every m τ.args && eqb k τ.out) ≡ true) → HasTree k
      go (τ, j, h) =
          let marked = every_in m τ.args (and_left _ _ h) in
          let f = forest A τ.args (λ q n. (ih q (marked q n)).1) in
          let o = eqb-true k τ.out (and_right (every m τ.args) _ h) in
          let z = none-zero τ.args (λ q n. (ih q (marked q n)).0) in (
            (up_from-in 1 (states A) k i).0,
            (
              node τ.label f.0,
              rw (f.1, z) (lookup-transition A.transitions rises τ j ∙ sym o),
            ),
          )

  pub accessible-tree : (q : ℕ) → accessible A q ≡ true → (t : Tree) × (run A t ≡ q)
  accessible-tree q e =
      (closure-all eqb eqb-true eqb_same (accessible_rule A) (up_from 1 (states A)) HasTree made q e).1

-- the other way: whatever a tree runs to is marked
module _ (A : Automaton) (fit : Fits A) where
  accessible-step : (a : ℕ) (qs : List ℕ) → (any (eqb 0) qs ≡ false → every (accessible A) qs ≡ true) →
      (step A a qs ≡ 0) ⊎ (accessible A (step A a qs) ≡ true)
  accessible-step a qs h = go (step-view A a qs) (eqb 0 (step A a qs)) refl
    where
      go : (step A a qs ≡ 0) ⊎ Taken A a qs → (b : Bool) → eqb 0 (step A a qs) ≡ b →
          (step A a qs ≡ 0) ⊎ (accessible A (step A a qs) ≡ true)
      go (inl z) b e = inl z
      go (inr u) true e = inl (sym (eqb-true 0 (step A a qs) e))
      go (inr (n, (τ, i, p, q, r))) false e =
          let ne = eqb-false 0 (step A a qs) e in
          let le = leb-true τ.out (states A) (every_in (λ τ. leb τ.out (states A)) A.transitions fit τ i) in
          inr (closed eqb eqb-true eqb_same (accessible_rule A) (up_from 1 (states A)) (step A a qs)
          (in-up_from 1 (states A) (step A a qs) (omega arith) (omega arith))
          (in-any (λ τ. every (accessible A) τ.args && eqb (step A a qs) τ.out) A.transitions τ i
          (rw (q, r) (and_both (h n) (eqb_same (step A a qs))))))

  mutual
    run-accessible : (t : Tree) → (run A t ≡ 0) ⊎ (accessible A (run A t) ≡ true)
    run-accessible (node a f) = accessible-step a (runs A f) (λ e. runs-accessible f e)

    runs-accessible : (f : Forest) → any (eqb 0) (runs A f) ≡ false → every (accessible A) (runs A f) ≡ true
    runs-accessible nil e = refl
    runs-accessible (cons t f) e =
        and_both (go (run-accessible t)) (runs-accessible f (or-none-right (eqb 0 (run A t)) _ e))
      where
        go : (run A t ≡ 0) ⊎ (accessible A (run A t) ≡ true) → accessible A (run A t) ≡ true
        go (inl z) =
            absurd (eqb-false 0 (run A t) (or-none-left (eqb 0 (run A t)) (any (eqb 0) (runs A f)) e) (sym z))
        go (inr m) = m

  pub tree-accessible : (q : ℕ) → 1 ≤ q → (t : Tree) → run A t ≡ q → accessible A q ≡ true
  tree-accessible q h t e = go (run-accessible t)
    where
      go : (run A t ≡ 0) ⊎ (accessible A (run A t) ≡ true) → accessible A q ≡ true
      go (inl z) = absurd (omega arith)
      go (inr m) = rw e at m

  -- 01, refusal 9: the mark means that some tree runs to the state
  pub accessible-iff : rising A.transitions ≡ true → (q : ℕ) → 1 ≤ q →
      (accessible A q ≡ true) ↔ ((t : Tree) × (run A t ≡ q))
  accessible-iff rises q h = (accessible-tree A rises q, λ r. tree-accessible q h r.0 r.1)

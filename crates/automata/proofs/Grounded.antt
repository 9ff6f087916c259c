-- Acyclic by marks: a state is grounded if every transition into it has only grounded arguments. Marks that
-- follow this rule cover all states exactly if no state comes back to itself (01, refusal 11).
use mathlib.Core.Bool.{Bool, false, not, true, true≢false}
use mathlib.Core.Path.{◌∙◌, ◌≡◌, ap, refl, sym}
use Prim.Native.Nat.{◌<◌, ◌≤◌, suc, zero, ℕ}
use native.Mathlib.Omega.{arith}
use borrow.Author.Tests.{not-true}
use Rattle.automata.specs.Acyclic.{Leads, acyclic, leads, more, once}
use Rattle.automata.specs.Automaton.{Automaton, Transition, states}
use Rattle.automata.specs.Valid.{states_in_range}
use Rattle.lists.specs.Positions.{up_from}
use Rattle.lists.specs.Tests.{◌∈◌, every}
use Rattle.automata.proofs.Bounded.{rank, rank_less}
use Rattle.automata.proofs.Leads.{leads-before, leads-iff}
use Rattle.automata.proofs.Valid.{ranged-transition}
use Rattle.lists.proofs.Intervals.{at_every, every-at}
use Rattle.lists.proofs.Tests.{every_in, in-every}

-- every argument of every transition into q passes the test
abbrev pub Grounded : Automaton → (ℕ → Bool) → ℕ → Type 0
Grounded A m q = (τ : Transition) → τ ∈ A.transitions → τ.out ≡ q → every m τ.args ≡ true

-- q does not come back to itself
abbrev pub returnless : Automaton → ℕ → Bool
returnless A q = not (leads A q q)

module _ (A : Automaton) (ranged : states_in_range A ≡ true) where
  returnless-no : (q : ℕ) → returnless A q ≡ true → Leads A q q → ⊥
  returnless-no q e l = true≢false (sym ((leads-iff A ranged q q).1 l) ∙ not-true (leads A q q) e)

  -- the last step of a way from q to q comes from an argument that has such a way too
  grounded-no : (q : ℕ) → Grounded A (returnless A) q → Leads A q q → ⊥
  grounded-no q g (once (τ, i, j, e)) =
      returnless-no q (every_in (returnless A) τ.args (g τ i e) q j) (once (τ, i, j, e))
  grounded-no q g (more {x = x} l (τ, i, j, e)) =
      returnless-no x (every_in (returnless A) τ.args (g τ i e) x j) (leads-before (τ, i, j, e) l)

  -- the rule carries this from arguments to output
  pub grounded-returnless : (q : ℕ) → Grounded A (returnless A) q → returnless A q ≡ true
  grounded-returnless q g = go (leads A q q) refl
    where
      go : (b : Bool) → leads A q q ≡ b → not b ≡ true
      go true e = absurd (grounded-no q g ((leads-iff A ranged q q).0 e))
      go false e = refl

  module _ (m : ℕ → Bool) (follows : (q : ℕ) → 1 ≤ q → q ≤ states A → Grounded A m q → m q ≡ true) where
    -- the rank of an argument is below that of the output
    pub acyclic-grounded : acyclic A ≡ true → (q : ℕ) → 1 ≤ q → q ≤ states A → m q ≡ true
    acyclic-grounded ac q h l = below (suc (rank A ranged q)) q h l (omega arith)
      where
        below : (d q : ℕ) → 1 ≤ q → q ≤ states A → rank A ranged q < d → m q ≡ true
        below zero q h l r = absurd (omega arith)
        below (suc d) q h l r = follows q h l (λ τ i e. in-every m τ.args (λ p j.
            let u = (ranged-transition A ranged τ i).args p j in
            let v = rank_less A ranged ac τ i p j in
            below d p u.0 u.1 (omega (arith, ap (rank A ranged) e))))

    -- marks that follow the rule, and stand only at states that do not come back to themselves
    pub grounded-acyclic : ((q : ℕ) → m q ≡ true → returnless A q ≡ true) → every m (up_from 1 (states A)) ≡ acyclic A
    unfolding acyclic
    grounded-acyclic sound = go (every m (up_from 1 (states A))) refl
      where
        all : (b : Bool) → acyclic A ≡ b → every m (up_from 1 (states A)) ≡ false → acyclic A ≡ false
        all true d e =
            absurd (true≢false (sym
            (at_every m 1 (states A) (λ q h l. acyclic-grounded d q h (omega arith))) ∙ e))
        all false d e = d

        go : (b : Bool) → every m (up_from 1 (states A)) ≡ b → every m (up_from 1 (states A)) ≡ acyclic A
        go true e =
            e ∙ sym (at_every (returnless A) 1 (states A) (λ q h l. sound q (every-at m 1 (states A) e q h l)))
        go false e = e ∙ sym (all (acyclic A) refl e)

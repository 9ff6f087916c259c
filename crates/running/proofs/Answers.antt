-- What a run answers for a tree.
use mathlib.Core.Bool.{Bool, cond, false, true}
use mathlib.Core.Path.{◌∙◌, ◌≡◌, ap, refl, sym}
use Prim.Native.Nat.{ℕ}
use native.Mathlib.Omega.{arith}
use lib.Dec.{eqb}
use borrow.Author.Tests.{eq-eqb, eqb-true, ne_eqb}
use Rattle.running.specs.Running.{ran_state, ran_to}
use Rattle.running.specs.declared.Ran.{Ran}
use Rattle.running.specs.declared.Ran.TheVariants.{Nothing, State}

pub ran_to_lem : (q : ℕ) → ran_state (ran_to q) ≡ q
unfolding ran_to
ran_to_lem q = go (eqb q 0) refl
  where
    go : (b : Bool) → eqb q 0 ≡ b → ran_state (cond b Nothing (State q)) ≡ q
    go true d = sym (eqb-true q 0 d)
    go false d = refl

pub nothing-ran : (q : ℕ) → q ≡ 0 → Nothing ≡ ran_to q
unfolding ran_to
nothing-ran q e = rw (eq-eqb q 0 e)

pub state-ran : (q : ℕ) → (q ≡ 0 → ⊥) → State q ≡ ran_to q
unfolding ran_to
state-ran q h = rw (ne_eqb q 0 h)

-- ---- from the answer for a tree to the state that it runs to

module _ {r : Ran} (p : ℕ) (h : r ≡ ran_to p) where
  pub ran-byte : {b : ℕ} → b ≡ ran_state r → b ≡ p
  ran-byte e = e ∙ ap ran_state h ∙ ran_to_lem p

  pub ran-none : r ≡ Nothing → 0 ≡ p
  ran-none e = ran-byte (sym (ap ran_state e))

  module _ {q : ℕ} (e : r ≡ State q) where
    pub ran-state : q ≡ p
    ran-state = ran-byte (sym (ap ran_state e))

    pub ran-some : q ≡ 0 → ⊥
    ran-some z =
        let none : Nothing ≡ State q = nothing-ran p (sym ran-state ∙ z) ∙ sym h ∙ e in
        let n : ◌≡◌ {A = ℕ} 0 1 = cc in
        absurd (omega arith)

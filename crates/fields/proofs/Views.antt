-- The automaton that code sees in a run and its classes: its states, its classes, and the range of its transitions.
use mathlib.Core.Bool.{Bool, ◌&&◌, false, false≢true, true, true≢false}
use mathlib.Core.List.{List, []}
use mathlib.Core.Path.{◌∙◌, ◌≡◌, ap, refl, sym}
use Prim.Native.Nat.{◌*◌, ◌+◌, ◌<◌, ◌≤◌, suc, zero, ℕ}
use native.Mathlib.Omega.{arith}
use lib.Dec.{leb}
use borrow.Author.Tests.{leb-false, leb-true}
use Rattle.automata.specs.Automaton.{Automaton, Transition, accepting, states}
use Rattle.automata.specs.Valid.{in_range, states_in_range}
use Rattle.fields.specs.Fields.{HoldsTransitionsOver}
use Rattle.fields.specs.View.{viewed}
use Rattle.format.specs.Format.{transition_bytes}
use Rattle.lists.specs.Tests.{◌∈◌, every}
use Rattle.table.specs.Layout.{arg_of, arity_of, class_at, nth_transition, out_of, transitions_in}
use Rattle.automata.proofs.Valid.{range-in}
use Rattle.fields.proofs.Transitions.{in-args}
use Rattle.lists.proofs.Intervals.{get_d-tabulated, length-tabulated}
use Rattle.lists.proofs.Tests.{and_both, in-every}
use Rattle.table.proofs.Limits.{accepting-beyond}
use Rattle.table.proofs.Decoded.{transitions_in-in}

module _ (cl s : List ℕ) (n c : ℕ) where
  pub viewed-states : states (viewed cl s n c) ≡ n
  viewed-states = length-tabulated (class_at cl) 1 n

  -- transitions have no part in it
  pub viewed-classes : (q : ℕ) → accepting (viewed cl [] n 0) q ≡ accepting (viewed cl s n c) q
  viewed-classes zero = refl
  viewed-classes (suc q) = refl

  pub viewed-class : (q : ℕ) → 1 ≤ q → q ≤ n → accepting (viewed cl s n c) q ≡ class_at cl q
  viewed-class zero h l = absurd (omega arith)
  viewed-class (suc q) h l = let e : 1 + q ≡ suc q = omega arith in
      get_d-tabulated (class_at cl) 1 n q false (omega arith) ∙ ap (class_at cl) e

  pub viewed-beyond : (q : ℕ) → n < q → accepting (viewed cl s n c) q ≡ false
  viewed-beyond q h = accepting-beyond (viewed cl s n c) q (omega (arith, viewed-states))

  pub viewed-accepting : (q : ℕ) → accepting (viewed cl s n c) q ≡ true → (1 ≤ q) × (q ≤ n)
  viewed-accepting zero e = absurd (false≢true e)
  viewed-accepting (suc q) e = (omega arith, go (leb (suc q) n) refl)
    where
      go : (b : Bool) → leb (suc q) n ≡ b → suc q ≤ n
      go true d = leb-true (suc q) n d
      go false d = absurd (true≢false (sym e ∙ viewed-beyond (suc q) (leb-false (suc q) n d)))

  module _ (over : HoldsTransitionsOver s c n) where
    pub viewed-arg : (i : ℕ) → i < c → (q : ℕ) → q ∈ (nth_transition s i).args → (1 ≤ q) × (q ≤ n)
    viewed-arg i h q j = go (in-args s (transition_bytes * i) q j)
      where
        go : (k : ℕ) × (k < arity_of s (transition_bytes * i)) × (q ≡ arg_of s (transition_bytes * i) k) →
            (1 ≤ q) × (q ≤ n)
        go (k, l, e) = (omega (arith, over.arg-some i k h l), omega (arith, over.arg-state i k h l))

    pub viewed-ranged : states_in_range (viewed cl s n c) ≡ true
    viewed-ranged =
        in-every (λ τ. every (in_range (states A)) τ.args && in_range (states A) τ.out) (transitions_in s c)
        (λ τ m. good τ (transitions_in-in s c τ m))
      where
        A : Automaton
        A = viewed cl s n c

        good : (τ : Transition) → (i : ℕ) × (i < c) × (τ ≡ nth_transition s i) →
            (every (in_range (states A)) τ.args && in_range (states A) τ.out) ≡ true
        good τ (i, h, e) = rw (viewed-states, e)
            (and_both (in-every (in_range n) (nth_transition s i).args
            (λ q j. let r = viewed-arg i h q j in range-in n q r.0 r.1))
            (range-in n (out_of s (transition_bytes * i)) (over.out_some i h) (over.out-state i h)))

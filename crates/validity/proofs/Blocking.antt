-- The states that are blocked for grounding: one transition more, and what is not blocked.
use Rattle.std.proofs.Common.{◌≡◌, ℕ, ◌+◌, ◌*◌, ◌<◌, Bool, true, false, eqb, ◌⊎◌, List, set, replicate, sym, refl, ap, ◌∙◌, subst, inl, inr, true≢false, arith, length-set, eqb-true}
use mathlib.Core.Bool.{false≢true}
use lib.ListN.{length-replicate}
use borrow.Author.Tests.{eqb-false}
use Rattle.format.specs.Format.{byte_values, transition_bytes}
use Rattle.marking.specs.Marks.{marked}
use Rattle.table.specs.Layout.{nth_transition, out_of}
use Rattle.validity.specs.Rules.{Blocks, Clear, Ground, Unblocked, args_pass}
use Rattle.marking.specs.Spread.{Spread, UpTo}
use Rattle.marking.proofs.Sweeps.{marked-here, marked-set, set-marked}
use Rattle.marking.proofs.Spreading.{spread-if, unmarked}
use Rattle.validity.proofs.Sweeping.{every-implied}

module _ (s m : List ℕ) where
  pub blocks-none : Blocks s m 0 (replicate byte_values 0)
  blocks-none = record {
    size = length-replicate {A = ℕ} byte_values 0;
    clear = λ q e i h. absurd (omega arith);
    held = λ q e f. absurd (false≢true (sym (unmarked byte_values q) ∙ e));
  }

  module _ (i : ℕ) (b : List ℕ) (blocks : Blocks s m i b) where
    -- a transition whose arguments are all marked blocks nothing
    pub blocks-skip : args_pass s (marked m) i ≡ true → Blocks s m (i + 1) b
    blocks-skip e = record {
      size = blocks.size;
      clear = λ q f j h o. go q f j h o (eqb j i) refl;
      held = λ q f g. blocks.held q f (λ j h o. g j (omega arith) o);
    }
      where
        go : (q : ℕ) → marked b q ≡ false → (j : ℕ) → j < i + 1 → out_of s (transition_bytes * j) ≡ q → (t : Bool) →
            eqb j i ≡ t → args_pass s (marked m) j ≡ true
        go q f j h o true d = rw (eqb-true j i d) e
        go q f j h o false d = let ne = eqb-false j i d in blocks.clear q f j (omega arith) o

    -- else it blocks its output
    pub blocks_more : out_of s (transition_bytes * i) < byte_values → args_pass s (marked m) i ≡ false →
        Blocks s m (i + 1) (set b (out_of s (transition_bytes * i)) 1)
    blocks_more l e = record {
      size = length-set b out 1 ∙ blocks.size;
      clear = λ q f j h o. go q f j h o (eqb j i) refl;
      held = λ q f g. new q g (marked-set b out q f);
    }
      where
        out : ℕ
        out = out_of s (transition_bytes * i)

        go : (q : ℕ) → marked (set b out 1) q ≡ false → (j : ℕ) → j < i + 1 → out_of s (transition_bytes * j) ≡ q →
            (t : Bool) → eqb j i ≡ t → args_pass s (marked m) j ≡ true
        go q f j h o true d =
            let here : out ≡ q = ap (λ k. out_of s (transition_bytes * k)) (sym (eqb-true j i d)) ∙ o in
            absurd (true≢false (sym (marked-here b out (omega (arith, blocks.size)))
            ∙ subst (λ (k : ℕ). marked (set b out 1) k ≡ false) (sym here) f))
        go q f j h o false d = let ne = eqb-false j i d in
            blocks.clear q (unset q f (marked b q) refl) j (omega arith) o
          where
            unset : (q : ℕ) → marked (set b out 1) q ≡ false → (t : Bool) → marked b q ≡ t → marked b q ≡ false
            unset q f true u =
                absurd (true≢false (sym (set-marked b out q (omega (arith, blocks.size)) u) ∙ f))
            unset q f false u = u

        new : (q : ℕ) → Clear s (i + 1) (marked m) q → (q ≡ out) ⊎ (marked b q ≡ true) → ⊥
        new q g (inl d) = true≢false (sym (g i (omega arith) (sym d)) ∙ e)
        new q g (inr d) = blocks.held q d (λ j h o. g j (omega arith) o)

-- a state that is not blocked has only transitions whose arguments are all marked
pub spread-ground : (s : List ℕ) (c n : ℕ) {m b m' : List ℕ} {r : Bool} → Blocks s m c b →
    Spread (UpTo (Unblocked b) n) m m' r → Spread (UpTo (Ground s c) n) m m' r
spread-ground s c n {m} {b} blocks t =
    spread-if (λ p w d k h e. d k h (λ i l o.
    every-implied (marked m) p (nth_transition s i).args w (blocks.clear (k + 1) e i l o)))
    (λ u k h f. go k (λ e. u k h e) f (marked b (k + 1)) refl) t
  where
    go : (k : ℕ) → (marked b (k + 1) ≡ false → marked m (k + 1) ≡ true) → Clear s c (marked m) (k + 1) → (t : Bool) →
        marked b (k + 1) ≡ t → marked m (k + 1) ≡ true
    go k u f true e = absurd (blocks.held (k + 1) e f)
    go k u f false e = u e

-- The pass over packed transitions: what reading one of them gives.
use mathlib.Core.Bool.{Bool, false, false≢true, true}
use mathlib.Core.List.{List, [], ◌++◌, ◌∷◌}
use mathlib.Core.Logic.{◌≢◌}
use mathlib.Core.Path.{◌∙◌, ◌≡◌, refl}
use Prim.Native.Nat.{◌+◌, ◌-◌, ◌<◌, ◌≤◌, suc, ℕ}
use native.Mathlib.Omega.{arith}
use lib.Dec.{eqb, leb}
use lib.ListN.{get_or, length, length-set, replicate, set}
use lib.Seq.{get_or-set_other, get_or-set_same}
use borrow.Author.Tests.{eqb-false, eqb-true, leb-false, leb-true}
use Rattle.automata.specs.Automaton.{Transition}
use Rattle.automata.specs.Numbered.{Passed, top}
use Rattle.format.specs.Format.{byte_values}
use Rattle.lists.specs.Positions.{up_from}
use Rattle.lists.specs.Tests.{every}
use Rattle.marking.specs.Marks.{marked}
use Rattle.validity.specs.Rules.{Spans}
use Rattle.packed.specs.Heads.{nth_packed, packed_in}
use Rattle.numbering.specs.Steps.{AllSeen, Read, Ruled}
use Rattle.automata.proofs.NumberedPass.{passed-low, passed-next, passed_none, passed-seen}
use Rattle.lists.proofs.Intervals.{every-at}
use Rattle.marking.proofs.Spreading.{unmarked}
use Rattle.marking.proofs.Sweeps.{nonzero-true}
use Rattle.validity.proofs.Passing.{spans-next}
use Rattle.numbering.proofs.Entries.{packed_in-suc}

pub pass-start : (hs us : List ℕ) → Passed (packed_in hs us 0) (marked (replicate byte_values 0))
unfolding packed_in
pass-start hs us = passed_none (marked (replicate byte_values 0)) (unmarked byte_values)

pub pass-end : (hs us : List ℕ) (n : ℕ) (seen : List ℕ) → Passed (packed_in hs us n) (marked seen) → (m : ℕ) →
    AllSeen seen m → Ruled hs us n m
pass-end hs us n seen passed m all k h = passed-seen passed k (all (suc k) (omega arith) (omega arith))

module _ (hs us : List ℕ) (i : ℕ) (m : List ℕ) (passed : Passed (packed_in hs us i) (marked m)) where
  abbrev τ : Transition
  τ = nth_packed hs us i

  -- the output and all states below it have been seen
  pub pass_below : (low : ℕ) → AllSeen m low → τ.out ≤ low → Passed (packed_in hs us (i + 1)) (marked m)
  pass_below low all h = rw (packed_in-suc hs us i) (go (leb τ.out (top τ.args)) refl)
    where
      go : (b : Bool) → leb τ.out (top τ.args) ≡ b → Passed (packed_in hs us i ++ (τ ∷ [])) (marked m)
      go true e = passed-low passed τ (leb-true τ.out (top τ.args) e)
      go false e =
          let l = leb-false τ.out (top τ.args) e in
          passed-next passed τ (marked m) l (λ j a b. all j (omega arith) (omega arith))
          (all τ.out (omega arith) h) (λ j n. refl)

  module _ (size : length m ≡ byte_values) (spans : Spans m) where
    -- some state between has not been seen
    pub read-broken : Read hs us i m m false
    read-broken = record { size = size; kept = λ q e. e; spans = spans; passed = λ e. absurd (false≢true e) }

    -- a transition that gives no number
    pub read_low : τ.out ≤ top τ.args → Read hs us i m m true
    read_low h = record {
      size = size;
      kept = λ q e. e;
      spans = spans;
      passed = λ _. rw (packed_in-suc hs us i) (passed-low passed τ h);
    }

    -- its output has been seen, and so have all states between
    pub read_known : top τ.args < τ.out → 1 ≤ get_or m τ.out 0 → get_or m τ.out 0 ≤ top τ.args + 1 →
        Read hs us i m m true
    read_known h l k = record {
      size = size;
      kept = λ q e. e;
      spans = spans;
      passed = λ _. rw (packed_in-suc hs us i)
          (passed-next passed τ (marked m) h (λ j a b. spans.each τ.out j seen (omega arith) (omega arith)) seen
          (λ j n. refl));
    }
      where
        seen : marked m τ.out ≡ true
        seen = nonzero-true (get_or m τ.out 0) (λ z. absurd (omega (arith, z, l)))

    -- its output is new, and all states between have been seen
    pub read_next : top τ.args < τ.out → τ.out < byte_values →
        every (marked m) (up_from (top τ.args + 1) (τ.out - (top τ.args + 1))) ≡ true →
        Read hs us i m (set m τ.out (top τ.args + 1)) true
    read_next h l e = record {
      size = length-set m τ.out (top τ.args + 1) ∙ size;
      kept = λ q d. still q d (eqb q τ.out) refl;
      spans = spans-next m (top τ.args) τ.out size l h e spans;
      passed = λ _. rw (packed_in-suc hs us i)
          (passed-next passed τ (marked (set m τ.out (top τ.args + 1))) h
          (λ j a b. every-at (marked m) (top τ.args + 1) (τ.out - (top τ.args + 1)) e j
          (omega arith) (omega arith)) here there);
    }
      where
        here : marked (set m τ.out (top τ.args + 1)) τ.out ≡ true
        here = rw (get_or-set_same m τ.out (top τ.args + 1) 0 (omega arith))
            (nonzero-true (top τ.args + 1) (λ z. omega arith))

        there : (j : ℕ) → j ≢ τ.out → marked (set m τ.out (top τ.args + 1)) j ≡ marked m j
        there j n = rw (get_or-set_other m τ.out j (top τ.args + 1) 0 n)

        still : (q : ℕ) → marked m q ≡ true → (b : Bool) → eqb q τ.out ≡ b →
            marked (set m τ.out (top τ.args + 1)) q ≡ true
        still q d true z = rw (eqb-true q τ.out z) here
        still q d false z = there q (eqb-false q τ.out z) ∙ d

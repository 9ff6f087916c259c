-- A use that is passed agrees: it is one of a pair, or it is covered.
use mathlib.Core.Bool.{Bool, false, true}
use mathlib.Core.List.{List}
use mathlib.Core.Path.{◌≡◌, refl, subst, sym}
use Prim.Native.Nat.{◌*◌, ◌+◌, ◌<◌, ℕ}
use native.Mathlib.Omega.{arith}
use lib.Dec.{eqb}
use borrow.Author.Tests.{eqb-false, eqb-true}
use Rattle.format.specs.Format.{transition_bytes}
use Rattle.lists.proofs.Tests.{or_right}
use Rattle.sorted.specs.Steps.{step_at}
use Rattle.table.specs.Layout.{arg_of, out_of}
use Rattle.uses.specs.Uses.{Arrays, covered_at, swap_agrees}
use Rattle.uses.specs.Walks.{AtUse, Met, Paired, Stepped}
use Rattle.uses.proofs.Scanned.{swap-same}
use Rattle.uses.proofs.Walks.{use-place}
use Rattle.uses.proofs.walking.step.Goals as goal

met_next : {a : Arrays} {s : List ℕ} {c k p q i : ℕ} → Met a s c k p q i →
    swap_agrees a s c (transition_bytes * i) k q ≡ true → Met a s c k p q (i + 1)
met_next {a} {s} {c} {k} {p} {q} {i} met agrees = record { each = λ y h e. go y h e (eqb y i) refl }
  where
    go : (y : ℕ) → y < i + 1 → arg_of s (transition_bytes * y) k ≡ p → (b : Bool) → eqb y i ≡ b →
        swap_agrees a s c (transition_bytes * y) k q ≡ true
    go y h e true z =
        subst (λ (x : ℕ). swap_agrees a s c (transition_bytes * x) k q ≡ true) (sym (eqb-true y i z)) agrees
    go y h e false z = let n = eqb-false y i z in met.each y (omega arith) e

covered-agrees : (a : Arrays) (s : List ℕ) (c at k q : ℕ) → covered_at a s at k ≡ true → swap_agrees a s c at k q ≡ true
unfolding swap_agrees
covered-agrees a s c at k q e = or_right (eqb (step_at s c at k q) (out_of s at)) (covered_at a s at k) e

module _ {a : Arrays} {s : List ℕ} {c k p q to i x : ℕ} where
  step-pair : Paired s c k p q to i x → Stepped a s c k p q to i x (i + 1, x + 1)
  step-pair pair = record {
    first-inside = omega (arith, pair.first-inside);
    second-inside = omega (arith, pair.second-inside);
    further = omega arith;
    walked = λ w. record {
      first = met_next w.first (sym (swap-same a s c (transition_bytes * i) k q refl refl pair.first));
      second = met_next w.second (sym (swap-same a s c (transition_bytes * x) k p refl refl pair.second));
    };
  }

  step-first : AtUse s k q to x → i < to → covered_at a s (transition_bytes * i) k ≡ true →
      Stepped a s c k p q to i x (i + 1, x)
  step-first v h covered = record {
    first-inside = omega arith;
    second-inside = v.inside;
    further = omega arith;
    walked = λ w. record {
      first = met_next w.first (covered-agrees a s c (transition_bytes * i) k q covered);
      second = w.second;
    };
  }

  step-second : AtUse s k p to i → x < to → covered_at a s (transition_bytes * x) k ≡ true →
      Stepped a s c k p q to i x (i, x + 1)
  step-second u h covered = record {
    first-inside = u.inside;
    second-inside = omega arith;
    further = omega arith;
    walked = λ w. record {
      first = w.first;
      second = met_next w.second (covered-agrees a s c (transition_bytes * x) k p covered);
    };
  }

pub returns-then-pair_agrees : goal.returns-then-pair_agrees
returns-then-pair_agrees c = step-pair (c.pair_agrees.ensures c.if-pair_agrees.true)

pub use_covered-requires : goal.use_covered-requires
use_covered-requires c = record {
  framed = c.requires.framed;
  to_le_count = c.requires.walkable.inside;
  k_bound = λ h. use-place c.args.setting.now.transitions.now (transition_bytes * c.args.i) c.args.k c.args.p
      (c.requires.walkable.searchable.padded.each c.args.i (omega (arith, c.requires.walkable.inside))) c.requires.walkable.place c.requires.walkable.first_some
      (c.requires.at_use.here h);
}

pub returns-then-use_covered : goal.returns-then-use_covered
returns-then-use_covered c =
    step-first c.requires.at_use_2 (c.use_covered.ensures.i_lt_to c.if-use_covered.true) (c.use_covered.ensures.k_value c.if-use_covered.true)

pub use_covered-requires-2 : goal.use_covered-requires-2
use_covered-requires-2 c = record {
  framed = c.requires.framed;
  to_le_count = c.requires.walkable.inside;
  k_bound = λ h. use-place c.args.setting.now.transitions.now (transition_bytes * c.args.x) c.args.k c.args.q
      (c.requires.walkable.searchable.padded.each c.args.x (omega (arith, c.requires.walkable.inside))) c.requires.walkable.place c.requires.walkable.second-some
      (c.requires.at_use_2.here h);
}

pub returns-then-use_covered-2 : goal.returns-then-use_covered-2
returns-then-use_covered-2 c =
    step-second c.requires.at_use (c.use_covered-2.ensures.i_lt_to c.if-use_covered-2.true) (c.use_covered-2.ensures.k_value c.if-use_covered-2.true)

-- Transitions with no choice or one. If some argument before place k has no name, there is no entry. If each has one
-- name, the entries are those from place k on.
use mathlib.Core.Bool.{Bool, ◌&&◌, ◌||◌, false, false≢true, true}
use mathlib.Core.List.{List, [], ◌++◌, ◌∷◌, append-nil}
use mathlib.Core.Logic.{◌⊎◌, inl, inr}
use mathlib.Core.Path.{◌∙◌, ◌≡◌, ap, refl, sym}
use Prim.Native.Nat.{◌*◌, ◌+◌, ◌-◌, ◌<◌, ◌^◌, ◌≤◌, ℕ}
use native.Mathlib.Omega.{arith}
use borrow.Author.Tests.{eqb-false, eqb-true}
use lib.Dec.{eqb, ltb}
use Rattle.format.specs.Format.{byte_values}
use Rattle.automata.specs.Product.{concat_map}
use Rattle.lists.specs.Positions.{Pair}
use Rattle.lists.specs.Tests.{◌∈◌}
use Rattle.pairs.specs.Counts.{entry}
use Rattle.table.specs.Layout.{arg_of, arity_of}
use Rattle.lists.proofs.Intervals.{in-tabulated}
use Rattle.lists.proofs.Tests.{and_left, and_right, or_cases, or-none-left, or-none-right}
use Rattle.quotient.specs.Kept.{names_of}
use Rattle.quotient.specs.Making.{args_from, chosen_from, walk, with_name}
use Rattle.quotient.specs.Named.{choices_at, choices_from, finished_in}
use Rattle.quotient.specs.declared.named.Names.{Names}
use Rattle.quotient.proofs.Chains.{chain-end}
use Rattle.quotient.proofs.Concatenation.{concat_map-none}
use Rattle.quotient.proofs.Padding.{digit-below}
use Rattle.quotient.proofs.Walking.{chosen-end, chosen-first, chosen_last, chosen-next}

-- a state without a name leaves no choice
walk_none : (K : ℕ → List ℕ) (n : ℕ) (f : Bool → ℕ → List Pair) (qs : List ℕ) (q : ℕ) → q ∈ qs → K q ≡ [] →
    (own : Bool) (prefix : ℕ) → walk K n f qs own prefix ≡ []
walk_none K n f [] q x'' z own prefix = elim x'' [ ]
walk_none K n f (p ∷ qs) q (inl e) z own prefix =
    ap (concat_map (λ x. walk K n f qs (own && ltb n x) (with_name prefix x))) (ap K (sym e) ∙ z)
walk_none K n f (p ∷ qs) q (inr i) z own prefix =
    concat_map-none (λ x. walk K n f qs (own && ltb n x) (with_name prefix x)) (K p)
    (λ x. walk_none K n f qs q i z (own && ltb n x) (with_name prefix x))

module _ (g : Names) (s : List ℕ) (at : ℕ) where
  -- the first names of the places before k; if one of them is missing there is no choice, and if each is the only one,
  -- all choices are those after them
  pub record FirstNames (none only own : Bool) (prefix k : ℕ) : Type 0 where
    pub within : k ≤ arity_of s at
    pub below : prefix < 2 ^ (8 * k)
    pub empty : none ≡ true → choices_at g s at ≡ []
    pub one : none ≡ false → only ≡ true → choices_at g s at ≡
        choices_from g s at k own prefix

  pub firsts-start : FirstNames false true true 0 0
  firsts-start = record {
    within = omega arith;
    below = omega arith;
    empty = λ t. absurd (false≢true t);
    one = λ _ _. refl;
  }

  -- a place without a name
  choose-none : (k x : ℕ) → k < arity_of s at →
      x ≡ entry g.kept.now.firsts (arg_of s at k) → x ≡ 0 → choices_at g s at ≡ []
  unfolding chosen_from
  choose-none k x h e z =
      walk_none (names_of g.kept.now.firsts g.kept.now.nexts) g.named.now.n (finished_in g s at) (args_from s at 0)
      (arg_of s at k)
      (in-tabulated (arg_of s at) 0 (arity_of s at - 0) k (omega arith) (omega arith))
      (chain-end g.kept.now.nexts g.rises (entry g.kept.now.firsts (arg_of s at k)) (sym e ∙ z)) true 0

  -- a place with one name
  choose_one : (own : Bool) (prefix k x : ℕ) → k < arity_of s at →
      x ≡ entry g.kept.now.firsts (arg_of s at k) → 1 ≤ x → entry g.kept.now.nexts x ≡ 0 →
      choices_from g s at k own prefix ≡
      choices_from g s at (k + 1) (own && ltb g.named.now.n x) (with_name prefix x)
  choose_one own prefix k x h e i z =
      let after = choices_from g s at (k + 1) (own && ltb g.named.now.n x) (with_name prefix x) in
      sym (chosen-first g s at k own prefix x h e)
      ∙ chosen-next g s at k own prefix x (entry g.kept.now.nexts x) i refl
      ∙ ap (λ (l : List Pair). after ++ l)
      (chosen-end g s at k own prefix (entry g.kept.now.nexts x) z)
      ∙ append-nil after

  pub firsts-next : {none only own : Bool} {prefix k : ℕ} (x : ℕ) → FirstNames none only own prefix k →
      k < arity_of s at → x ≡ entry g.kept.now.firsts (arg_of s at k) → x < byte_values →
      FirstNames (none || eqb x 0) (only && eqb (entry g.kept.now.nexts x) 0) (own && ltb g.named.now.n x)
      (with_name prefix x) (k + 1)
  firsts-next {none} {only} {own} {prefix} {k} x F h e l = record {
    within = omega arith;
    below = digit-below k prefix x F.below l;
    empty = λ t. no-choice (or_cases none (eqb x 0) t);
    one = λ z t. F.one (or-none-left none (eqb x 0) z) (and_left only (eqb (entry g.kept.now.nexts x) 0) t)
        ∙ choose_one own prefix k x h e
        (omega (arith, eqb-false x 0 (or-none-right none (eqb x 0) z)))
        (eqb-true (entry g.kept.now.nexts x) 0 (and_right only (eqb (entry g.kept.now.nexts x) 0) t));
  }
    where
      no-choice : (none ≡ true) ⊎ (eqb x 0 ≡ true) →
          choices_at g s at ≡ []
      no-choice (inl t) = F.empty t
      no-choice (inr t) = choose-none k x h e (eqb-true x 0 t)

  -- at the end there is no entry or one
  pub firsts-end : {none only own : Bool} {prefix k : ℕ} → FirstNames none only own prefix k → k ≡ arity_of s at →
      (prefix < 2 ^ (8 * arity_of s at)) ×
      ((none ≡ true → choices_at g s at ≡ []) ×
      (none ≡ false → only ≡ true → choices_at g s at ≡ finished_in g s at own prefix))
  firsts-end {none} {only} {own} {prefix} {k} F e = (
    rw e at F.below,
    (
      F.empty,
      λ z t. F.one z t
          ∙ chosen_last g s at k own prefix e,
    ),
  )

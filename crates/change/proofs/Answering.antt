-- The answer from the two counts: refusal 16, refusal 17 or done.
use mathlib.Core.Bool.{Bool, ◌||◌, cond, false, true}
use mathlib.Core.List.{List}
use mathlib.Core.Logic.{◌⊎◌, inl, inr}
use mathlib.Core.Path.{◌∙◌, ◌≡◌, ap, ap₂, refl, subst, sym}
use Prim.Native.Nat.{◌≤◌, ℕ}
use native.Mathlib.Omega.{arith}
use lib.Dec.{eqb, leb}
use lib.ListN.{length, replicate}
use borrow.Author.Tests.{eq-eqb, le-leb}
use Rattle.automata.specs.Automaton.{Automaton}
use Rattle.automata.specs.Change.{product_transitions}
use Rattle.automata.specs.NamedChange.{changed_automaton}
use Rattle.calls.specs.Calls.{Change, changed, changed_tree, outcome}
use Rattle.calls.specs.declared.Answer.{Answer}
use Rattle.calls.specs.declared.Answer.TheVariants.{Done, Refused}
use Rattle.change.specs.Changing.{Worked, change_of, changed_outcome, result_of, size_refusal}
use Rattle.format.specs.Format.{max_product}
use Rattle.pairs.specs.Counts.{PairsCounted}
use Rattle.table.specs.Intake.{fits_table}
use Rattle.table.specs.Layout.{decode, encode, state_count, transition_count}
use Rattle.trees.specs.Tree.{Tree}
use Rattle.change.proofs.Sizes.{changed-automaton}
use Rattle.lists.proofs.Tests.{or_right}
use Rattle.table.proofs.Bytes.{encode-count, encode-states}

-- the product has at most as many transitions as condition 16 allows
pub counted-few : {A : Automaton} {t : Tree} {f : Bool} {o w : List ℕ} → PairsCounted A t f o w → f ≡ true →
    PairsCounted A t true o w
counted-few {A} {t} {f} {o} {w} P e = subst (λ (x : Bool). PairsCounted A t x o w) e P

pub change-tree : (inserting : Bool) (t : Tree) → changed_tree (change_of inserting t) ≡ t
change-tree true t = refl
change-tree false t = refl

module _ (inserting : Bool) (t : Tree) (b : List ℕ) where
  abbrev c : Change
  c = change_of inserting t

  -- ---- 16

  pub worked-16 : {f : Bool} {o w : List ℕ} → PairsCounted (decode b) t f o w → f ≡ false → Worked (change_of inserting t) b b (Refused 16)
  unfolding size_refusal
  worked-16 P e =
      let d : leb (product_transitions (decode b) (changed_tree c)) max_product ≡ false =
      rw (change-tree inserting t) (sym P.fits ∙ e) in
      let z : size_refusal c (decode b) ≡ 16 = rw d in
      record { answer = rw z; table = rw z }

  -- ---- 17 and done

  module _ {o w : List ℕ} (P : PairsCounted (decode b) t true o w) where
    size-made : {g : Bool} → g ≡ fits_table (changed_automaton inserting t (decode b)) →
        size_refusal (change_of inserting t) (decode b) ≡ cond g 0 17
    unfolding size_refusal
    size-made e =
        let d : leb (product_transitions (decode b) (changed_tree c)) max_product ≡ true =
        rw (change-tree inserting t) (sym P.fits) in
        rw (d, sym (e ∙ ap fits_table (changed-automaton inserting t (decode b))))

    pub worked-17 : {g : Bool} → g ≡ fits_table (changed_automaton inserting t (decode b)) → g ≡ false →
        Worked (change_of inserting t) b b (Refused 17)
    worked-17 e h = let z = size-made (sym h ∙ e) in record { answer = rw z; table = rw z }

    pub worked-done : {g : Bool} → g ≡ fits_table (changed_automaton inserting t (decode b)) → g ≡ true →
        {b' : List ℕ} → b' ≡ encode (changed_automaton inserting t (decode b)) → {r : Answer} →
        r ≡ Done (state_count b') (transition_count b') → Worked (change_of inserting t) b b' r
    worked-done e h {b'} d {r} a =
        let z = size-made (sym h ∙ e) in
        let B = changed c (decode b) in
        let new : b' ≡ encode B = d ∙ ap encode (changed-automaton inserting t (decode b)) in
        record {
          answer = rw z
              (a ∙ ap₂ Done (ap state_count new ∙ encode-states B) (ap transition_count new ∙ encode-count B));
          table = rw z new;
        }

-- ---- the scratch

-- no refusal but 16 and 17 is left
size-late : (c : Change) (A : Automaton) → (size_refusal c A ≡ 0) ⊎ (16 ≤ size_refusal c A)
unfolding size_refusal
size-late c A = go (leb (product_transitions A (changed_tree c)) max_product) (fits_table (changed c A))
  where
    go : (f g : Bool) → (◌≡◌ {A = ℕ} (cond f (cond g 0 17) 16) 0) ⊎ (16 ≤ cond f (cond g 0 17) 16)
    go true true = inl refl
    go true false = inr (omega arith)
    go false g = inr (omega arith)

zeroed : (k : ℕ) (x y : List ℕ) → (k ≡ 0) ⊎ (16 ≤ k) → cond (eqb k 0 || leb 16 k) x y ≡ x
zeroed k x y (inl e) = rw (eq-eqb k 0 e)
zeroed k x y (inr h) = let o : (eqb k 0 || leb 16 k) ≡ true = or_right (eqb k 0) (leb 16 k) (le-leb 16 k h) in rw o

-- so the scratch is all zeros in the end
pub cleared-outcome : (c : Change) {b b' : List ℕ} {r : Answer} → Worked c b b' r → (w : List ℕ) {z : List ℕ} →
    z ≡ replicate (length w) 0 → result_of r b' z ≡ changed_outcome c b w
unfolding outcome
cleared-outcome c {b} worked w e = λ i. record {
  answer = worked.answer i;
  table = worked.table i;
  scratch = (e ∙ sym (zeroed (size_refusal c (decode b)) (replicate (length w) 0) w (size-late c (decode b)))) i;
}

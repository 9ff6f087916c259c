-- What each step of a table's check knows: numbered states are accessible, and the first condition broken is the
-- answer.
use mathlib.Core.Bool.{Bool, false, true}
use mathlib.Core.List.{List, []}
use mathlib.Core.Logic.{◌≢◌}
use mathlib.Core.Path.{◌∙◌, ◌≡◌, ap, ap₂, refl, subst, subst₂, sym}
use Prim.Native.Nat.{suc, ℕ}
use native.Mathlib.Omega.{arith}
use lib.Dec.{eqb}
use lib.ListN.{length}
use borrow.Author.Tests.{eq-eqb, ne_eqb}
use Rattle.automata.specs.Accessible.{all_accessible}
use Rattle.automata.specs.Acyclic.{acyclic}
use Rattle.automata.specs.Automaton.{Automaton}
use Rattle.automata.specs.Coaccessible.{all_coaccessible}
use Rattle.automata.specs.Distinguishable.{all_distinguishable}
use Rattle.automata.specs.Numbered.{first_open, numbered}
use Rattle.automata.specs.Order.{rising}
use Rattle.fields.specs.Fields.{HoldsTransitionsOver}
use Rattle.fields.specs.View.{Viewed, viewed}
use Rattle.fingerprints.specs.Fingerprints.{Settled}
use Rattle.format.specs.Format.{head_bytes, table_bytes}
use Rattle.lists.specs.Conditions.{first_broken}
use Rattle.lists.specs.Positions.{up_from}
use Rattle.lists.specs.Tests.{every}
use Rattle.packed.specs.Packed.{HoldsPadded}
use Rattle.table.specs.Intake.{automaton_conditions, content_conditions, table_refusal}
use Rattle.table.specs.Layout.{body, decode, layout_fits, state_count, transition_count, transitions_in}
use Rattle.automata.proofs.NumberedPass.{numbered-accessible}
use Rattle.fields.proofs.Transitions.{layout-in-table, part_body}
use Rattle.fields.proofs.Views.{viewed-ranged, viewed-states}
use Rattle.lists.proofs.Parts.{part}
use Rattle.packed.proofs.Padding.{layout-padded}

module _ (cl s : List ℕ) (n c : ℕ) where
  abbrev A : Automaton
  A = viewed cl s n c

  -- classes have no part in the numbering
  pub numbered-any : numbered (viewed [] s n c) ≡ numbered (viewed cl s n c)
  numbered-any =
      ap (λ (m : ℕ). every (λ k. eqb (first_open k (transitions_in s c)) (suc k)) (up_from 0 m))
      (viewed-states [] s n c ∙ sym (viewed-states cl s n c))

  module _ (over : HoldsTransitionsOver s c n) where
    pub numbered-reached : numbered (viewed [] s n c) ≡ true → true ≡ all_accessible (viewed cl s n c)
    numbered-reached e =
        sym (numbered-accessible (viewed cl s n c) (viewed-ranged cl s n c over) (sym numbered-any ∙ e))

-- a table that passes condition 7 shows its own automaton
pub table-viewed : (b : List ℕ) → length b ≡ table_bytes → layout_fits b ≡ true →
    Viewed b (body b) (state_count b) (transition_count b)
table-viewed b h e =
    let t = layout-in-table b h e in
    record { over = t.over; states = omega (arith, t.states); classes = omega (arith, t.states) }

-- conditions 9 to 13 of a table are those of its automaton
pub content-rest : (b : List ℕ) → layout_fits b ≡ true → rising (transitions_in (body b) (transition_count b)) ≡ true →
    first_broken (automaton_conditions (viewed b (body b) (state_count b) (transition_count b))) ≡
    first_broken (content_conditions b)
unfolding content_conditions automaton_conditions decode
content-rest b p q = rw (p, q)

-- ---- the answers

module _ (A : Automaton) where
  pub refused-9 : {r : Bool} → r ≡ all_accessible A → r ≡ false → ◌≡◌ {A = ℕ} 9 (first_broken (automaton_conditions A))
  unfolding automaton_conditions
  refused-9 p x = rw (sym p ∙ x)

  pub refused-10 : {r u : Bool} → r ≡ all_accessible A → r ≡ true → u ≡ all_coaccessible A → u ≡ false →
      ◌≡◌ {A = ℕ} 10 (first_broken (automaton_conditions A))
  unfolding automaton_conditions
  refused-10 p x q y = rw (sym p ∙ x, sym q ∙ y)

  pub refused-11 : {r u f : Bool} → r ≡ all_accessible A → r ≡ true → u ≡ all_coaccessible A → u ≡ true →
      f ≡ acyclic A → f ≡ false → ◌≡◌ {A = ℕ} 11 (first_broken (automaton_conditions A))
  unfolding automaton_conditions
  refused-11 p x q y e z = rw (sym p ∙ x, sym q ∙ y, sym e ∙ z)

  pub refused-12 : {r u f d : Bool} → r ≡ all_accessible A → r ≡ true → u ≡ all_coaccessible A → u ≡ true →
      f ≡ acyclic A → f ≡ true → d ≡ all_distinguishable A → d ≡ false →
      ◌≡◌ {A = ℕ} 12 (first_broken (automaton_conditions A))
  unfolding automaton_conditions
  refused-12 p x q y e z g w = rw (sym p ∙ x, sym q ∙ y, sym e ∙ z, sym g ∙ w)

  pub refused-13 : {r u f d o : Bool} → r ≡ all_accessible A → r ≡ true → u ≡ all_coaccessible A →
      u ≡ true → f ≡ acyclic A → f ≡ true → d ≡ all_distinguishable A → d ≡ true → o ≡ numbered A →
      o ≡ false → ◌≡◌ {A = ℕ} 13 (first_broken (automaton_conditions A))
  unfolding automaton_conditions
  refused-13 p x q y e z g w h v = rw (sym p ∙ x, sym q ∙ y, sym e ∙ z, sym g ∙ w, sym h ∙ v)

  pub not-refused : {r u f d o : Bool} → r ≡ all_accessible A → r ≡ true → u ≡ all_coaccessible A →
      u ≡ true → f ≡ acyclic A → f ≡ true → d ≡ all_distinguishable A → d ≡ true → o ≡ numbered A →
      o ≡ true → ◌≡◌ {A = ℕ} 0 (first_broken (automaton_conditions A))
  unfolding automaton_conditions
  not-refused p x q y e z g w h v = rw (sym p ∙ x, sym q ∙ y, sym e ∙ z, sym g ∙ w, sym h ∙ v)

-- ---- an automaton that passes

module _ (cl s : List ℕ) (n c : ℕ) (over : HoldsTransitionsOver s c n) where
  -- numbered, without loops and settled: nothing is broken
  pub passes : {o : Bool} → o ≡ numbered (viewed cl s n c) → o ≡ true → acyclic (viewed cl s n c) ≡ true →
      Settled (viewed cl s n c) → ◌≡◌ {A = ℕ} 0 (first_broken (automaton_conditions (viewed cl s n c)))
  passes p x ac t =
      not-refused (viewed cl s n c)
      (sym (numbered-accessible (viewed cl s n c) (viewed-ranged cl s n c over) (sym p ∙ x))) refl
      (sym (t.useful ac)) refl (sym ac) refl (sym (t.separated ac)) refl p x

-- refusals 5, 7 and 8
pub refused-7 : (b : List ℕ) {r : Bool} → r ≡ layout_fits b → r ≡ false → ◌≡◌ {A = ℕ} 7 (first_broken
    (content_conditions b))
unfolding content_conditions
refused-7 b p x = rw (sym p ∙ x)

pub refused-8 : (b : List ℕ) {r o : Bool} → r ≡ layout_fits b → r ≡ true →
    o ≡ rising (transitions_in (body b) (transition_count b)) → o ≡ false → ◌≡◌ {A = ℕ} 8 (first_broken
    (content_conditions b))
unfolding content_conditions decode
refused-8 b p x q y = rw (sym p ∙ x, sym q ∙ y)

pub refused-5 : (b : List ℕ) → length b ≢ table_bytes → ◌≡◌ {A = ℕ} 5 (table_refusal b)
unfolding table_refusal
refused-5 b h = rw (ne_eqb (length b) table_bytes h)

pub right-length : (b : List ℕ) {r : ℕ} → length b ≡ table_bytes → r ≡ first_broken (content_conditions b) → r ≡
    table_refusal b
unfolding table_refusal
right-length b h e = rw (eq-eqb (length b) table_bytes h) e

-- ---- a table's own automaton, as the part of the table that code passes on

pub table-padded : (b : List ℕ) {k : ℕ} → length b ≡ table_bytes → layout_fits b ≡ true → k ≡ transition_count b →
    HoldsPadded (part b head_bytes) k
table-padded b h e c = subst₂ HoldsPadded (sym (part_body b)) (sym c) (layout-padded b h e)

pub table-rises : (b : List ℕ) {k : ℕ} {r : Bool} → k ≡ transition_count b →
    r ≡ rising (transitions_in (part b head_bytes) k) →
    r ≡ rising (transitions_in (body b) (transition_count b))
table-rises b c e = e ∙ ap₂ (λ (s : List ℕ) (k : ℕ). rising (transitions_in s k)) (part_body b) c

pub table-seen : (b : List ℕ) {k n : ℕ} → length b ≡ table_bytes → layout_fits b ≡ true → k ≡ transition_count b →
    n ≡ state_count b → rising (transitions_in (body b) (transition_count b)) ≡ true →
    Viewed b (part b head_bytes) n k ×
    (HoldsPadded (part b head_bytes) k × (rising (transitions_in (part b head_bytes) k) ≡ true))
table-seen b {k} {n} h e c m r = (
  subst₂ (λ (s : List ℕ) (j : ℕ). Viewed b s n j) (sym (part_body b)) (sym c)
      (subst (λ (i : ℕ). Viewed b (body b) i (transition_count b)) (sym m) (table-viewed b h e)),
  (
    table-padded b h e c,
    subst₂ (λ (s : List ℕ) (j : ℕ). rising (transitions_in s j) ≡ true) (sym (part_body b)) (sym c) r,
  ),
)

pub table-answer : (b : List ℕ) {k n r : ℕ} → layout_fits b ≡ true →
    rising (transitions_in (body b) (transition_count b)) ≡ true → k ≡ transition_count b → n ≡ state_count b →
    r ≡ first_broken (automaton_conditions (viewed b (part b head_bytes) n k)) → r ≡ first_broken (content_conditions b)
table-answer b {n = n} e o c m a =
    a ∙ ap₂ (λ (s : List ℕ) (j : ℕ). first_broken (automaton_conditions (viewed b s n j))) (part_body b) c
    ∙ ap (λ (i : ℕ). first_broken (automaton_conditions (viewed b (body b) i (transition_count b)))) m
    ∙ content-rest b e o

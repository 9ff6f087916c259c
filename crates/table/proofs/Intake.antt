-- INTAKE: a table passes 5 and 7 to 13 exactly if it is the table of a canonical automaton of a bounded set,
-- within the limits.
use mathlib.Core.Bool.{Bool, false, true}
use mathlib.Core.List.{List, ◌∷◌}
use mathlib.Core.Logic.{◌↔◌}
use mathlib.Core.Path.{◌∙◌, ◌≡◌, ap, refl, subst, sym}
use Prim.Native.Nat.{◌%◌, ◌-◌, ◌<◌, suc, zero, ℕ}
use native.Mathlib.Omega.{arith}
use lib.Dec.{eqb, ltb}
use lib.ListN.{get_or-replicate, length, length-replicate, replicate}
use lib.Seq.{ext_get_or}
use borrow.Author.Tests.{eq-eqb, eqb-true}
use Rattle.lists.specs.Tests.{bit}
use Rattle.automata.specs.Acyclic.{Bounded, acyclic}
use Rattle.automata.specs.Automaton.{Automaton, accepting, accepts, empty_automaton}
use Rattle.automata.specs.Canonical.{Canonical}
use Rattle.automata.specs.Valid.{Valid}
use Rattle.format.specs.Format.{AllBytes, count_at, head_bytes, table_bytes, transition_bytes}
use Rattle.table.specs.Intake.{CanonicalTable, WithinLimits, automaton_conditions, content_conditions}
use Rattle.table.specs.Intake.{length_condition, table_refusal}
use Rattle.table.specs.Layout.{byte_at, decode, encode, layout_fits}
use Rattle.trees.specs.Tree.{Tree}
use Rattle.automata.proofs.Bounded.{acyclic-bounded, bounded-acyclic}
use Rattle.automata.proofs.CanonicalChange.{canonical-ranged, canonical-valid}
use Rattle.automata.proofs.Valid.{valid-canonical}
use Rattle.lists.proofs.Conditions.{unbroken-hold}
use Rattle.table.proofs.Bytes.{cond-is, encode-byte, encode-length}
use Rattle.table.proofs.Limits.{encode-layout, layout-in-range, layout-within}
use Rattle.table.proofs.RoundTrip.{blank-byte, decode-encode, encode-decode}

-- what the conditions say together
pub record Passes (b : List ℕ) : Type 0 where
  pub length : length b ≡ table_bytes
  pub layout : layout_fits b ≡ true
  pub valid : Valid (decode b)
  pub acyclic : acyclic (decode b) ≡ true

pub unrefused-passes : (b : List ℕ) → table_refusal b ≡ 0 → Passes b
unfolding table_refusal content_conditions automaton_conditions
unrefused-passes b e =
    let (five, (seven, (eight, (nine, (ten, (eleven, (twelve, (thirteen, _)))))))) =
    unbroken-hold (length_condition b ∷ content_conditions b) (omega arith) e in
    record {
      length = eqb-true (length b) table_bytes five;
      layout = seven;
      valid = record {
        ranged = layout-in-range b seven;
        rises = eight;
        reached = nine;
        used = ten;
        apart = twelve;
        ruled = thirteen;
      };
      acyclic = eleven;
    }

pub passes-unrefused : (b : List ℕ) → Passes b → table_refusal b ≡ 0
unfolding table_refusal content_conditions automaton_conditions
passes-unrefused b p =
    let v = p.valid in
    rw (
      eq-eqb (length b) table_bytes p.length,
      p.layout,
      v.rises,
      v.reached,
      v.used,
      p.acyclic,
      v.apart,
      v.ruled,
    )

-- the automaton of a table that passes is the one that it holds: its fields speak of `decode b`
abbrev pub passes-canonical : (b : List ℕ) → AllBytes b → table_refusal b ≡ 0 → CanonicalTable b
passes-canonical b bytes e =
    let p = unrefused-passes b e in
    record {
      automaton = decode b;
      limits = layout-within b bytes p.layout;
      canonical = valid-canonical (decode b) p.valid;
      bounded = acyclic-bounded (decode b) p.valid.ranged p.acyclic;
      bytes = sym (encode-decode b bytes p.length p.layout);
    }

-- the table of the canonical automaton of a bounded set passes, and its bytes are bytes
module _ (S : Tree → Bool) (A : Automaton) (within : WithinLimits A) (canonical : Canonical S A) where
  pub set-passes : Bounded S → table_refusal (encode A) ≡ 0
  set-passes bounded =
      let d = sym (decode-encode A within) in
      passes-unrefused (encode A) record {
        length = encode-length A;
        layout = encode-layout A within (canonical-ranged S A canonical);
        valid = subst Valid d (canonical-valid S A canonical);
        acyclic = subst (λ (B : Automaton). acyclic B ≡ true) d (bounded-acyclic S A canonical bounded);
      }

pub canonical-passes : (A : Automaton) → WithinLimits A → Canonical (accepts A) A → Bounded (accepts A) →
    table_refusal (encode A) ≡ 0
canonical-passes A within canonical bounded = set-passes (accepts A) A within canonical bounded

pub intake : (b : List ℕ) → AllBytes b → (table_refusal b ≡ 0) ↔ CanonicalTable b
intake b bytes = (
  passes-canonical b bytes,
  λ t.
      subst (λ (s : List ℕ). table_refusal s ≡ 0) (sym t.bytes)
      (canonical-passes t.automaton t.limits t.canonical t.bounded),
)

-- ---- the empty set

zero-byte : (i : ℕ) → byte_at empty_automaton i ≡ 0
zero-byte i =
    cond-is (eqb i 0) (λ _. refl) (λ _. cond-is (ltb i count_at) (λ _. ap bit (rejects i))
    (λ _. cond-is (eqb i count_at) (λ _. refl)
    (λ _. cond-is (ltb i head_bytes) (λ _. refl) (λ _. blank-byte ((i - head_bytes) % transition_bytes)))))
  where
    rejects : (q : ℕ) → accepting empty_automaton q ≡ false
    rejects zero = refl
    rejects (suc q) = refl

pub encode-empty : encode empty_automaton ≡ replicate table_bytes 0
encode-empty =
    ext_get_or 0 (encode empty_automaton) (replicate table_bytes 0)
    (encode-length empty_automaton ∙ sym (length-replicate {A = ℕ} table_bytes 0))
    (λ i h.
    let k : i < table_bytes = omega (arith, encode-length empty_automaton) in
    encode-byte empty_automaton i k ∙ zero-byte i ∙ sym (get_or-replicate table_bytes i 0 0 k))

empty-valid : Valid empty_automaton
empty-valid = record { ranged = refl; rises = refl; reached = refl; used = refl; apart = refl; ruled = refl }

empty-acyclic : acyclic empty_automaton ≡ true
unfolding acyclic
empty-acyclic = refl

pub empty-limits : WithinLimits empty_automaton
empty-limits = record { states = omega arith; transitions = omega arith; legal = λ τ m. absurd m }

pub empty-canonical : Canonical (accepts empty_automaton) empty_automaton
empty-canonical = valid-canonical empty_automaton empty-valid

pub empty-bounded : Bounded (accepts empty_automaton)
empty-bounded = acyclic-bounded empty_automaton refl empty-acyclic

-- the table of all zeros, which is that of the empty set, passes
pub zero-table : table_refusal (replicate table_bytes 0) ≡ 0
zero-table =
    subst (λ (b : List ℕ). table_refusal b ≡ 0) encode-empty
    (canonical-passes empty_automaton empty-limits empty-canonical empty-bounded)

-- Numbers by state, one entry after another: subtrees counted, marks and weights filled in.
use mathlib.Core.Bool.{Bool, false, true}
use mathlib.Core.List.{List}
use mathlib.Core.Path.{◌∙◌, ◌≡◌, ap, refl, sym}
use Prim.Native.Nat.{◌+◌, ◌<◌, ◌≤◌, suc, zero, ℕ}
use native.Mathlib.Numerals.{add-one}
use native.Mathlib.Omega.{arith}
use lib.Dec.{eqb}
use lib.ListN.{length, length-replicate, length-set, set}
use lib.Seq.{get_or-set_other, get_or-set_same}
use borrow.Author.Tests.{eqb-false, eqb-true}
use Rattle.format.specs.Format.{byte_values}
use Rattle.lists.specs.Tests.{bit}
use Rattle.marking.specs.Marks.{marked, nonzero}
use Rattle.lists.proofs.Filling.{FilledTo, set-next-from}
use Rattle.lists.proofs.Intervals.{get_d-zeros}
use Rattle.pairs.specs.Counts.{Counted, MarkedBy, Numbers, entries_with, entry, zeros}

-- ---- subtrees by state

pub few-with : (s : List ℕ) (j q : ℕ) → entries_with s j q ≤ j
few-with s zero q = omega arith
few-with s (suc j) q = go (eqb (entry s j) q) (few-with s j q)
  where
    go : (b : Bool) → entries_with s j q ≤ j → bit b + entries_with s j q ≤ suc j
    go true h = omega arith
    go false h = omega arith

pub counted_start : {s r : List ℕ} → r ≡ zeros → Counted s 0 r
counted_start e = record {
  size = ap length e ∙ length-replicate {A = ℕ} byte_values 0;
  each = λ q h. ap (λ (l : List ℕ). entry l q) e ∙ get_d-zeros byte_values q;
}

-- one more entry, x, is counted
pub counted_next : {s r : List ℕ} {j x v : ℕ} → Counted s j r → x ≡ entry s j → x < byte_values →
    v ≡ entry r x + 1 → Counted s (j + 1) (set r x v)
counted_next {s} {r} {j} {x} {v} inv e h f = record {
  size = length-set r x v ∙ inv.size;
  each = λ q l. go q l (eqb (entry s j) q) refl ∙ sym (ap (λ (i : ℕ). entries_with s i q) (add-one j));
}
  where
    go : (q : ℕ) → q < byte_values → (b : Bool) → eqb (entry s j) q ≡ b → entry (set r x v) q ≡ entries_with s (suc j) q
    go q l true d =
        let g : x ≡ q = e ∙ eqb-true (entry s j) q d in
        ap (entry (set r x v)) (sym g) ∙ get_or-set_same r x v 0 (omega (arith, inv.size)) ∙ f
        ∙ ap (λ (p : ℕ). entry r p + 1) g ∙ rw d (omega (arith, inv.each q l))
    go q l false d =
        get_or-set_other r x q v 0 (λ g. eqb-false (entry s j) q d (omega (arith, e, g))) ∙ inv.each q l ∙ rw d (omega arith)

pub counted-end : {s r : List ℕ} {j m : ℕ} → Counted s j r → j ≡ m → Counted s m r
counted-end {s} {r} inv e =
    record { size = inv.size; each = λ q h. inv.each q h ∙ ap (λ (i : ℕ). entries_with s i q) e }

-- ---- entries filled in

pub numbers-end : {f : ℕ → ℕ} {m : List ℕ} {k : ℕ} → FilledTo byte_values f m k → byte_values ≤ k → Numbers f m
numbers-end inv h = record { size = inv.size; each = λ q l. inv.same q (omega arith) }

-- the marks below k are as a test says
pub record MarkedTo (p : ℕ → Bool) (m : List ℕ) (k : ℕ) : Type 0 where
  pub size : length m ≡ byte_values
  pub each : (q : ℕ) → q < k → marked m q ≡ p q

module _ {p : ℕ → Bool} where
  pub marked_start : {m : List ℕ} → length m ≡ byte_values → MarkedTo p m 0
  marked_start e = record { size = e; each = λ q h. absurd (omega arith) }

  pub marked_next : {m : List ℕ} {k : ℕ} → MarkedTo p m k → k < byte_values → (x : ℕ) → nonzero x ≡ p k →
      MarkedTo p (set m k x) (k + 1)
  marked_next {m} {k} inv h x e = record {
    size = length-set m k x ∙ inv.size;
    each = λ q l. set-next-from nonzero p 0 m k x (omega (arith, inv.size)) e (λ i _ n. inv.each i n) q (omega arith) l;
  }

  pub marked-end : {m : List ℕ} {k : ℕ} → MarkedTo p m k → byte_values ≤ k → MarkedBy p m
  marked-end inv h = record { size = inv.size; each = λ q l. inv.each q (omega arith) }

-- The classes of names, one after another.
use mathlib.Core.Bool.{Bool, false}
use mathlib.Core.List.{List}
use mathlib.Core.Logic.{◌≢◌}
use mathlib.Core.Path.{◌∙◌, ◌≡◌}
use Prim.Native.Nat.{◌+◌, ◌-◌, ◌<◌, ◌≤◌, ℕ}
use native.Mathlib.Omega.{arith}
use lib.Dec.{eqb}
use lib.ListN.{get_or, length, length-set, set}
use borrow.Author.Tests.{eq-eqb, le-leb, lt-leb, ne_eqb}
use Rattle.change.specs.Classes.{Classed, class_of_name}
use Rattle.quotient.specs.Kept.{state_of}
use Rattle.table.specs.Layout.{class_at}
use Rattle.format.specs.Format.{byte_values}
use Rattle.lists.proofs.Filling.{set-next-from}

-- ---- the state and the class of a number

module _ (n : ℕ) (q : List ℕ) (p : ℕ) where
  pub state-low : p ≤ n → p ≡ state_of n q p
  state-low h = rw (le-leb p n h)

  pub state-high : n < p → {s : ℕ} → s ≡ get_or q (p - n - 1) 0 → s ≡ state_of n q p
  state-high h e = rw (lt-leb p n h) e

module _ (b : List ℕ) (n : ℕ) (q : List ℕ) (own : ℕ) (inserting : Bool) (p : ℕ) where
  pub class-own : p ≡ own → {c : Bool} → c ≡ inserting → c ≡ class_of_name b n q own inserting p
  unfolding class_of_name
  class-own e d = rw (eq-eqb p own e) d

  module _ (other : p ≢ own) {s : ℕ} (e : s ≡ state_of n q p) where
    pub class-none : s ≡ 0 → false ≡ class_of_name b n q own inserting p
    unfolding class_of_name
    class-none z = rw (ne_eqb p own other, ← e, eq-eqb s 0 z)

    pub class-some : s ≢ 0 → class_at b s ≡ class_of_name b n q own inserting p
    unfolding class_of_name
    class-some z = rw (ne_eqb p own other, ← e, ne_eqb s 0 z)

-- ---- all numbers

-- the classes below p are there
pub record ClassedBelow (f : ℕ → Bool) (cl : List ℕ) (p : ℕ) : Type 0 where
  pub size : length cl ≡ byte_values
  pub class : (i : ℕ) → 1 ≤ i → i < p → class_at cl i ≡ f i

module _ {f : ℕ → Bool} where
  pub classed-start : {cl : List ℕ} → length cl ≡ byte_values → ClassedBelow f cl 1
  classed-start size = record { size = size; class = λ i h l. absurd (omega arith) }

  pub classed-next : {cl : List ℕ} {p : ℕ} → ClassedBelow f cl p → p < byte_values → (x : ℕ) → eqb x 1 ≡ f p →
      ClassedBelow f (set cl p x) (p + 1)
  classed-next {cl} {p} inv h x e = record {
    size = length-set cl p x ∙ inv.size;
    class = set-next-from (λ y. eqb y 1) f 1 cl p x (omega (arith, inv.size)) e inv.class;
  }

  pub classed-end : {cl : List ℕ} {p k : ℕ} → ClassedBelow f cl p → k < p → Classed f k cl
  classed-end inv h = record { size = inv.size; class = λ i l m. inv.class i l (omega arith) }

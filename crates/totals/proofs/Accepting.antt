-- Sums over the accepting states, one state more at a time, and what they are up to the limit.
use mathlib.Core.Bool.{Bool, cond, false, true}
use mathlib.Core.List.{List, [], ◌∷◌}
use mathlib.Core.Path.{◌∙◌, ◌≡◌, ap, ap₂, refl, sym}
use Prim.Native.Nat.{◌+◌, ◌-◌, ◌≤◌, min, suc, zero, ℕ}
use native.Mathlib.Omega.{arith}
use Rattle.std.specs.declared.option.Option.{Option}
use Rattle.std.specs.declared.option.Option.TheVariants.{Some}
use Rattle.automata.specs.Acyclic.{acyclic}
use Rattle.automata.specs.Automaton.{Automaton, IsState, accepting, states}
use Rattle.automata.specs.Order.{rising}
use Rattle.automata.specs.Totals.{sum_accepting, sum_into, total, trees_of}
use Rattle.automata.proofs.Totals.{acyclic-sum}
use Rattle.automata.proofs.TotalsCapped.{capped-total}
use Rattle.fields.specs.Fields.{HoldsTransitionsOver}
use Rattle.fields.specs.View.{viewed}
use Rattle.fields.proofs.Views.{viewed-classes, viewed-ranged, viewed-states}
use Rattle.lists.specs.Positions.{up_from}
use Rattle.table.specs.Layout.{transitions_in}
use Rattle.totals.specs.Limited.{limit, total_of, worth}
use Rattle.totals.specs.Numbers.{NumbersOf, number_in}
use Rattle.totals.proofs.Depths.{round-limited}
use Rattle.totals.proofs.Limits.{total-is, total-kept, total-plus-by, total-same}

-- ---- one state more

module _ (A : Automaton) (w : ℕ → ℕ) where
  accepting-last : (n k : ℕ) → sum_accepting A w (up_from k (suc n)) ≡
      sum_accepting A w (up_from k n) + cond (accepting A (k + n)) (w (k + n)) 0
  accepting-last zero k =
      let z : k + 0 ≡ k = omega arith in
      rw z (omega arith)
  accepting-last (suc n) k =
      let z : k + suc n ≡ suc k + n = omega arith in
      rw z (omega (arith, accepting-last n (suc k)))

-- r is the sum over the accepting ones of the states from 1 on, before state q
pub record AcceptedTo (A : Automaton) (w : ℕ → ℕ) (q : ℕ) (r : Option ℕ) : Type 0 where
  pub so_far : r ≡ total_of (sum_accepting A w (up_from 1 (q - 1)))

module _ {A : Automaton} {w : ℕ → ℕ} where
  pub accepted-start : AcceptedTo A w 1 (Some 0)
  accepted-start = record { so_far = total-is refl (omega arith) }

  module _ {q : ℕ} {r : Option ℕ} (x : AcceptedTo A w q r) (h : 1 ≤ q) where
    longer : {b : Bool} → accepting A q ≡ b →
        sum_accepting A w (up_from 1 (q + 1 - 1)) ≡ sum_accepting A w (up_from 1 (q - 1)) + cond b (w q) 0
    longer e =
        let y : q + 1 - 1 ≡ suc (q - 1) = omega arith in
        let z : 1 + (q - 1) ≡ q = omega arith in
        ap (λ (k : ℕ). sum_accepting A w (up_from 1 k)) y ∙ accepting-last A w (q - 1) 1 ∙ rw (z, e)

    -- t is the number of state q
    pub accepted-next : {t : ℕ} {r' : Option ℕ} → accepting A q ≡ true → t ≡ w q → r' ≡ total_of (worth r + t) →
        AcceptedTo A w (q + 1) r'
    accepted-next {t} e f g = record {
      so_far =
          g ∙ ap (λ (n : ℕ). total_of (worth r + n)) f
          ∙ total-plus-by (sum_accepting A w (up_from 1 (q - 1))) (w q) x.so_far ∙ ap total_of (sym (longer e));
    }

    pub accepted-kept : r ≡ total_of (worth r)
    accepted-kept = x.so_far ∙ sym (total-kept (sum_accepting A w (up_from 1 (q - 1))) x.so_far)

    -- a state that does not accept leaves the sum; r' is a number that says the same
    pub accepted-worth : {r' : Option ℕ} → accepting A q ≡ false → r' ≡ total_of (worth r) → AcceptedTo A w (q + 1) r'
    accepted-worth e f = record {
      so_far =
          f ∙ total-kept (sum_accepting A w (up_from 1 (q - 1))) x.so_far ∙ ap total_of (omega (arith, longer e));
    }

    pub accepted-same : accepting A q ≡ false → AcceptedTo A w (q + 1) r
    accepted-same e = accepted-worth e accepted-kept

  pub accepted-end : {q n : ℕ} {r : Option ℕ} → AcceptedTo A w q r → q ≡ suc n →
      r ≡ total_of (sum_accepting A w (up_from 1 n))
  accepted-end {q} {n} x e =
      let z : q - 1 ≡ n = omega arith in
      x.so_far ∙ ap (λ (k : ℕ). total_of (sum_accepting A w (up_from 1 k))) z

-- ---- the total

-- a sum over accepting states looks at classes only
accepting-classes : (A B : Automaton) → ((q : ℕ) → accepting A q ≡ accepting B q) → (w : ℕ → ℕ) (qs : List ℕ) →
    sum_accepting A w qs ≡ sum_accepting B w qs
accepting-classes A B e w [] = refl
accepting-classes A B e w (q ∷ qs) =
    ap₂ (λ (b : Bool) (x : ℕ). cond b (w q) 0 + x) (e q) (accepting-classes A B e w qs)

module _ (cl s : List ℕ) (n c : ℕ) (over : HoldsTransitionsOver s c n) (rises : rising (transitions_in s c) ≡ true)
    (ac : acyclic (viewed cl s n c) ≡ true) where
  abbrev A : Automaton
  A = viewed cl s n c

  -- the numbers of trees follow the law, up to the limit
  numbers-lawful : {m : List (Option ℕ)} → NumbersOf A m → (q : ℕ) → IsState A q →
      number_in m q ≡ min limit (sum_into (number_in m) q A.transitions)
  numbers-lawful {m} x q (h, l) =
      let ranged = viewed-ranged cl s n c over in
      x.each q h l ∙ ap (min limit) (acyclic-sum A ranged rises ac q (h, l))
      ∙ sym (round-limited A ranged (trees_of A) (number_in m) (λ p (a, b). x.each p a b) q)

  pub viewed-total : {m : List (Option ℕ)} {r : Option ℕ} → NumbersOf A m →
      r ≡ total_of (sum_accepting (viewed cl [] n 0) (number_in m) (up_from 1 n)) → r ≡ total_of (total A)
  viewed-total {m} x e =
      e ∙ ap total_of (accepting-classes (viewed cl [] n 0) A (viewed-classes cl s n c) (number_in m) (up_from 1 n))
      ∙ ap (λ (k : ℕ). total_of (sum_accepting A (number_in m) (up_from 1 k))) (sym (viewed-states cl s n c))
      ∙ total-same (sum_accepting A (number_in m) (up_from 1 (states A))) (total A)
      (capped-total A (viewed-ranged cl s n c over) rises ac limit (number_in m) (numbers-lawful x))

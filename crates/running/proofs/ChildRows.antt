-- Rows of child states: what stays when a tree below is run, and a row that takes one state more.
use mathlib.Core.Bool.{false, true}
use mathlib.Core.List.{List, [], ◌++◌, ◌∷◌}
use mathlib.Core.Path.{◌∙◌, ◌≡◌, ap, refl, sym}
use Prim.Native.Nat.{◌+◌, ◌<◌, ◌≤◌, ℕ}
use native.Mathlib.Decide.{ℕ_discrete}
use native.Mathlib.Numerals.{add-one}
use native.Mathlib.Omega.{arith}
use lib.Dec.{eqb}
use lib.ListN.{get_or, length, length-set, set, take}
use lib.Seq.{get_or-set_other, get_or-set_same, get_or-take, take-set-le, take-suc-set, take-take}
use borrow.Author.Tests.{ne_eqb}
use Rattle.format.specs.Format.{max_arity, max_nodes}
use Rattle.lists.specs.Tests.{any}
use Rattle.running.specs.Running.{Joins, Rows, RowsKept}
use Rattle.running.specs.declared.Parent.{Parent}
use Rattle.lists.proofs.Tests.{or-none-left, or-none-right, or_right}

-- the rows that a run from node j on leaves, for a node that is not after it
pub kept-before : (i j : ℕ) → i ≤ j → {old new : List (List ℕ)} → RowsKept j old new → RowsKept i old new
kept-before i j before {old} {new} v = record {
  rows = v.rows;
  same = sym (take-take i j new before) ∙ ap (take i) v.same ∙ take-take i j old before;
}

-- one run after another
pub kept_then : {i : ℕ} {old mid new : List (List ℕ)} → RowsKept i old mid → RowsKept i mid new → RowsKept i old new
kept_then v w = record { rows = w.rows; same = w.same ∙ v.same }

-- a state stored in a row
abbrev pub put : List (List ℕ) → ℕ → ℕ → ℕ → List (List ℕ)
put rows i k q = set rows i (set (get_or rows i []) k q)

pub rows-put : {rows : List (List ℕ)} → Rows rows → (i k q : ℕ) → i < max_nodes → Rows (put rows i k q)
rows-put {rows} v i k q h = record { many = length-set rows i _ ∙ v.many; wide = λ j l. at j l (ℕ_discrete j i) }
  where
    at : (j : ℕ) → j < max_nodes → Dec (j ≡ i) → length (get_or (put rows i k q) j []) ≡ max_arity
    at j l (yes e) =
        let here : i < length rows = omega (arith, v.many) in
        rw (e, get_or-set_same rows i (set (get_or rows i []) k q) [] here, length-set) (v.wide i h)
    at j l (no d) = rw (get_or-set_other rows i j (set (get_or rows i []) k q) [] d) (v.wide j l)

-- after a run from node j on, the state of child k of a node i before it is stored
module _ {i j : ℕ} {old mid : List (List ℕ)} (before : i < j) (v : RowsKept j old mid) (here : i < max_nodes)
    (k q : ℕ) where
  pub kept_put : RowsKept i old (put mid i k q)
  kept_put = record {
    rows = rows-put v.rows i k q here;
    same = take-set-le i mid i _ (omega arith) ∙ (kept-before i j (omega arith) v).same;
  }

  kept_row : get_or mid i [] ≡ get_or old i []
  kept_row = sym (get_or-take j mid i [] before) ∙ ap (λ l. get_or l i []) v.same ∙ get_or-take j old i [] before

  pub put-row : k < max_arity → take (k + 1) (get_or (put mid i k q) i []) ≡ take k (get_or old i []) ++ (q ∷ [])
  put-row l =
      let row : i < length mid = omega (arith, v.rows.many) in
      let place : k < length (get_or mid i []) = omega (arith, v.rows.wide i here) in
      rw (
        get_or-set_same mid i (set (get_or mid i []) k q) [] row,
        add-one,
        take-suc-set (get_or mid i []) k q place,
        kept_row,
      )

-- ---- the states in a row

some_more : (qs : List ℕ) (q : ℕ) → any (eqb 0) qs ≡ false → (q ≡ 0 → ⊥) → any (eqb 0) (qs ++ (q ∷ [])) ≡ false
some_more [] q e d = rw (ne_eqb 0 q (λ z. d (sym z)))
some_more (p ∷ qs) q e d =
    rw (or-none-left (eqb 0 p) (any (eqb 0) qs) e) (some_more qs q (or-none-right (eqb 0 p) _ e) d)

pub none-behind : (qs rs : List ℕ) → any (eqb 0) (qs ++ (0 ∷ rs)) ≡ true
none-behind [] rs = refl
none-behind (q ∷ qs) rs = or_right (eqb 0 q) _ (none-behind qs rs)

-- a child that has a state is run, and its state stored in the row
pub joins-next : {p : Parent} {k i j q : ℕ} {old new : List ℕ} → Joins p k i old → (k ≡ p.arity → ⊥) → i ≤ j →
    take (k + 1) new ≡ take k old ++ (q ∷ []) → (q ≡ 0 → ⊥) → Joins p (k + 1) j new
joins-next {k = k} {q = q} {old = old} v d h e z = record {
  before = omega (arith, v.before);
  place = omega (arith, v.place);
  narrow = v.narrow;
  states = ap (any (eqb 0)) e ∙ some_more (take k old) q v.states z;
}

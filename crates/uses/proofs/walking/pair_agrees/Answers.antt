-- Each of the two transitions is the one that a search finds for the other with its state exchanged.
use mathlib.Core.Bool.{false≢true}
use mathlib.Core.List.{List}
use mathlib.Core.Path.{◌∙◌, ◌≡◌, refl, sym}
use Prim.Native.Nat.{◌*◌, ◌+◌, ◌-◌, ◌<◌, ◌^◌, ◌≤◌, ℕ}
use native.Mathlib.Omega.{arith}
use borrow.Author.Tests.{eqb-true}
use Rattle.std.specs.Prelude.{Some}
use Rattle.fields.specs.Fields.{HoldsTransitionsOver}
use Rattle.format.specs.Format.{AllBytes, byte_values, transition_bytes}
use Rattle.packed.specs.Packed.{Searchable, meta_at, packed_at}
use Rattle.packed.proofs.Seeking.{sought-there}
use Rattle.sorted.specs.Steps.{step_at}
use Rattle.table.specs.Layout.{arg_of, arity_of, out_of}
use Rattle.uses.specs.Walks.{AtUse, Paired, Walkable}
use Rattle.uses.proofs.Stepping.{exchange-inside, step-found}
use Rattle.uses.proofs.Walks.{use-place}
use Rattle.uses.proofs.walking.pair_agrees.Goals as goal

-- transition x is transition i with q for p
step_other : {s : List ℕ} {c n : ℕ} → AllBytes s → Searchable s c → HoldsTransitionsOver s c n → (i x k p q : ℕ) →
    i < c → x < c → k < arity_of s (transition_bytes * i) → arg_of s (transition_bytes * i) k ≡ p → q < byte_values →
    1 ≤ q → meta_at s (transition_bytes * i) ≡ meta_at s (transition_bytes * x) →
    packed_at s (transition_bytes * x) ≡
    packed_at s (transition_bytes * i) - p * 2 ^ (8 * (7 - k)) + q * 2 ^ (8 * (7 - k)) →
    step_at s c (transition_bytes * i) k q ≡ out_of s (transition_bytes * x)
step_other {s} bytes r over i x k p q h l d arg byte some meta new =
    sym (step-found bytes r over i k h d {a = packed_at s (transition_bytes * i)} {x = p} {y = q} refl (sym arg) byte
    (λ e. omega arith) {m = meta_at s (transition_bytes * x)} {z = packed_at s (transition_bytes * x)} {number = Some x}
    (sym meta) new (sought-there {i = x} bytes r l refl refl refl refl) refl l)

module _ {s : List ℕ} {c n k p q to i x : ℕ} (bytes : AllBytes s) (w : Walkable s c n k p q to) (u : AtUse s k p to i)
    (v : AtUse s k q to x) (h : i < to) (l : x < to) where
  first-place : k < arity_of s (transition_bytes * i)
  first-place =
      use-place s (transition_bytes * i) k p (w.searchable.padded.each i (omega (arith, w.inside))) w.place
      w.first_some (u.here h)

  second-place : k < arity_of s (transition_bytes * x)
  second-place =
      use-place s (transition_bytes * x) k q (w.searchable.padded.each x (omega (arith, w.inside))) w.place
      w.second-some (v.here l)

  first-adds : p * 2 ^ (8 * (7 - k)) ≤ packed_at s (transition_bytes * i)
  first-adds =
      exchange-inside bytes w.searchable w.over i k (omega (arith, w.inside)) first-place
      {a = packed_at s (transition_bytes * i)} {x = p} refl (sym (u.here h))

  second-adds : q * 2 ^ (8 * (7 - k)) ≤ packed_at s (transition_bytes * x)
  second-adds =
      exchange-inside bytes w.searchable w.over x k (omega (arith, w.inside)) second-place
      {a = packed_at s (transition_bytes * x)} {x = q} refl (sym (v.here l))

  paired : p < byte_values → q < byte_values → meta_at s (transition_bytes * i) ≡ meta_at s (transition_bytes * x) →
      out_of s (transition_bytes * i) ≡ out_of s (transition_bytes * x) →
      packed_at s (transition_bytes * i) - p * 2 ^ (8 * (7 - k)) ≡
      packed_at s (transition_bytes * x) - q * 2 ^ (8 * (7 - k)) →
      Paired s c k p q to i x
  paired b d meta out args = record {
    first-inside = h;
    second-inside = l;
    first = step_other bytes w.searchable w.over i x k p q (omega (arith, w.inside)) (omega (arith, w.inside))
        first-place (u.here h) d w.second-some meta (omega (arith, args, first-adds, second-adds)) ∙ sym out;
    second = step_other bytes w.searchable w.over x i k q p (omega (arith, w.inside)) (omega (arith, w.inside))
        second-place (v.here l) b w.first_some (sym meta) (omega (arith, args, first-adds, second-adds)) ∙ out;
  }

pub returns-then-i-to : goal.returns-then-i-to
returns-then-i-to c = λ e. absurd (false≢true e)

pub returns-then-x-to : goal.returns-then-x-to
returns-then-x-to c = λ e. absurd (false≢true e)

pub returns-then-meta_at : goal.returns-then-meta_at
returns-then-meta_at c = λ e. absurd (false≢true e)

pub returns-then-out_of : goal.returns-then-out_of
returns-then-out_of c = λ e. absurd (false≢true e)

pub args_without-requires : goal.args_without-requires
args_without-requires c =
    let h = c.if-i-to.false in
    let l = c.if-x-to.false in
    record {
      transition_bytes_in_bounds = omega (arith, c.requires.walkable.searchable.padded.runs.inside, c.requires.walkable.inside);
      k_lt_max_arity = c.requires.walkable.place;
      k_bound = first-adds c.recall_bytes.ensures c.requires.walkable c.requires.at_use c.requires.at_use_2 (omega arith)
          (omega arith);
    }

pub args_without-requires-2 : goal.args_without-requires-2
args_without-requires-2 c =
    let h = c.if-i-to.false in
    let l = c.if-x-to.false in
    record {
      transition_bytes_in_bounds = omega (arith, c.requires.walkable.searchable.padded.runs.inside, c.requires.walkable.inside);
      k_lt_max_arity = c.requires.walkable.place;
      k_bound = second-adds c.recall_bytes.ensures c.requires.walkable c.requires.at_use c.requires.at_use_2 (omega arith)
          (omega arith);
    }

pub returns : goal.returns
returns c =
    let h = c.if-i-to.false in
    let l = c.if-x-to.false in
    λ e. paired c.recall_bytes.ensures c.requires.walkable c.requires.at_use c.requires.at_use_2 (omega arith)
    (omega arith) (omega (arith, c.ranges.p)) (omega (arith, c.ranges.q))
    (sym c.meta_at.ensures ∙ c.if-meta_at.false ∙ c.meta_at-2.ensures)
    (sym c.out_of.ensures.value ∙ c.if-out_of.false ∙ c.out_of-2.ensures.value)
    (sym c.args_without.ensures ∙ eqb-true _ _ e ∙ c.args_without-2.ensures)

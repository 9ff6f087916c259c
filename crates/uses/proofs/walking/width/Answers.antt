-- Transitions rise by their two numbers, and the high part of the first is the number of arguments.
use mathlib.Core.Bool.{Bool, false, true}
use mathlib.Core.List.{List}
use mathlib.Core.Path.{◌≡◌, ap, refl}
use Prim.Native.Nat.{◌*◌, ◌+◌, ◌-◌, ◌<◌, ◌≤◌, ℕ}
use native.Mathlib.Omega.{arith}
use lib.Dec.{eqb}
use borrow.Author.Tests.{eqb-false, eqb-true}
use Rattle.format.specs.Format.{AllBytes, transition_bytes}
use Rattle.packed.specs.Packed.{Searchable, meta_at, packed_at}
use Rattle.packed.proofs.Order.{before-true, numbers-rise}
use Rattle.table.specs.Layout.{arity_of}
use Rattle.uses.proofs.walking.width.Goals as goal

arity-rises : {s : List ℕ} {c : ℕ} → AllBytes s → Searchable s c → (i j : ℕ) → i < j → j < c →
    arity_of s (transition_bytes * i) ≤ arity_of s (transition_bytes * j)
arity-rises {s} bytes r i j h l =
    let at = transition_bytes * i in
    let other = transition_bytes * j in
    let (less, _) = before-true (meta_at s at) (packed_at s at) (meta_at s other) (packed_at s other)
    (numbers-rise bytes r i j h l) in
    omega (arith, less, bytes at, bytes (at + 1), bytes other, bytes (other + 1))

arity-most : {s : List ℕ} {c : ℕ} → AllBytes s → Searchable s c → (i j : ℕ) → i ≤ j → j < c →
    arity_of s (transition_bytes * i) ≤ arity_of s (transition_bytes * j)
arity-most {s} bytes r i j h l = go (eqb i j) refl
  where
    go : (b : Bool) → eqb i j ≡ b → arity_of s (transition_bytes * i) ≤ arity_of s (transition_bytes * j)
    go true e = let same = ap (λ (y : ℕ). arity_of s (transition_bytes * y)) (eqb-true i j e) in omega arith
    go false e = let n = eqb-false i j e in arity-rises bytes r i j (omega arith) l

pub returns : goal.returns
returns c =
    let last = c.args.to - 1 in
    let some = c.if-to-eq0.false in
    let bytes = c.recall_bytes.ensures in
    record {
      upper_bound = omega (arith, c.arity_of.ensures, c.args.setting.now.searchable.padded.runs.narrow last (omega (arith, c.requires.to_le_count)));
      by_index = λ i h. omega (
        arith,
        c.arity_of.ensures,
        arity-most bytes c.args.setting.now.searchable i last (omega arith) (omega (arith, c.requires.to_le_count)),
      );
    }

-- What the loops know that mark the states that share their part, and note the keys of a slot.
use mathlib.Core.Bool.{Bool, false, true, true≢false}
use mathlib.Core.List.{List}
use mathlib.Core.Logic.{◌≢◌}
use mathlib.Core.Path.{◌∙◌, ◌≡◌, ap, refl, sym}
use Prim.Native.Nat.{◌+◌, ◌<◌, ◌≤◌, ℕ}
use native.Mathlib.Omega.{arith}
use lib.Dec.{eqb}
use lib.ListN.{length, length-replicate, length-set, replicate, set}
use borrow.Author.Count.{below_more}
use borrow.Author.Tests.{eqb-false, eqb-true}
use Rattle.format.specs.Format.{byte_values}
use Rattle.marking.specs.Marks.{marked}
use Rattle.partition.specs.Parts.{Grouped, part_of}
use Rattle.partition.specs.Splits.{Mates, Noted, PartKeys, part_key}
use Rattle.lists.proofs.Filling.{FilledTo}
use Rattle.marking.proofs.Sweeps.{marked-here, set-marked}

-- ---- states that share their part

pub noted-none : {q : ℕ} {m f : List ℕ} → part_of m q ≡ q → Noted q m f f
noted-none e = record { size = refl; kept = λ p d. d; follower = λ d. absurd (d e); leader = λ d. absurd (d e) }

pub noted-both : {q lead : ℕ} {m f : List ℕ} → q < length f → lead < length f → lead ≡ part_of m q →
    Noted q m f (set (set f q 1) lead 1)
noted-both {q} {lead} {m} {f} h l e = record {
  size = length-set (set f q 1) lead 1 ∙ length-set f q 1;
  kept = λ p d. set-marked (set f q 1) lead p there (set-marked f q p h d);
  follower = λ d. set-marked (set f q 1) lead q there (marked-here f q h);
  leader = λ d. rw (sym e) (marked-here (set f q 1) lead there);
}
  where
    there : lead < length (set f q 1)
    there = omega (arith, l, length-set f q 1)

pub record MatedBelow (m : List ℕ) (k : ℕ) (f : List ℕ) : Type 0 where
  pub size : length f ≡ byte_values
  pub each : (q : ℕ) → q < k → 1 ≤ q → part_of m q ≢ q → (marked f q ≡ true) × (marked f (part_of m q) ≡ true)

pub mated-start : (m : List ℕ) → MatedBelow m 1 (replicate byte_values 0)
mated-start m = record { size = length-replicate {A = ℕ} byte_values 0; each = λ q h a d. absurd (omega arith) }

pub mated-next : {m : List ℕ} {k : ℕ} {f f' : List ℕ} → MatedBelow m k f → Noted k m f f' → MatedBelow m (k + 1) f'
mated-next {m} {k} {f} {f'} b t = record {
  size = t.size ∙ b.size;
  each = below_more (λ q. 1 ≤ q → part_of m q ≢ q → (marked f' q ≡ true) × (marked f' (part_of m q) ≡ true)) k
      (λ q h a d. let x = b.each q h a d in (t.kept q x.0, t.kept (part_of m q) x.1))
      (λ a d. (t.follower d, t.leader d));
}

pub mated-end : {n k : ℕ} {m f : List ℕ} → Grouped n m → MatedBelow m k f → n < k → Mates n m f
mated-end {n} {k} {m} {f} g b h = record { alone = alone }
  where
    alone : (q : ℕ) → 1 ≤ q → q ≤ n → marked f q ≡ false → (p : ℕ) → p ≤ n → part_of m p ≡ part_of m q → p ≡ q
    alone q a l d p x e = go (eqb (part_of m q) q) refl (eqb (part_of m p) p) refl
      where
        some : 1 ≤ p
        some = omega (arith, g.some q a l, g.below p x, e)

        go : (s : Bool) → eqb (part_of m q) q ≡ s → (t : Bool) → eqb (part_of m p) p ≡ t → p ≡ q
        go true u true v = sym (eqb-true _ _ v) ∙ e ∙ eqb-true _ _ u
        go true u false v =
            absurd (true≢false (sym (b.each p (omega arith) some (eqb-false _ _ v)).1
            ∙ ap (marked f) (e ∙ eqb-true _ _ u) ∙ d))
        go false u t v = absurd (true≢false (sym (b.each q (omega arith) a (eqb-false _ _ u)).0 ∙ d))

-- ---- keys

pub keys-end : {s : List ℕ} {n c : ℕ} {m : List ℕ} {i k lead : ℕ} {keys : List ℕ} {q : ℕ} →
    FilledTo byte_values (part_key s c m i k lead) keys q → n < q → PartKeys s n c m i k lead keys
keys-end t h = record { each = λ q l. t.same q (omega arith) }

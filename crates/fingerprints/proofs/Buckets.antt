-- Fingerprints noted by their first bits: one whose bucket is free differs from all noted before.
use Rattle.std.proofs.Common.{◌≡◌, ℕ, ◌+◌, ◌-◌, ◌<◌, ◌≤◌, true, false, not, List, set, replicate, sym, ap, ◌∙◌, arith, length-set, below_more, ne_eqb}
use mathlib.Core.Bool.{false≢true}
use lib.ListN.{length-replicate}
use Rattle.fingerprints.specs.Fingerprints.{TakenBelow, bucket_of, buckets, differs, differs_below, print_of}
use Rattle.marking.specs.Marks.{marked}
use Rattle.lists.proofs.Intervals.{at_every}
use Rattle.marking.proofs.Sweeps.{marked-here, set-marked}

pub taken_start : (m : List ℕ) → TakenBelow m 1 (replicate buckets 0)
taken_start m = record { size = length-replicate {A = ℕ} buckets 0; each = λ p a b. absurd (omega arith) }

-- b is the bucket of q
pub taken_next : {m : List ℕ} {q : ℕ} {f : List ℕ} {b : ℕ} → TakenBelow m q f → b ≡ bucket_of (print_of m q) →
    b < buckets → TakenBelow m (q + 1) (set f b 1)
taken_next {m} {q} {f} {b} t e h = record {
  size = length-set f b 1 ∙ t.size;
  each = λ p a l.
      below_more (λ i. 1 ≤ i → marked (set f b 1) (bucket_of (print_of m i)) ≡ true) q
      (λ i d o. set-marked f b (bucket_of (print_of m i)) (omega (arith, t.size)) (t.each i o d))
      (λ o. ap (marked (set f b 1)) (sym e) ∙ marked-here f b (omega (arith, t.size))) p l a;
}

pub free-differs : {m : List ℕ} {q : ℕ} {f : List ℕ} {b : ℕ} → TakenBelow m q f → b ≡ bucket_of (print_of m q) →
    marked f b ≡ false → differs_below m q ≡ true
free-differs {m} {q} {f} {b} t e d =
    at_every (differs m q) 1 (q - 1)
    (λ p a l. ap not (ne_eqb (print_of m q) (print_of m p) (λ z. false≢true (sym d ∙ ap (marked f) (e ∙ ap bucket_of z)
    ∙ t.each p a (omega arith)))))

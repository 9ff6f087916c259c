-- What `read_total` returns, each as a law that a search finds.
use Rattle.std.specs.Prelude.{Err, Ok}
use Rattle.std.proofs.Common.{◌≡◌, ℕ, suc, ◌<◌, ◌≤◌, true, false, ◌⊎◌, List, length, ap, ◌∙◌, inl, inr, arith, drop_of_length-le}
use Rattle.format.specs.Format.{max_line}
use Rattle.lists.specs.Tests.{same_list}
use Rattle.text.specs.Columns.{advanced, line_start}
use Rattle.text.specs.Clauses.{TotalRead}
use Rattle.text.specs.Grammar.{total_text}
use Rattle.text.specs.Reader.{agreed, form, read_total}
use Rattle.text.specs.declared.cursor.Cursor.{Cursor}
use Rattle.lists.proofs.Tests.{same_list-true, test}
use Rattle.text.proofs.Agreement.{agreed-whole, agreed-within}
use Rattle.text.proofs.FormReader.{agreed-ahead}

module _ (s : List ℕ) (n : length s ≤ max_line) (k : ℕ) (a : k ≡ agreed s total_text) where
  pub total-whole : length total_text ≤ k → length s ≤ k → TotalRead s (Ok tt)
  unfolding TotalRead
  total-whole h g =
      let l : length s ≤ length total_text = omega (arith, (agreed-within s total_text).1) in
      agreed-whole s total_text (omega arith) ∙ rw (drop_of_length-le s {i = length total_text} l)

  module _ (b d : Cursor) (e : b ≡ line_start) (f : d ≡ advanced b k) where
    -- the line is another one
    total-other : (s ≡ total_text → ⊥) → TotalRead s (Err d)
    unfolding TotalRead read_total
    total-other x = go (test (same_list s total_text))
      where
        column : suc (agreed s total_text) ≡ d.column
        column = omega (arith, agreed-ahead total_text s n k a b d e f)

        go : (same_list s total_text ≡ true) ⊎ (same_list s total_text ≡ false) → TotalRead s (Err d)
        go (inl q) = absurd (x (same_list-true s total_text q))
        go (inr q) = rw q (ap form column)

    pub total-short : k < length total_text → TotalRead s (Err d)
    unfolding agreed
    total-short h =
        total-other (λ q. omega (arith, ap (λ (x : List ℕ). agreed x total_text) q))

    pub total-more : k < length s → TotalRead s (Err d)
    unfolding agreed
    total-more h =
        total-other (λ q. omega (arith, ap length q, ap (λ (x : List ℕ). agreed x total_text) q))

-- `check` answers with the first condition that its check finds broken. The five laws are what each `return` knows,
-- and search finds which of them fits.
use mathlib.Core.Bool.{Bool, false, not, true}
use mathlib.Core.List.{List}
use mathlib.Core.Path.{◌≡◌}
use Prim.Native.Nat.{ℕ}
use Rattle.trees.specs.Listing.{all_labelled, all_narrow, listing_conditions, listing_refusal, one_tree, whole_nodes}
use Rattle.listing.proofs.Checks.{broken, kept}
use Rattle.listing.proofs.check.Goals as goal

module _ (s : List ℕ) where
  refused-1 : {w : Bool} → w ≡ whole_nodes s → not w ≡ true → ◌≡◌ {A = ℕ} 1 (listing_refusal s)
  unfolding listing_refusal listing_conditions
  refused-1 p x = rw (broken p x)

  refused-2 : {w l : Bool} → w ≡ whole_nodes s → not w ≡ false → l ≡ all_labelled s → not l ≡ true →
      ◌≡◌ {A = ℕ} 2 (listing_refusal s)
  unfolding listing_refusal listing_conditions
  refused-2 p x q y = rw (kept p x, broken q y)

  refused-3 : {w l n : Bool} → w ≡ whole_nodes s → not w ≡ false → l ≡ all_labelled s → not l ≡ false →
      n ≡ all_narrow s → not n ≡ true → ◌≡◌ {A = ℕ} 3 (listing_refusal s)
  unfolding listing_refusal listing_conditions
  refused-3 p x q y r z = rw (kept p x, kept q y, broken r z)

  refused-4 : {w l n o : Bool} → w ≡ whole_nodes s → not w ≡ false → l ≡ all_labelled s → not l ≡ false →
      n ≡ all_narrow s → not n ≡ false → o ≡ one_tree s → not o ≡ true → ◌≡◌ {A = ℕ} 4 (listing_refusal s)
  unfolding listing_refusal listing_conditions
  refused-4 p x q y r z t u = rw (kept p x, kept q y, kept r z, broken t u)

  not-refused : {w l n o : Bool} → w ≡ whole_nodes s → not w ≡ false → l ≡ all_labelled s → not l ≡ false →
      n ≡ all_narrow s → not n ≡ false → o ≡ one_tree s → not o ≡ false → ◌≡◌ {A = ℕ} 0 (listing_refusal s)
  unfolding listing_refusal listing_conditions
  not-refused p x q y r z t u = rw (kept p x, kept q y, kept r z, kept t u)

ruleset answers = (refused-1, refused-2, refused-3, refused-4, not-refused)

pub returns-then-not-whole_nodes : goal.returns-then-not-whole_nodes
returns-then-not-whole_nodes c = search answers

pub returns-then-not-all_labelled : goal.returns-then-not-all_labelled
returns-then-not-all_labelled c = search answers

pub returns-then-not-all_narrow : goal.returns-then-not-all_narrow
returns-then-not-all_narrow c = search answers

pub returns-then-not-one_tree : goal.returns-then-not-one_tree
returns-then-not-one_tree c = search answers

pub returns : goal.returns
returns c = search answers

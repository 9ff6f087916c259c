-- What the code counts are the kept names and the transitions between them.
use mathlib.Core.Bool.{Bool, ◌&&◌, false, true}
use mathlib.Core.List.{List, [], ◌∷◌, map}
use mathlib.Core.Logic.{inl, inr}
use mathlib.Core.Path.{◌∙◌, ◌≡◌, ap, ap₂, refl, sym}
use Prim.Native.Nat.{◌+◌, ◌<◌, ◌≤◌, suc, ℕ}
use native.Mathlib.Omega.{arith}
use lib.Dec.{leb}
use lib.ListN.{length, length-append, length-map}
use borrow.Author.Tests.{le-leb, lt-leb}
use Rattle.automata.specs.Automaton.{Automaton, Transition, states}
use Rattle.automata.specs.OpenStates.{open_state, sum_over}
use Rattle.automata.specs.Quotient.{gone_count, has_own, is_gone, is_new, new_count, own_name}
use Rattle.format.specs.Format.{max_states}
use Rattle.lists.specs.Positions.{up_from}
use Rattle.lists.specs.Tests.{◌∈◌, filter}
use Rattle.pairs.specs.Counts.{entry}
use Rattle.subtrees.specs.Store.{bottom_up}
use Rattle.table.specs.Layout.{transitions_in}
use Rattle.trees.specs.Tree.{Tree}
use Rattle.automata.proofs.ProductSum.{sum_over-same}
use Rattle.automata.proofs.Valid.{ranged-transition}
use Rattle.lists.proofs.Positions.{up_from-in}
use Rattle.quotient.specs.Kept.{KeptAbove, kept_name}
use Rattle.quotient.specs.Nodes.{gone_at, new_at}
use Rattle.quotient.specs.Setting.{Changed, kept_count, kept_lengths}
use Rattle.quotient.proofs.KeptLink.{filter-append, filter-shifted, interval, kept-link, name-high, name-low}
use Rattle.quotient.proofs.KeptLink.{own-high}
use Rattle.quotient.proofs.Numbered.{all-trees, gone_same, new-same, own_of, tree_at}

-- as many numbers pass one test as values pass another
filter-counted : {T : Type 0} (p : ℕ → Bool) (g : T → Bool) (f : ℕ → T) (ks : List ℕ) →
    ((k : ℕ) → k ∈ ks → p k ≡ g (f k)) → length (filter p ks) ≡ length (filter g (map f ks))
filter-counted p g f [] h = refl
filter-counted p g f (k ∷ ks) h = go (filter-counted p g f ks (λ j i. h j (inr i))) (g (f k)) refl
  where
    go : length (filter p ks) ≡ length (filter g (map f ks)) → (b : Bool) → g (f k) ≡ b →
        length (filter p (k ∷ ks)) ≡ length (filter g (map f (k ∷ ks)))
    go ih true e = let d : p k ≡ true = h k (inl refl) ∙ e in rw (d, e) (ap suc ih)
    go ih false e = let d : p k ≡ false = h k (inl refl) ∙ e in rw (d, e) ih

map_same : (ks : List ℕ) → map (λ k. k) ks ≡ ks
map_same [] = refl
map_same (k ∷ ks) = ap (λ (l : List ℕ). k ∷ l) (map_same ks)

module _ {A : Automaton} {t : Tree} {ν : Tree → ℕ} {s : List ℕ} {count n m : ℕ} {o l r c q v : List ℕ}
    (H : Changed A t ν s count n m o l r c q v) where
  kept-count : length (filter (kept_name n o v) (up_from 1 (n + m))) ≡ kept_count A t (bottom_up t) ν
  unfolding kept_count
  kept-count =
      ap (λ (ks : List ℕ). length (filter (kept_name n o v) ks)) (interval H)
      ∙ ap length (filter-append (kept_name n o v) (up_from 1 n) (up_from (n + 1) m))
      ∙ length-append (filter (kept_name n o v) (up_from 1 n)) (filter (kept_name n o v) (up_from (n + 1) m))
      ∙ ap₂ (λ (x y : ℕ). x + y) low high
    where
      low : length (filter (kept_name n o v) (up_from 1 n)) ≡ length (filter (open_state A t) (up_from 1 (states A)))
      low =
          filter-counted (kept_name n o v) (open_state A t) (λ k. k) (up_from 1 n)
          (λ k i. let u = up_from-in 1 n k i in
          name-low H k (omega (arith, u.1)) ∙ H.opens.each k (u.0, omega (arith, u.1, H.size)))
          ∙ ap (λ (ks : List ℕ). length (filter (open_state A t) ks)) (map_same (up_from 1 n))
          ∙ ap (λ (k : ℕ). length (filter (open_state A t) (up_from 1 k))) H.size

      high : length (filter (kept_name n o v) (up_from (n + 1) m)) ≡ length (filter (has_own A (bottom_up t) ν) (bottom_up t))
      high =
          ap length (filter-shifted (kept_name n o v) (has_own A (bottom_up t) ν) (tree_at H.stored H.size)
          (own_name A (bottom_up t)) n m 0 (λ k a b. name-high H k ∙ own-high H k (omega arith))
          (λ k a b. own_of H.stored H.size k (omega arith)))
          ∙ length-map (filter (has_own A (bottom_up t) ν) (map (tree_at H.stored H.size) (up_from 0 m)))
          (own_name A (bottom_up t))
          ∙ ap (λ (us : List Tree). length (filter (has_own A (bottom_up t) ν) us)) (sym (all-trees H.stored H.size))

  new-count : length (filter (new_at n r c q v) (up_from 0 m)) ≡ new_count A (bottom_up t) ν
  unfolding new_count
  new-count =
      filter-counted (new_at n r c q v) (is_new A (bottom_up t) ν) (tree_at H.stored H.size) (up_from 0 m)
      (λ j i. new-same H.stored H.size ν v H.named j (omega (arith, up_from-in 0 m j i)))
      ∙ ap (λ (us : List Tree). length (filter (is_new A (bottom_up t) ν) us)) (sym (all-trees H.stored H.size))

  gone-count : length (filter (gone_at n r c q v) (up_from 0 m)) ≡ gone_count A (bottom_up t) ν
  unfolding gone_count
  gone-count =
      filter-counted (gone_at n r c q v) (is_gone A (bottom_up t) ν) (tree_at H.stored H.size) (up_from 0 m)
      (λ j i. gone_same H.stored H.size ν v H.named j (omega (arith, up_from-in 0 m j i)))
      ∙ ap (λ (us : List Tree). length (filter (is_gone A (bottom_up t) ν) us)) (sym (all-trees H.stored H.size))

  sum-link : {firsts nexts sizes : List ℕ} → KeptAbove n m o q v 0 firsts nexts sizes →
      sum_over (entry sizes) (transitions_in s count) ≡ sum_over (kept_lengths A t ν) A.transitions
  sum-link {firsts} {nexts} {sizes} K =
      ap (sum_over (entry sizes)) (sym H.setting.transitions)
      ∙ sum_over-same (entry sizes) (kept_lengths A t ν) A.transitions lengths
    where
      lengths : (τ : Transition) → τ ∈ A.transitions → (p : ℕ) → p ∈ τ.args → entry sizes p ≡ kept_lengths A t ν p
      lengths τ i p j =
          let a = (ranged-transition A H.setting.ranged τ i).args p j in
          K.count p (omega (arith, a.1, H.setting.few)) ∙ ap length (kept-link H p a)

  -- there are too many names
  pub fits_not : {x : ℕ} (b : Bool) → x ≡ length (filter (kept_name n o v) (up_from 1 (n + m))) → max_states < x →
      false ≡ (leb (kept_count A t (bottom_up t) ν) max_states && b)
  fits_not {x} b e h =
      sym (ap (λ (d : Bool). d && b) (lt-leb (kept_count A t (bottom_up t) ν) max_states (omega (arith, e, kept-count))))

  -- the names fit, and the sum decides
  pub fits_sum : (limit : ℕ) {x new gone : ℕ} {w : Bool} {firsts nexts sizes : List ℕ} →
      x ≡ length (filter (kept_name n o v) (up_from 1 (n + m))) → x ≤ max_states →
      new ≡ length (filter (new_at n r c q v) (up_from 0 m)) → gone ≡ length (filter (gone_at n r c q v) (up_from 0 m)) →
      KeptAbove n m o q v 0 firsts nexts sizes →
      w ≡ leb (sum_over (entry sizes) (transitions_in s count) + new) (limit + gone) →
      w ≡ (leb (kept_count A t (bottom_up t) ν) max_states &&
      leb (sum_over (kept_lengths A t ν) A.transitions + new_count A (bottom_up t) ν)
      (limit + gone_count A (bottom_up t) ν))
  fits_sum limit {x} {new} {gone} {w} e h f g K d =
      d ∙ ap₂ (λ (a b : ℕ). leb a b)
      (ap₂ (λ (a b : ℕ). a + b) (sum-link K) (f ∙ new-count)) (ap (λ (a : ℕ). limit + a) (g ∙ gone-count))
      ∙ sym (ap (λ (b : Bool). b && leb (sum_over (kept_lengths A t ν) A.transitions + new_count A (bottom_up t) ν)
      (limit + gone_count A (bottom_up t) ν))
      (le-leb (kept_count A t (bottom_up t) ν) max_states (omega (arith, e, kept-count))))

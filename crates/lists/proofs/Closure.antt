-- A closure is closed under its rule, and whatever the rule carries holds of every key in it.
use mathlib.Core.Bool.{Bool, ◌||◌, cond, false, false≢true, true}
use mathlib.Core.List.{List, [], ◌∷◌}
use mathlib.Core.Logic.{◌⊎◌, inl, inr}
use mathlib.Core.Path.{◌≡◌, refl, subst, sym}
use Prim.Native.Nat.{◌+◌, ◌<◌, ◌≤◌, suc, zero, ℕ}
use native.Mathlib.Omega.{arith}
use lib.Dec.{leb}
use lib.ListN.{length}
use borrow.Author.Tests.{leb-false, leb-true}
use Rattle.lists.specs.Closure.{closure, elem, grow, rounds}
use Rattle.lists.specs.Tests.{◌∈◌, filter}
use Rattle.lists.proofs.Tests.{any-in, filter-in, filter-length, filter-weaker, in-any, in-filter, or_cases}
use Rattle.lists.proofs.Tests.{or_left, or_right}

pub filter_none : {A : Type 0} (xs : List A) → filter (λ x. false) xs ≡ []
filter_none [] = refl
filter_none (x ∷ xs) = filter_none xs

module _ {K : Type 0} (eq : K → K → Bool) (eq-true : (j k : K) → eq j k ≡ true → j ≡ k)
    (eq_refl : (k : K) → eq k k ≡ true) where
  pub elem_in : (k : K) (X : List K) → elem eq k X ≡ true → k ∈ X
  elem_in k X e = let r = any-in (eq k) X e in rw (eq-true k r.0 r.2) r.1

  pub in-elem : (k : K) (X : List K) → k ∈ X → elem eq k X ≡ true
  in-elem k X m = in-any (eq k) X k m (eq_refl k)

  module _ (rule : (K → Bool) → K → Bool) (keys : List K) where
    -- X is what any test leaves of the keys
    Kept : List K → Type 0
    Kept X = (p : K → Bool) × (X ≡ filter p keys)

    kept-length : (X : List K) → Kept X → length X ≤ length keys
    unfolding Kept
    kept-length X (p, e) = rw e (filter-length p keys)

    grow-kept : (X : List K) → Kept (grow eq rule keys X)
    unfolding Kept
    grow-kept X = (λ k. elem eq k X || rule (λ j. elem eq j X) k, refl)

    grown : (X : List K) → Kept X → (X ≡ grow eq rule keys X) ⊎ (length X < length (grow eq rule keys X))
    unfolding Kept
    grown X (p, e) =
        rw (← e) at (filter-weaker p (λ k. elem eq k X || rule (λ j. elem eq j X) k) keys keeps)
      where
        keeps : (k : K) → k ∈ keys → p k ≡ true → (elem eq k X || rule (λ j. elem eq j X) k) ≡ true
        keeps k m h = or_left _ _ (in-elem k X (rw e (in-filter p keys k m h)))

    rounds-fixed : (d : ℕ) (X : List K) → Kept X → length keys ≤ length X + d →
        grow eq rule keys (rounds eq rule keys d X) ≡ rounds eq rule keys d X
    rounds-fixed zero X h l = go (grown X h)
      where
        go : (X ≡ grow eq rule keys X) ⊎ (length X < length (grow eq rule keys X)) → grow eq rule keys X ≡ X
        go (inl e) = sym e
        go (inr m) = absurd (omega (arith, kept-length (grow eq rule keys X) (grow-kept X)))
    rounds-fixed (suc d) X h l =
        go (λ m. rounds-fixed d (grow eq rule keys X) (grow-kept X) m)
        (leb (length (grow eq rule keys X)) (length X)) refl (grown X h)
      where
        go : (length keys ≤ length (grow eq rule keys X) + d →
            grow eq rule keys (rounds eq rule keys d (grow eq rule keys X)) ≡ rounds eq rule keys d
            (grow eq rule keys X)) →
            (b : Bool) → leb (length (grow eq rule keys X)) (length X) ≡ b →
            (X ≡ grow eq rule keys X) ⊎ (length X < length (grow eq rule keys X)) →
            grow eq rule keys (cond b X (rounds eq rule keys d (grow eq rule keys X))) ≡ cond b X
            (rounds eq rule keys d (grow eq rule keys X))
        go ih true t (inl e) = sym e
        go ih true t (inr m) = absurd (omega (arith, leb-true))
        go ih false t s = ih (omega (arith, leb-false))

    pub closure-fixed : grow eq rule keys (closure eq rule keys) ≡ closure eq rule keys
    unfolding Kept closure
    closure-fixed = rounds-fixed (length keys) [] (λ k. false, sym (filter_none keys)) (omega arith)

    -- what the rule makes of the closure is in it
    pub closed : (k : K) → k ∈ keys → rule (λ j. elem eq j (closure eq rule keys)) k ≡ true →
        elem eq k (closure eq rule keys) ≡ true
    closed k m h =
        in-elem k (closure eq rule keys)
        (subst (λ (X : List K). k ∈ X) closure-fixed
        (in-filter _ keys k m (or_right (elem eq k (closure eq rule keys)) _ h)))

    -- whatever holds of all that the rule makes holds of the closure
    module _ (P : K → Type 0)
        (made : (m : K → Bool) → ((j : K) → m j ≡ true → P j) → (k : K) → k ∈ keys → rule m k ≡ true → P k)
      where
        rounds-all : (d : ℕ) (X : List K) → ((k : K) → elem eq k X ≡ true → P k) → (k : K) →
            elem eq k (rounds eq rule keys d X) ≡ true → P k
        rounds-all zero X h k e = h k e
        rounds-all (suc d) X h k e =
            go (rounds-all d (grow eq rule keys X) step k) (leb (length (grow eq rule keys X)) (length X)) e
          where
            step : (k : K) → elem eq k (grow eq rule keys X) ≡ true → P k
            step k e = let r =
                filter-in (λ k. elem eq k X || rule (λ j. elem eq j X) k) keys k
                (elem_in k (grow eq rule keys X) e) in ⊎-go r.0 (or_cases (elem eq k X) _ r.1)
              where
                ⊎-go : k ∈ keys → (elem eq k X ≡ true) ⊎ (rule (λ j. elem eq j X) k ≡ true) → P k
                ⊎-go m (inl e) = h k e
                ⊎-go m (inr e) = made (λ j. elem eq j X) h k m e

            go : (elem eq k (rounds eq rule keys d (grow eq rule keys X)) ≡ true → P k) → (b : Bool) →
                elem eq k (cond b X (rounds eq rule keys d (grow eq rule keys X))) ≡ true → P k
            go ih true e = h k e
            go ih false e = ih e

        pub closure-all : (k : K) → elem eq k (closure eq rule keys) ≡ true → P k
        unfolding closure
        closure-all k e = rounds-all (length keys) [] (λ j h. absurd (false≢true h)) k e

-- The choices of pairs for a slot's arguments, counted by frames: a slot has a frame outside a list exactly if the list
-- does not cover it.
use mathlib.Core.Bool.{Bool, false, true, true≢false}
use mathlib.Core.List.{List, [], ◌++◌, ◌∷◌, map}
use mathlib.Core.Logic.{◌⊎◌, inl, inr}
use mathlib.Core.Path.{◌∙◌, ◌≡◌, ap, refl, subst, sym}
use Prim.Native.Nat.{◌≤◌, ℕ}
use native.Mathlib.Omega.{arith}
use lib.ListN.{length, length-map}
use borrow.Author.Tests.{eq-eqb, eqb-true}
use Rattle.automata.specs.Alike.{covered, distinct_frames, eq_frame, eq_slot, frames_at, state_slot}
use Rattle.automata.specs.Automaton.{Automaton, Fits, run, runs}
use Rattle.automata.specs.Change.{subtree_automaton, subtrees}
use Rattle.automata.specs.Distinguishable.{Slot}
use Rattle.automata.specs.OpenStates.{pairs_of}
use Rattle.automata.specs.Product.{fst, lists}
use Rattle.automata.specs.ProductView.{AllIn, pairs_with}
use Rattle.automata.specs.Totals.{product_over}
use Rattle.lists.specs.Closure.{elem}
use Rattle.lists.specs.Positions.{Pair}
use Rattle.lists.specs.Tests.{Distinct, ◌∈◌}
use Rattle.trees.specs.Context.{Frame}
use Rattle.trees.specs.Listing.{first_trees, later_trees}
use Rattle.trees.specs.Tree.{Forest, ◌⧺◌, Tree, cons, nil}
use Rattle.automata.proofs.Frames.{eq_frame-same, eq_frame-true, eq_slot-same, eq_slot-true, in-once, once-distinct}
use Rattle.automata.proofs.Frames.{once-in}
use Rattle.automata.proofs.Legal.{runs-count}
use Rattle.automata.proofs.Nodes.{in-lists, lists-in}
use Rattle.automata.proofs.PairForests.{pair-trees, pairs-inj, tree-pairs}
use Rattle.automata.proofs.PairNodes.{lists-distinct, lists_length, sided}
use Rattle.automata.proofs.PairRuns.{both, both-fst}
use Rattle.automata.proofs.ProductBound.{pairs-distinct}
use Rattle.automata.proofs.StatePairs.{state-pairs}
use Rattle.automata.proofs.Steps.{runs_append}
use Rattle.automata.proofs.SubtreeNodes.{InTree}
use Rattle.automata.proofs.TotalsSums.{product-same}
use Rattle.lists.proofs.Closure.{elem_in, in-elem}
use Rattle.lists.proofs.Distinct.{distinct-length, filter-distinct, map-distinct, partners-length}
use Rattle.lists.proofs.Tests.{filter-in, in-filter, map-in}
use Rattle.trees.proofs.Forests.{first-whole, later-whole}

-- something holds of all elements of a list, or one of them is an exception
search : {X Q : Type 0} (P : X → Type 0) (xs : List X) → ((x : X) → x ∈ xs → P x ⊎ Q) →
    ((x : X) → x ∈ xs → P x) ⊎ Q
search P [] h = inl (λ x i. absurd i)
search {X} {Q} P (x ∷ xs) h = go (search P xs (λ y i. h y (inr i))) (h x (inl refl))
  where
    all : P x → ((y : X) → y ∈ xs → P y) → (y : X) → y ∈ (x ∷ xs) → P y
    all p k y (inl e) = subst P (sym e) p
    all p k y (inr i) = k y i

    go : ((y : X) → y ∈ xs → P y) ⊎ Q → P x ⊎ Q → ((y : X) → y ∈ (x ∷ xs) → P y) ⊎ Q
    go (inr q) r = inr q
    go (inl k) (inr q) = inr q
    go (inl k) (inl p) = inl (all p k)

-- a list of trees, cut where its states are
cut : (A : Automaton) (l r : List ℕ) (g : Forest) → runs A g ≡ l ++ r →
    (b : Forest) × (c : Forest) × (b ⧺ c ≡ g) × (runs A b ≡ l) × (runs A c ≡ r)
cut A [] r g e = (nil, g, refl, refl, e)
cut A (q ∷ l) r nil e = let z : ◌≡◌ {A = ℕ} 0 1 = cc in absurd (omega arith)
cut A (q ∷ l) r (cons u g) e =
    let p : run A u ≡ q = cc in
    let d : runs A g ≡ l ++ r = cc in
    let (b, c, w, x, y) = cut A l r g d in
    (cons u b, c, ap (cons u) w, cc (p, x), y)

module _ (A : Automaton) (fit : Fits A) (t : Tree) where
  abbrev B : Automaton
  B = subtree_automaton (subtrees t)

  abbrev R : List Pair
  R = pairs_with A t

  -- the pairs of a frame's siblings
  abbrev lifted : Frame → List Pair
  lifted f = both A B (f.before ⧺ f.after)

  -- the choices of pairs for a slot's arguments
  abbrev liftings : Slot → List (List Pair)
  liftings π = lists R fst (π.before ++ π.after)

  liftings-length : (π : Slot) → length (liftings π) ≡ product_over (pairs_of A t) (π.before ++ π.after)
  liftings-length π =
      lists_length R fst (π.before ++ π.after)
      ∙ product-same (sided R fst) (pairs_of A t) (π.before ++ π.after) (λ q i. state-pairs A fit t q)

  lifted-states : (f : Frame) → map fst (lifted f) ≡ runs A f.before ++ runs A f.after
  lifted-states f = both-fst A B (f.before ⧺ f.after) ∙ runs_append A f.before f.after

  lifted-in : (f : Frame) (π : Slot) → state_slot A f ≡ π → AllIn R (lifted f) → lifted f ∈ liftings π
  lifted-in f π s h =
      subst (λ (qs : List ℕ). lifted f ∈ lists R fst qs)
      (lifted-states f ∙ ap (λ (ρ : Slot). ρ.before ++ ρ.after) s) (in-lists R fst (lifted f) h)

  -- frames over one slot with the same pairs are the same, if these are pairs of subtrees
  lifted-inj : (f g : Frame) → InTree A t (f.before ⧺ f.after) → state_slot A f ≡ state_slot A g →
      lifted f ≡ lifted g → f ≡ g
  lifted-inj f g h s e =
      let d = pairs-inj A t (f.before ⧺ f.after) (g.before ⧺ g.after) h e in
      let n = sym (runs-count A f.before) ∙ ap (λ (ρ : Slot). length ρ.before) s ∙ runs-count A g.before in
      let l = ap (λ (ρ : Slot). ρ.label) s in
      let b = sym (first-whole f.before f.after) ∙ (λ i. first_trees (n i) (d i))
      ∙ first-whole g.before g.after in
      let c = sym (later-whole f.before f.after) ∙ (λ i. later_trees (n i) (d i))
      ∙ later-whole g.before g.after in
      λ i. record { label = l i; before = b i; after = c i }

  -- a frame for a choice of pairs
  lifting-frame : (π : Slot) (ks : List Pair) → ks ∈ liftings π →
      (f : Frame) × (state_slot A f ≡ π) × (lifted f ≡ ks)
  lifting-frame π ks i =
      let (all, m) = lists-in R fst (π.before ++ π.after) ks i in
      let (g, d) = pair-trees A t fit ks all in
      let (b, c, w, x, y) = cut A π.before π.after g (sym (both-fst A B g) ∙ ap (map fst) d ∙ m) in (
        record { label = π.label; before = b; after = c },
        (λ i. record { label = π.label; before = x i; after = y i }),
        ap (both A B) w ∙ d,
      )

  module _ (F : List Frame) (within : (f : Frame) → f ∈ F → InTree A t (f.before ⧺ f.after)) where
    module _ (π : Slot) where
      at_in : (f : Frame) → f ∈ frames_at A π F → (f ∈ F) × (state_slot A f ≡ π)
      unfolding frames_at
      at_in f i =
          let (j, e) = filter-in (λ f. eq_slot (state_slot A f) π) (distinct_frames F) f i in
          (once-in F f j, eq_slot-true (state_slot A f) π e)

      in-at : (f : Frame) → f ∈ F → state_slot A f ≡ π → f ∈ frames_at A π F
      unfolding frames_at
      in-at f i s =
          in-filter (λ f. eq_slot (state_slot A f) π) (distinct_frames F) f (in-once F f i)
          (ap (λ (ρ : Slot). eq_slot ρ π) s ∙ eq_slot-same π)

      at-distinct : Distinct (frames_at A π F)
      unfolding frames_at
      at-distinct = filter-distinct (λ f. eq_slot (state_slot A f) π) (distinct_frames F) (once-distinct F)

      -- the pairs of the frames at the slot are choices, none twice
      at-liftings : (ks : List Pair) → ks ∈ map lifted (frames_at A π F) → ks ∈ liftings π
      at-liftings ks i =
          let (f, j, e) = map-in lifted (frames_at A π F) ks i in
          let (k, s) = at_in f j in
          subst (λ (js : List Pair). js ∈ liftings π) (sym e)
          (lifted-in f π s (tree-pairs A t fit (f.before ⧺ f.after) (within f k)))

      lifted-distinct : Distinct (map lifted (frames_at A π F))
      lifted-distinct =
          map-distinct lifted (frames_at A π F)
          (λ f g i j e. lifted-inj f g (within f (at_in f i).0) ((at_in f i).1 ∙ sym (at_in g j).1) e) at-distinct

      at_length : length (frames_at A π F) ≤ length (liftings π)
      at_length =
          omega (
            arith,
            distinct-length (map lifted (frames_at A π F)) (liftings π) lifted-distinct at-liftings,
            length-map (frames_at A π F) lifted,
          )

      -- a frame of a covered slot is in the list
      pub covered-in : covered A t π F ≡ true → (f : Frame) → state_slot A f ≡ π →
          AllIn (pairs_with A t) (both A (subtree_automaton (subtrees t)) (f.before ⧺ f.after)) → f ∈ F
      unfolding covered
      covered-in c f s h = go (elem eq_frame f (frames_at A π F)) refl
        where
          missing : elem eq_frame f (frames_at A π F) ≡ false → lifted f ∈ map lifted (frames_at A π F) → ⊥
          missing e i =
              let (g, j, d) = map-in lifted (frames_at A π F) (lifted f) i in
              let (k, r) = at_in g j in
              let same = lifted-inj g f (within g k) (r ∙ sym s) (sym d) in
              true≢false
              (sym (in-elem eq_frame eq_frame-true eq_frame-same f (frames_at A π F)
              (subst (λ (x : Frame). x ∈ frames_at A π F) same j))
              ∙ e)

          more : (ks : List Pair) → ks ∈ (lifted f ∷ map lifted (frames_at A π F)) → ks ∈ liftings π
          more ks (inl e) = subst (λ (js : List Pair). js ∈ liftings π) (sym e) (lifted-in f π s h)
          more ks (inr i) = at-liftings ks i

          go : (b : Bool) → elem eq_frame f (frames_at A π F) ≡ b → f ∈ F
          go true e = (at_in f (elem_in eq_frame eq_frame-true eq_frame-same f (frames_at A π F) e)).0
          go false e =
              absurd (omega (
                arith,
                distinct-length (lifted f ∷ map lifted (frames_at A π F)) (liftings π)
                    (missing e, lifted-distinct) more,
                length-map (frames_at A π F) lifted,
                liftings-length π,
                eqb-true (product_over (pairs_of A t) (π.before ++ π.after)) (length (frames_at A π F)) c,
              ))

      -- a slot that is not covered has a frame outside the list
      pub uncovered-frame : covered A t π F ≡ false → (f : Frame) × (state_slot A f ≡ π) × (f ∈ F → ⊥)
      unfolding covered
      uncovered-frame c = go (search Lifted (liftings π) each)
        where
          Lifted : List Pair → Type 0
          Lifted ks = (f : Frame) × (f ∈ frames_at A π F) × (lifted f ≡ ks)

          each : (ks : List Pair) → ks ∈ liftings π →
              Lifted ks ⊎ ((f : Frame) × (state_slot A f ≡ π) × (f ∈ F → ⊥))
          each ks i = let (f, s, e) = lifting-frame π ks i in
              decide f s e (elem eq_frame f (frames_at A π F)) refl
            where
              decide : (f : Frame) → state_slot A f ≡ π → lifted f ≡ ks → (b : Bool) →
                  elem eq_frame f (frames_at A π F) ≡ b → Lifted ks ⊎ ((f : Frame) × (state_slot A f ≡ π) × (f ∈ F → ⊥))
              decide f s e true d = inl (f, elem_in eq_frame eq_frame-true eq_frame-same f (frames_at A π F) d, e)
              decide f s e false d = inr (
                f,
                s,
                λ i. true≢false
                    (sym (in-elem eq_frame eq_frame-true eq_frame-same f (frames_at A π F) (in-at f i s)) ∙ d),
              )

          go : ((ks : List Pair) → ks ∈ liftings π → Lifted ks) ⊎ ((f : Frame) × (state_slot A f ≡ π) × (f ∈ F → ⊥)) →
              (f : Frame) × (state_slot A f ≡ π) × (f ∈ F → ⊥)
          go (inr r) = r
          go (inl all) =
              let l = partners-length (λ (ks : List Pair) (f : Frame). lifted f ≡ ks) (λ js ks f d e. sym d ∙ e)
              (liftings π) (frames_at A π F) (lists-distinct R fst (pairs-distinct A B) (π.before ++ π.after)) all in
              let e : product_over (pairs_of A t) (π.before ++ π.after) ≡ length (frames_at A π F) =
              omega (arith, l, at_length, liftings-length π) in
              absurd (true≢false
              (sym (eq-eqb (product_over (pairs_of A t) (π.before ++ π.after)) (length (frames_at A π F)) e) ∙ c))

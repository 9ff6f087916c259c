-- The arrays of a tree's subtrees count those that run to a state.
use mathlib.Core.Bool.{Bool, cond, false, true}
use mathlib.Core.List.{List, [], ◌++◌, ◌∷◌, map}
use mathlib.Core.Path.{◌∙◌, ◌≡◌, ap, ap₂, refl, sym}
use Prim.Native.Nat.{◌+◌, ◌<◌, suc, zero, ℕ}
use native.Mathlib.Nat.{zero-add}
use native.Mathlib.Omega.{arith}
use lib.Dec.{eqb}
use lib.ListN.{get_or, length}
use Rattle.automata.specs.Automaton.{Automaton, run}
use Rattle.automata.specs.OpenStates.{at_state, subtrees_at}
use Rattle.lists.specs.Positions.{up_from}
use Rattle.lists.specs.Tests.{◌∈◌, bit, filter}
use Rattle.pairs.specs.Counts.{entries_with, entry}
use Rattle.subtrees.specs.Store.{Lists, bottom_up}
use Rattle.subtrees.specs.declared.Subtrees.{Subtrees}
use Rattle.trees.specs.Tree.{Tree, no_tree}
use Rattle.automata.proofs.SubtreeNodes.{at-distinct, at_in, in-at}
use borrow.Author.Tests.{eq-eqb, eqb-true}
use Rattle.lists.proofs.Distinct.{distinct-length, filter-distinct}
use Rattle.lists.proofs.Intervals.{tabulated, tabulated-suc}
use Rattle.lists.proofs.Tests.{filter-in, in-filter}

-- one more at the end
filter-last : (p : Tree → Bool) (us : List Tree) (u : Tree) →
    length (filter p (us ++ (u ∷ []))) ≡ bit (p u) + length (filter p us)
filter-last p [] u = go (p u)
  where
    go : (b : Bool) → length {A = Tree} (cond b (u ∷ []) []) ≡ bit b + 0
    go true = refl
    go false = refl
filter-last p (v ∷ us) u = go (p v) (filter-last p us u)
  where
    go : (b : Bool) → length (filter p (us ++ (u ∷ []))) ≡ bit (p u) + length (filter p us) →
        length (cond b (v ∷ filter p (us ++ (u ∷ []))) (filter p (us ++ (u ∷ [])))) ≡
        bit (p u) + length (cond b (v ∷ filter p us) (filter p us))
    go true e = omega arith
    go false e = e

-- entries that are the states of trees
entries-states : (A : Automaton) (s : List ℕ) (f : ℕ → Tree) (q n : ℕ) →
    ((j : ℕ) → j < n → entry s j ≡ run A (f j)) →
    entries_with s n q ≡ length (filter (λ u. eqb (run A u) q) (map f (up_from 0 n)))
entries-states A s f q zero h = refl
entries-states A s f q (suc n) h =
    ap₂ (λ (x y : ℕ). bit (eqb x q) + y) (h n (omega arith)) (entries-states A s f q n (λ j l. h j (omega arith)))
    ∙ sym (filter-last (λ u. eqb (run A u) q) (map f (up_from 0 n)) (f n))
    ∙ ap (λ (k : ℕ). length (filter (λ u. eqb (run A u) q) (map f (up_from 0 n) ++ (f k ∷ [])))) (sym (zero-add n))
    ∙ ap (λ (us : List Tree). length (filter (λ u. eqb (run A u) q) us)) (sym (tabulated-suc f 0 n))

pub states-counted : {A : Automaton} {t : Tree} {s : Subtrees} → Lists A t (bottom_up t) s → (q : ℕ) →
    entries_with s.states s.count q ≡ at_state A t q
states-counted {A} {t} {s} L q =
    entries-states A s.states (λ j. get_or (bottom_up t) j no_tree) q s.count L.stored.state
    ∙ ap (λ (us : List Tree). length (filter (λ u. eqb (run A u) q) us))
    (tabulated (λ j. get_or (bottom_up t) j no_tree) 0 s.count no_tree (bottom_up t) L.stored.size
    (λ i h. ap (λ (k : ℕ). get_or (bottom_up t) k no_tree) (zero-add i)))
    ∙ omega (
      arith,
      distinct-length listed (subtrees_at A t q) (filter-distinct (λ u. eqb (run A u) q) (bottom_up t) L.stored.distinct)
          to,
      distinct-length (subtrees_at A t q) listed (at-distinct A t q) from,
    )
  where
    listed : List Tree
    listed = filter (λ u. eqb (run A u) q) (bottom_up t)

    to : (u : Tree) → u ∈ listed → u ∈ subtrees_at A t q
    to u i = let (j, e) = filter-in (λ u. eqb (run A u) q) (bottom_up t) u i in
        in-at A t q u (L.subtree u j) (eqb-true (run A u) q e)

    from : (u : Tree) → u ∈ subtrees_at A t q → u ∈ listed
    from u i = let (j, e) = at_in A t q u i in
        in-filter (λ u. eqb (run A u) q) (bottom_up t) u (L.every-subtree u j) (eq-eqb (run A u) q e)

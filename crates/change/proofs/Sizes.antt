-- Refusals 16 and 17 by counting.
use mathlib.Core.Bool.{Bool, ◌&&◌, false, true}
use mathlib.Core.List.{List, map}
use mathlib.Core.Path.{◌∙◌, ◌≡◌, ap, ap₂, refl, sym}
use Prim.Native.Nat.{◌+◌, ◌≤◌, ℕ}
use native.Mathlib.Omega.{arith}
use lib.Dec.{leb}
use lib.ListN.{length, length-append, length-map}
use borrow.Author.Tests.{le-leb, leb-false, leb-true, lt-leb}
use Rattle.automata.specs.Automaton.{Automaton, states}
use Rattle.automata.specs.NamedChange.{changed_automaton, names_in_use}
use Rattle.automata.specs.OpenStates.{open_state, sum_over}
use Rattle.automata.specs.Quotient.{gone_count, has_own, new_count, own_name}
use Rattle.calls.specs.Calls.{changed}
use Rattle.change.specs.Changing.{change_of}
use Rattle.change.specs.Given.{Named, fits_within}
use Rattle.format.specs.Format.{max_states}
use Rattle.lists.specs.Positions.{up_from}
use Rattle.lists.specs.Tests.{filter}
use Rattle.naming.specs.Choice.{name_in}
use Rattle.quotient.specs.Setting.{kept_count, kept_lengths}
use Rattle.subtrees.specs.Store.{bottom_up}
use Rattle.subtrees.specs.declared.Subtrees.{Subtrees}
use Rattle.table.specs.Layout.{decode}
use Rattle.trees.specs.Tree.{Tree}
use Rattle.automata.proofs.NamedChange.{searched-states, searched-transitions}
use Rattle.lists.proofs.Tests.{and_both, and_left, and_right}
use Rattle.change.proofs.Inputs.{given-canonical, given-listed}

pub changed-automaton : (inserting : Bool) (t : Tree) (A : Automaton) →
    changed_automaton inserting t A ≡ changed (change_of inserting t) A
unfolding changed_automaton
changed-automaton true t A = refl
changed-automaton false t A = refl

-- both sides of a comparison with the same number added
leb-added : (x y l g : ℕ) → x + g ≡ y → leb y (l + g) ≡ leb x l
leb-added x y l g e = go (leb x l) refl
  where
    go : (b : Bool) → leb x l ≡ b → leb y (l + g) ≡ b
    go true d = le-leb y (l + g) (let h = leb-true x l d in omega arith)
    go false d = lt-leb y (l + g) (let h = leb-false x l d in omega arith)

kept-used : (A : Automaton) (t : Tree) (ts : List Tree) (ν : Tree → ℕ) →
    length (names_in_use A t ts ν) ≡ kept_count A t ts ν
unfolding names_in_use kept_count
kept-used A t ts ν =
    length-append (filter (open_state A t) (up_from 1 (states A))) (map (own_name A ts) (filter (has_own A ts ν) ts))
    ∙ ap (λ (k : ℕ). length (filter (open_state A t) (up_from 1 (states A))) + k)
    (length-map (filter (has_own A ts ν) ts) (own_name A ts))

-- the counts say whether the changed automaton is within a limit
pub counts-fit : {inserting : Bool} {t : Tree} {b : List ℕ} {k n : ℕ} {r : Subtrees} {o names : List ℕ} →
    Named inserting t b k n r o names → (limit : ℕ) {f : Bool} →
    f ≡ (leb (kept_count (decode b) t (bottom_up t) (name_in (bottom_up t) names)) max_states &&
    leb (sum_over (kept_lengths (decode b) t (name_in (bottom_up t) names)) (decode b).transitions +
    new_count (decode b) (bottom_up t) (name_in (bottom_up t) names))
    (limit + gone_count (decode b) (bottom_up t) (name_in (bottom_up t) names))) →
    f ≡ fits_within limit (changed_automaton inserting t (decode b))
counts-fit {inserting} {t} {b} {k} {n} {r} {o} {names} N limit {f} e =
    let A = decode b in
    let ts = bottom_up t in
    let ν = name_in (bottom_up t) names in
    let X = given-canonical N.given in
    let L = given-listed N.given in
    e ∙ ap₂ (λ (x y : Bool). x && y)
    (ap (λ (i : ℕ). leb i max_states) (sym (kept-used A t ts ν) ∙ sym (searched-states inserting A X t ts L ν N.searched)))
    (leb-added (length (changed_automaton inserting t A).transitions)
    (sum_over (kept_lengths A t ν) A.transitions + new_count A ts ν) limit (gone_count A ts ν)
    (searched-transitions inserting A X t ts L ν N.searched))

-- what is within a limit is within a greater one
pub within_more : (A : Automaton) (l g : ℕ) → l ≤ g → fits_within l A ≡ true → fits_within g A ≡ true
within_more A l g h e =
    let few = leb-true (length A.transitions) l (and_right (leb (states A) max_states) _ e) in
    and_both (and_left (leb (states A) max_states) _ e) (le-leb (length A.transitions) g (omega arith))

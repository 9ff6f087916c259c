-- States numbered one by one: each round appends the output of the first ready transition to the order, and
-- gives it the next number.
use mathlib.Core.Bool.{Bool, false, true, true≢false}
use mathlib.Core.List.{List, [], ◌++◌, ◌∷◌, map}
use mathlib.Core.Logic.{◌⊎◌, inl, inr}
use mathlib.Core.Option.{none, some}
use mathlib.Core.Path.{◌∙◌, ◌≡◌, ap, refl, subst, sym}
use Prim.Native.Nat.{◌*◌, ◌+◌, ◌-◌, ◌<◌, suc, zero, ℕ}
use native.Mathlib.Nat.{sub-zero}
use native.Mathlib.Numerals.{add-one}
use native.Mathlib.Omega.{arith}
use lib.Dec.{eqb}
use lib.ListN.{length, length-append, length-map, length-set, set, take}
use lib.Seq.{get_or-set_other, get_or-set_same, length-take-le, take-suc-set}
use borrow.Author.Tests.{eqb-false, eqb-true, ne_eqb, not-true}
use Rattle.std.specs.Prelude.{None, Option as Found, Some}
use Rattle.automata.specs.Automaton.{Transition}
use Rattle.automata.specs.Renumber.{best, number_of, numbering, numbering_from}
use Rattle.format.specs.Format.{transition_bytes}
use Rattle.lists.specs.Closure.{elem}
use Rattle.lists.specs.Positions.{shift, up_from}
use Rattle.lists.specs.Tests.{Distinct, ◌∈◌, every}
use Rattle.minimize.specs.Renaming.{name_in}
use Rattle.minimize.specs.Numbering.{NumberingHeld, NumbersOf, Outputs, Unnumbered, picked}
use Rattle.table.specs.Layout.{nth_transition, out_of, transitions_in}
use Rattle.automata.proofs.Numbering.{Best, BestView, best-view}
use Rattle.lists.proofs.Closure.{in-elem}
use Rattle.lists.proofs.Distinct.{append-distinct, distinct-length}
use Rattle.lists.proofs.Positions.{in-up_from, up_from-length}
use Rattle.lists.proofs.Tests.{and_right, append-in, eqb_same, in_map, or-none-left, or-none-right}

-- a state appended to an order gets the next number
number-new : (o : List ℕ) (q : ℕ) → elem eqb q o ≡ false → number_of (o ++ (q ∷ [])) q ≡ suc (length o)
number-new [] q h = rw (eqb_same q)
number-new (x ∷ o) q h =
    rw (or-none-left (eqb q x) (elem eqb q o) h)
    (ap shift (number-new o q (or-none-right (eqb q x) (elem eqb q o) h)))

number-other : (o : List ℕ) (q x : ℕ) → (x ≡ q → ⊥) → number_of (o ++ (q ∷ [])) x ≡ number_of o x
number-other [] q x h = rw (ne_eqb x q h)
number-other (y ∷ o) q x h = rw (number-other o q x h)

pub numbers-next : {numbers o : List ℕ} → NumbersOf numbers o → length numbers ≡ 256 → {q : ℕ} → q < 256 →
    elem eqb q o ≡ false → {n : ℕ} → n ≡ suc (length o) → NumbersOf (set numbers q n) (o ++ (q ∷ []))
numbers-next {numbers} {o} of size {q} h new {n} e = record { number = λ x. go x (eqb x q) refl }
  where
    go : (x : ℕ) (b : Bool) → eqb x q ≡ b → name_in (set numbers q n) x ≡ number_of (o ++ (q ∷ [])) x
    go x true t =
        let z = eqb-true x q t in
        ap (name_in (set numbers q n)) z ∙ get_or-set_same numbers q n 0 (omega arith) ∙ e ∙
        sym (ap (number_of (o ++ (q ∷ []))) z ∙ number-new o q new)
    go x false t =
        let z = eqb-false x q t in
        get_or-set_other numbers q x n 0 z ∙ of.number x ∙ sym (number-other o q x z)

-- if none is ready, the order is complete
numbering-still : (Q : List Transition) (d : ℕ) (o : List ℕ) → best o Q ≡ none → numbering_from Q d o ≡ o
numbering-still Q zero o e = refl
numbering-still Q (suc d) o e = rw e

numbering-step : (Q : List Transition) (d : ℕ) (o : List ℕ) (τ : Transition) → best o Q ≡ some τ →
    numbering_from Q (suc d) o ≡ numbering_from Q d (o ++ (τ.out ∷ []))
numbering-step Q d o τ e = rw e

abbrev pub output : Transition → ℕ
output τ = τ.out

-- k states are numbered
pub record Ordering (s : List ℕ) (count : ℕ) (order numbers : List ℕ) (k : ℕ) : Type 0 where
  pub few : k < 256
  pub room : length order ≡ 256
  pub room' : length numbers ≡ 256
  pub numbered : NumbersOf numbers (take k order)
  pub distinct : Distinct (take k order)
  pub outputs : (q : ℕ) → q ∈ take k order → q ∈ map output (transitions_in s count)
  pub states : (q : ℕ) → q ∈ take k order → q ∈ up_from 1 255
  pub left :
      numbering (transitions_in s count) ≡
      numbering_from (transitions_in s count) (length (transitions_in s count) - k) (take k order)

-- b is the first ready transition, for every order that has these numbers
abbrev pub Leads : List ℕ → ℕ → List ℕ → Found ℕ → Type 0
Leads s count numbers b =
    (o : List ℕ) → NumbersOf numbers o → picked s b ≡ best o (transitions_in s count)

pub ordering-start : (s : List ℕ) (count : ℕ) {order numbers : List ℕ} → length order ≡ 256 →
    length numbers ≡ 256 → Unnumbered numbers → Ordering s count order numbers 0
unfolding numbering
ordering-start s count room room' zeros = record {
  few = omega arith;
  room = room;
  room' = room';
  numbered = record { number = zeros };
  distinct = tt;
  outputs = λ q i. absurd i;
  states = λ q i. absurd i;
  left = ap (λ n. numbering_from (transitions_in s count) n []) (sym (sub-zero (length (transitions_in s count))));
}

in-snoc : (o : List ℕ) (q x : ℕ) → x ∈ (o ++ (q ∷ [])) → (x ∈ o) ⊎ (x ≡ q)
in-snoc o q x i = go (append-in o (q ∷ []) x i)
  where
    go : (x ∈ o) ⊎ (x ∈ (q ∷ [])) → (x ∈ o) ⊎ (x ≡ q)
    go (inl j) = inl j
    go (inr (inl e)) = inr e
    go (inr (inr x)) = elim x [ ]

module _ {s : List ℕ} {count : ℕ} {order numbers : List ℕ} {k : ℕ} (inv : Ordering s count order numbers k) where
  abbrev Q : List Transition
  Q = transitions_in s count

  abbrev o : List ℕ
  o = take k order

  length_o : length o ≡ k
  length_o = length-take-le k order (omega (arith, inv.few, inv.room))

  pub ordering-end : Leads s count numbers None → NumberingHeld (transitions_in s count) order numbers k
  ordering-end leads =
      let none-ready : best o Q ≡ none = sym (leads o inv.numbered) in
      let e = sym (inv.left ∙ numbering-still Q (length Q - k) o none-ready) in record {
        few = inv.few;
        size = inv.room;
        states = e;
        numbered = subst (λ (l : List ℕ). NumbersOf numbers l) e inv.numbered;
      }

  module _ {b : ℕ} (h : b < count) (leads : Leads s count numbers (Some b)) {q : ℕ} (out : q ≡ out_of s (transition_bytes * b)) (lead : Outputs s count)
      (byte : q < 256) where
    found : some (nth_transition s b) ≡ best o Q
    found = leads o inv.numbered

    first : Best o Q (nth_transition s b)
    first = subst (BestView o Q) (sym found) (best-view o Q)

    new : elem eqb q o ≡ false
    new =
        ap (λ x. elem eqb x o) out ∙
        not-true (elem eqb (nth_transition s b).out o)
        (and_right (every (λ p. elem eqb p o) (nth_transition s b).args) _ first.1)

    more : take (k + 1) (set order k q) ≡ o ++ (q ∷ [])
    more = ap (λ n. take n (set order k q)) (add-one k) ∙ take-suc-set order k q (omega (arith, inv.few, inv.room))

    distinct' : Distinct (o ++ (q ∷ []))
    distinct' = append-distinct o (q ∷ []) inv.distinct ((λ i. i), tt) (λ x i j. go x i j)
      where
        go : (x : ℕ) → x ∈ o → x ∈ (q ∷ []) → ⊥
        go x i (inl e) =
            true≢false (sym (in-elem eqb eqb-true eqb_same q o (subst (λ (y : ℕ). y ∈ o) e i)) ∙ new)
        go x i (inr j) = elim j [ ]

    outputs' : (x : ℕ) → x ∈ (o ++ (q ∷ [])) → x ∈ map output Q
    outputs' x i = go (in-snoc o q x i)
      where
        go : (x ∈ o) ⊎ (x ≡ q) → x ∈ map output Q
        go (inl j) = inv.outputs x j
        go (inr e) = rw (e ∙ out) (in_map output Q (nth_transition s b) first.0)

    states' : (x : ℕ) → x ∈ (o ++ (q ∷ [])) → x ∈ up_from 1 255
    states' x i = go (in-snoc o q x i)
      where
        go : (x ∈ o) ⊎ (x ≡ q) → x ∈ up_from 1 255
        go (inl j) = inv.states x j
        go (inr e) = in-up_from 1 255 x (omega (arith, lead b h)) (omega arith)

    length' : length (o ++ (q ∷ [])) ≡ suc k
    length' = length-append o (q ∷ []) ∙ (let z = length_o in omega arith)

    pub ordering_few : k + 1 < 256
    ordering_few =
        omega (arith, length', distinct-length (o ++ (q ∷ [])) (up_from 1 255) distinct' states', up_from-length 1 255)

    -- no more states than transitions
    rounds : length Q - k ≡ suc (length Q - (k + 1))
    rounds =
        omega (
          arith,
          length',
          distinct-length (o ++ (q ∷ [])) (map output Q) distinct' outputs',
          length-map Q output,
        )

    numbered' : NumbersOf (set numbers q (k + 1)) (take (k + 1) (set order k q))
    numbered' = rw more (numbers-next inv.numbered inv.room' byte new (add-one k ∙ ap suc (sym length_o)))

    next' : Ordering s count (set order k q) (set numbers q (k + 1)) (k + 1)
    next' = record {
      few = ordering_few;
      room = length-set order k q ∙ inv.room;
      room' = length-set numbers q (k + 1) ∙ inv.room';
      numbered = numbered';
      distinct = rw more distinct';
      outputs = rw more outputs';
      states = rw more states';
      left = inv.left ∙ ap (λ d. numbering_from Q d o) rounds ∙
          numbering-step Q (length Q - (k + 1)) o (nth_transition s b) (sym found) ∙
          ap (λ x. numbering_from Q (length Q - (k + 1)) (o ++ (x ∷ []))) (sym out) ∙
          ap (numbering_from Q (length Q - (k + 1))) (sym more);
    }

    -- p is q as an index
    pub ordering-next : {p : ℕ} → p ≡ q → Ordering s count (set order k q) (set numbers p (k + 1)) (k + 1)
    ordering-next e =
        subst (λ (x : ℕ). Ordering s count (set order k q) (set numbers x (k + 1)) (k + 1)) (sym e) next'

-- The first ready transition, found in one pass: a transition takes the place of the best so far if it is
-- ready and comes before it.
use mathlib.Core.Bool.{Bool, ◌&&◌, ◌||◌, and-false, and-true, cond, false, not, true, true≢false}
use mathlib.Core.List.{List, [], ◌∷◌}
use mathlib.Core.Option.{Option, none, some}
use mathlib.Core.Path.{◌∙◌, ◌≡◌, ap, fun_ext, refl, sym}
use Prim.Native.Nat.{◌+◌, ◌-◌, ◌<◌, ◌≤◌, suc, zero, ℕ}
use native.Mathlib.Nat.{sub-zero}
use lib.Dec.{eqb}
use Rattle.std.specs.Prelude.{None, Option as Found, Some}
use Rattle.automata.specs.Automaton.{Transition}
use Rattle.automata.specs.Order.{key, precedes}
use Rattle.automata.specs.Renumber.{best, choose, number_of, ready, renumber, renumber_by}
use Rattle.lists.specs.Closure.{elem}
use Rattle.lists.specs.Positions.{shift}
use Rattle.lists.specs.Tests.{every}
use Rattle.marking.specs.Marks.{marked, nonzero}
use Rattle.minimize.specs.Renaming.{name_in}
use Rattle.minimize.specs.Numbering.{NumbersOf, improves, picked, ready_by}
use Rattle.table.specs.Layout.{nth_transition, transitions_in}
use Rattle.automata.proofs.Order.{lex-below, precedes-trans}
use Rattle.fields.proofs.Transitions.{transitions_from}
use Rattle.lists.proofs.Loops.{up_from-next, up_from-none}

nonzero-shift : (n : ℕ) → nonzero (shift n) ≡ nonzero n
nonzero-shift zero = refl
nonzero-shift (suc n) = refl

-- a state has a number if and only if it is in the order
pub nonzero-number : (o : List ℕ) (q : ℕ) → nonzero (number_of o q) ≡ elem eqb q o
nonzero-number [] q = refl
nonzero-number (x ∷ o) q = go (eqb q x) (nonzero-number o q)
  where
    go : (b : Bool) → nonzero (number_of o q) ≡ elem eqb q o →
        nonzero (cond b 1 (shift (number_of o q))) ≡ (b || elem eqb q o)
    go true e = refl
    go false e = nonzero-shift (number_of o q) ∙ e

module _ {numbers o : List ℕ} (of : NumbersOf numbers o) where
  pub marked-number : (q : ℕ) → marked numbers q ≡ elem eqb q o
  marked-number q = ap nonzero (of.number q) ∙ nonzero-number o q

  pub ready_by_lem : (τ : Transition) → ready_by numbers τ ≡ ready o τ
  ready_by_lem τ = ap (λ (f : ℕ → Bool). every f τ.args && not (f τ.out)) (fun_ext marked-number)

  pub precedes-by-numbers : (σ τ : Transition) →
      precedes (renumber_by (name_in numbers) σ) (renumber_by (name_in numbers) τ) ≡
      precedes (renumber o σ) (renumber o τ)
  precedes-by-numbers σ τ = ap (λ (ν : ℕ → ℕ). precedes (renumber_by ν σ) (renumber_by ν τ)) (fun_ext of.number)

module _ (numbers : List ℕ) (τ : Transition) where
  pub numbered-unready : marked numbers τ.out ≡ true → false ≡ ready_by numbers τ
  numbered-unready e = sym (rw e (and-false (every (marked numbers) τ.args)))

  pub unnumbered-ready : marked numbers τ.out ≡ false → every (marked numbers) τ.args ≡ ready_by numbers τ
  unnumbered-ready e = sym (rw e (and-true (every (marked numbers) τ.args)))

-- ---- one transition compared with the best so far

module _ (o s : List ℕ) (i : ℕ) where
  pub improves-unready : (b : Found ℕ) → ready o (nth_transition s i) ≡ false → false ≡ improves o s b i
  unfolding improves
  improves-unready None e = sym e
  improves-unready (Some b) e = rw e

  module _ (e : ready o (nth_transition s i) ≡ true) where
    pub improves-first : true ≡ improves o s None i
    unfolding improves
    improves-first = sym e

    pub improves-before : (b : ℕ) →
        precedes (renumber o (nth_transition s i)) (renumber o (nth_transition s b)) ≡ improves o s (Some b) i
    unfolding improves
    improves-before b = rw e

-- ---- the pass

-- the first of a best so far and the best of what is left
abbrev pub held : List ℕ → Option Transition → Option Transition → Option Transition
held o none r = r
held o (some β) r = choose o β r

held_none : (o : List ℕ) (r : Option Transition) → held o r none ≡ r
held_none o none = refl
held_none o (some τ) = refl

-- choosing the best is associative
choose-choose : (o : List ℕ) (β τ : Transition) (r : Option Transition) →
    choose o β (choose o τ r) ≡ cond (precedes (renumber o τ) (renumber o β)) (choose o τ r) (choose o β r)
choose-choose o β τ none = go (precedes (renumber o τ) (renumber o β))
  where
    go : (b : Bool) → cond b (some τ) (some β) ≡ cond b (some τ) (some β)
    go b = refl
choose-choose o β τ (some υ) =
    go (before υ τ) refl (before τ β) refl (before υ β) refl
  where
    before : Transition → Transition → Bool
    before x y = precedes (renumber o x) (renumber o y)

    go : (b : Bool) → precedes (renumber o υ) (renumber o τ) ≡ b →
        (c : Bool) → precedes (renumber o τ) (renumber o β) ≡ c →
        (d : Bool) → precedes (renumber o υ) (renumber o β) ≡ d →
        choose o β (cond b (some υ) (some τ)) ≡ cond c (cond b (some υ) (some τ)) (cond d (some υ) (some β))
    go true e true f true g = rw g
    go true e true f false g =
        absurd (true≢false
        (sym (precedes-trans (renumber o υ) (renumber o τ) (renumber o β) e f) ∙ g))
    go true e false f d g = rw g
    go false e true f d g = rw f
    go false e false f true g =
        absurd (true≢false
        (sym (lex-below (key (renumber o υ)) (key (renumber o τ)) (key (renumber o β)) g f) ∙ e))
    go false e false f false g = rw f

-- a pass at transition i of n, with b the best so far
pub record BestFrom (o s : List ℕ) (n : ℕ) (b : Found ℕ) (i : ℕ) : Type 0 where
  pub left : best o (transitions_in s n) ≡ held o (picked s b) (best o (transitions_from s i (n - i)))

module _ {o s : List ℕ} {n : ℕ} where
  pub best-start : BestFrom o s n None 0
  unfolding transitions_in
  best-start = record { left = rw (sub-zero n) }

  module _ {b : Found ℕ} {i : ℕ} (inv : BestFrom o s n b i) (h : i < n) where
    abbrev rest : Option Transition
    rest = best o (transitions_from s (i + 1) (n - (i + 1)))

    here : best o (transitions_in s n) ≡
        held o (picked s b) (cond (ready o (nth_transition s i)) (choose o (nth_transition s i) rest) rest)
    here = inv.left ∙ rw (up_from-next i n h)

    pub best-keep : false ≡ improves o s b i → BestFrom o s n b (i + 1)
    unfolding improves
    best-keep e = record { left = here ∙ go b e }
      where
        kept : (β : Transition) (c : Bool) →
            false ≡ (c && precedes (renumber o (nth_transition s i)) (renumber o β)) →
            choose o β (cond c (choose o (nth_transition s i) rest) rest) ≡ choose o β rest
        kept β false e = refl
        kept β true e = choose-choose o β (nth_transition s i) rest ∙ rw (← e)

        go : (b : Found ℕ) → false ≡ improves o s b i →
            held o (picked s b) (cond (ready o (nth_transition s i)) (choose o (nth_transition s i) rest) rest) ≡
            held o (picked s b) rest
        go None e = rw (← e)
        go (Some b) e = kept (nth_transition s b) (ready o (nth_transition s i)) e

    pub best-take : true ≡ improves o s b i → BestFrom o s n (Some i) (i + 1)
    unfolding improves
    best-take e = record { left = here ∙ go b e }
      where
        taken : (β : Transition) (c : Bool) →
            true ≡ (c && precedes (renumber o (nth_transition s i)) (renumber o β)) →
            choose o β (cond c (choose o (nth_transition s i) rest) rest) ≡ choose o (nth_transition s i) rest
        taken β false e = absurd (true≢false e)
        taken β true e = choose-choose o β (nth_transition s i) rest ∙ rw (← e)

        go : (b : Found ℕ) → true ≡ improves o s b i →
            held o (picked s b) (cond (ready o (nth_transition s i)) (choose o (nth_transition s i) rest) rest) ≡
            choose o (nth_transition s i) rest
        go None e = rw (← e)
        go (Some b) e = taken (nth_transition s b) (ready o (nth_transition s i)) e

  pub best-end : {b : Found ℕ} {i : ℕ} → BestFrom o s n b i → n ≤ i → picked s b ≡ best o (transitions_in s n)
  best-end {b} {i} inv h = sym (inv.left ∙ rw (up_from-none i n h) (held_none o (picked s b)))

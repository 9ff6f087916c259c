-- Marks that spread from arguments to outputs; in the end they are the open states.
use mathlib.Core.Bool.{Bool, ◌&&◌, ◌||◌, false, not, true}
use mathlib.Core.List.{List, [], ◌∷◌, map}
use mathlib.Core.Path.{◌∙◌, ◌≡◌, ap, refl, subst, sym}
use Prim.Native.Nat.{◌<◌, ℕ}
use native.Mathlib.Nat.{zero-add}
use native.Mathlib.Omega.{arith}
use lib.Dec.{eqb}
use lib.ListN.{length, set}
use borrow.Author.Tests.{eq-eqb, eqb-false, eqb-true}
use Rattle.automata.specs.Automaton.{Automaton, IsState, Transition, states}
use Rattle.automata.specs.OpenStates.{at_state, open_state, opens_at}
use Rattle.automata.specs.Totals.{sum_into}
use Rattle.automata.specs.Valid.{in_range}
use Rattle.format.specs.Format.{byte_values}
use Rattle.lists.specs.Positions.{up_from}
use Rattle.lists.specs.Tests.{◌∈◌, any}
use Rattle.marking.specs.Marks.{marked}
use Rattle.marking.specs.Spread.{Covers, Led, Spread, UpTo}
use Rattle.table.specs.Layout.{arg_of, arity_of, nth_transition, out_of, transition_at, transitions_in}
use Rattle.trees.specs.Tree.{Tree}
use Rattle.automata.proofs.OpenStates.{open-exact, open-out, opens-open}
use Rattle.automata.proofs.TotalsSums.{sum_same}
use Rattle.automata.proofs.Valid.{in-range, range-in, ranged-transition}
use Rattle.lists.proofs.Loops.{AnyFrom, any-start}
use Rattle.lists.proofs.Tests.{and_both, and_left, and_right, any-in, in-any, or_right, same_test}
use Rattle.marking.proofs.Spreading.{spread-mark}
use Rattle.table.proofs.Decoded.{in-transitions_in, transitions_in-in}
use Rattle.pairs.specs.Counts.{MarkedBy, Open, Setting, SomeUp, Subtrees, SumsInto, entry, nth_some_up, starts_at}

-- ---- a loop over arguments

any-mapped : {A B : Type 0} (p : B → Bool) (f : A → B) (xs : List A) → any p (map f xs) ≡ any (λ x. p (f x)) xs
any-mapped p f [] = refl
any-mapped p f (x ∷ xs) = rw (any-mapped p f xs)

pub args-any : (p : ℕ → Bool) (s : List ℕ) (at : ℕ) →
    AnyFrom (any p (transition_at s at).args) (λ k. p (arg_of s at k)) (arity_of s at) 0
args-any p s at =
    subst (λ (b : Bool). AnyFrom b (λ k. p (arg_of s at k)) (arity_of s at) 0)
    (sym (any-mapped p (arg_of s at) (up_from 0 (arity_of s at)))) (any-start (arity_of s at) (zero-add (arity_of s at)))

-- ---- one transition

any-implied : {A : Type 0} (p q : A → Bool) (xs : List A) → ((x : A) → p x ≡ true → q x ≡ true) →
    any p xs ≡ true → any q xs ≡ true
any-implied p q xs f e = let (x, i, h) = any-in p xs e in in-any q xs x i (f x h)

-- a mark at an argument gives the output its mark
pub spread-some : (s : List ℕ) (at : ℕ) (m : List ℕ) → length m ≡ byte_values → out_of s at < byte_values →
    marked m (out_of s at) ≡ false → any (marked m) (transition_at s at).args ≡ true →
    Spread (SomeUp s at) m (set m (out_of s at) 1) true
spread-some s at m size h e f =
    spread-mark (out_of s at) (omega arith) e (λ p up w. up (any-implied (marked m) p (transition_at s at).args w f))

-- ---- all of them

-- in a disjunction the right side matters only if the left one is false
or_same : (a : Bool) {b b' : Bool} → (a ≡ false → b ≡ b') → (a || b) ≡ (a || b')
or_same true f = refl
or_same false f = f refl

module _ {A : Automaton} {t : Tree} {s : List ℕ} {n : ℕ} {c sums : List ℕ} (S : Setting A s n)
    (C : Subtrees A t c) (X : SumsInto (entry c) (transitions_in s n) sums) where
  sum_of : (q : ℕ) → sum_into (entry c) q (transitions_in s n) ≡ sum_into (at_state A t) q A.transitions
  sum_of q =
      ap (λ (τs : List Transition). sum_into (entry c) q τs) (sym S.transitions)
      ∙ sum_same (entry c) (at_state A t) q A.transitions
      (λ τ i o p j. C.each p (omega (arith, S.few, ((ranged-transition A S.ranged τ i).args p j).1)))

  -- a state is marked at once if it is open at once
  starts-same : (q : ℕ) → q < byte_values → starts_at c sums q ≡ opens_at A t q
  unfolding opens_at
  starts-same q h =
      or_same (eqb (entry c q) 0) (λ e. ap not (equal e))
      ∙ ap (λ (x : ℕ). eqb x 0 || not (eqb (sum_into (at_state A t) q A.transitions) (at_state A t q))) (C.each q h)
    where
      equal : eqb (entry c q) 0 ≡ false →
          eqb (entry sums q) (entry c q) ≡ eqb (sum_into (at_state A t) q A.transitions) (at_state A t q)
      equal f =
          let some : 0 < entry c q = omega (arith, eqb-false (entry c q) 0 f) in
          same_test (eqb (entry sums q) (entry c q)) (eqb (sum_into (at_state A t) q A.transitions) (at_state A t q))
          (λ e. eq-eqb (sum_into (at_state A t) q A.transitions) (at_state A t q)
          (omega (
            arith,
            eqb-true (entry sums q) (entry c q) e,
            X.each q h some,
            sum_of q,
            C.each q h,
            C.few q h,
          )))
          (λ e. eq-eqb (entry sums q) (entry c q)
          (omega (
            arith,
            eqb-true (sum_into (at_state A t) q A.transitions) (at_state A t q) e,
            X.each q h some,
            sum_of q,
            C.each q h,
            C.few q h,
          )))

  module _ {m m' : List ℕ} (M : MarkedBy (starts_at c sums) m) (L : Led (UpTo (nth_some_up s) n) m m')
      (closed : UpTo (nth_some_up s) n (marked m')) where
    abbrev within : ℕ → Bool
    within q = in_range (states A) q

    state-within : (q : ℕ) → IsState A q → within q ≡ true
    state-within q h = range-in (states A) q h.0 h.1

    -- open, or no state
    abbrev open_if : ℕ → Bool
    open_if q = not (within q) || open_state A t q

    if-open : (q : ℕ) → IsState A q → open_if q ≡ true → open_state A t q ≡ true
    if-open q h e = rw (state-within q h) at e

    open-closed : UpTo (nth_some_up s) n open_if
    open-closed i h e = go (any-in open_if (nth_transition s i).args e)
      where
        here : nth_transition s i ∈ A.transitions
        here = subst (λ (τs : List Transition). nth_transition s i ∈ τs) (sym S.transitions) (in-transitions_in s n i h)

        go : (q : ℕ) × (q ∈ (nth_transition s i).args) × (open_if q ≡ true) → open_if (nth_transition s i).out ≡ true
        go (q, j, d) =
            or_right (not (within (nth_transition s i).out)) (open_state A t (nth_transition s i).out)
            (open-out A S.ranged S.rises S.reached t (nth_transition s i) here
            (in-any (open_state A t) (nth_transition s i).args q j
            (if-open q ((ranged-transition A S.ranged (nth_transition s i) here).args q j) d)))

    open-covers : Covers open_if m
    open-covers q e = go (within q) refl
      where
        go : (b : Bool) → within q ≡ b → open_if q ≡ true
        go false d = rw d
        go true d =
            let h = in-range (states A) q d in
            let l : q < byte_values = omega (arith, S.few, h.1) in
            or_right (not (within q)) (open_state A t q)
            (opens-open A S.ranged S.rises S.reached t q h
            (sym (starts-same q l) ∙ sym (M.each q l) ∙ e))

    -- the marks of states
    abbrev marked_state : ℕ → Bool
    marked_state q = within q && marked m' q

    pub marks-open : Open A t m'
    marks-open = record { each = each }
      where
        starts : (q : ℕ) → IsState A q → opens_at A t q ≡ true → marked_state q ≡ true
        starts q h e =
            let l : q < byte_values = omega (arith, S.few, h.1) in
            and_both (state-within q h) (L.kept q (M.each q l ∙ starts-same q l ∙ e))

        up : (τ : Transition) → τ ∈ A.transitions → any marked_state τ.args ≡ true → marked_state τ.out ≡ true
        up τ i e =
            and_both (state-within τ.out (ranged-transition A S.ranged τ i).out)
            (from (transitions_in-in s n τ (subst (λ (τs : List Transition). τ ∈ τs) S.transitions i)))
          where
            from : (k : ℕ) × (k < n) × (τ ≡ nth_transition s k) → marked m' τ.out ≡ true
            from (k, h, d) =
                ap (λ (σ : Transition). marked m' σ.out) d
                ∙ closed k h
                (subst (λ (σ : Transition). any (marked m') σ.args ≡ true) d
                (any-implied marked_state (marked m') τ.args (λ q g. and_right (within q) (marked m' q) g) e))

        least : (q : ℕ) → marked_state q ≡ true → open_state A t q ≡ true
        least q e =
            if-open q (in-range (states A) q (and_left (within q) (marked m' q) e))
            (L.sound open_if open-closed open-covers q (and_right (within q) (marked m' q) e))

        each : (q : ℕ) → IsState A q → marked m' q ≡ open_state A t q
        each q h =
            rw (state-within q h) at (open-exact A S.ranged S.rises S.reached t marked_state starts up least q h)

-- The place that a number falls in, found by going from place to place.
use mathlib.Core.Bool.{Bool, cond, false, true}
use mathlib.Core.List.{List, ◌∷◌, map}
use mathlib.Core.Path.{◌∙◌, ◌≡◌, ap, sym}
use Prim.Native.Nat.{◌+◌, ◌-◌, ◌<◌, ◌≤◌, ℕ}
use native.Mathlib.Nat.{sub-zero}
use native.Mathlib.Omega.{arith}
use lib.Dec.{eqb, ltb}
use borrow.Author.Tests.{le-ltb, lt-ltb}
use Rattle.std.specs.declared.option.Option.{Option}
use Rattle.std.specs.declared.option.Option.TheVariants.{None, Some}
use Rattle.automata.specs.Automaton.{Automaton, Transition, accepting}
use Rattle.automata.specs.Ranks.{state_of, transition_of}
use Rattle.automata.specs.Totals.{product_over, sum_accepting, sum_into}
use Rattle.lists.specs.Positions.{up_from}
use Rattle.lists.proofs.Loops.{up_from-next, up_from-none}
use Rattle.table.specs.Layout.{nth_transition, transitions_in}
use Rattle.totals.specs.Limited.{limit, total_of}
use Rattle.totals.proofs.Limits.{total-none, total-some}
use Rattle.ranks.specs.Steps.{StateChosen, TransitionChosen}

-- ---- transitions

-- the transitions from place i on
abbrev pub later_transitions : List ℕ → ℕ → ℕ → List Transition
later_transitions s c i = map (nth_transition s) (up_from i (c - i))

-- the trees of state q at a transition
abbrev pub trees_at : (ℕ → ℕ) → ℕ → Transition → ℕ
trees_at w q τ = cond (eqb τ.out q) (product_over w τ.args) 0

-- the choice for number k among all transitions is that for number l among those from place i on
pub record TransitionFrom (w : ℕ → ℕ) (s : List ℕ) (c q k l i : ℕ) : Type 0 where
  pub within : i ≤ c
  pub fits : l < limit
  pub same : transition_of w q k (transitions_in s c) ≡ transition_of w q l (later_transitions s c i)
  pub below : l < sum_into w q (later_transitions s c i)

module _ {w : ℕ → ℕ} {s : List ℕ} {c q k : ℕ} where
  pub transition-start : k < limit → k < sum_into w q (transitions_in s c) → TransitionFrom w s c q k k 0
  unfolding transitions_in
  transition-start f h = record {
    within = omega arith;
    fits = f;
    same = rw (sub-zero c);
    below = rw (sub-zero c) h;
  }

  module _ {l i : ℕ} (x : TransitionFrom w s c q k l i) where
    pub transition-more : c ≤ i → ⊥
    transition-more h =
        omega (arith, x.below, ap (λ (is : List ℕ). sum_into w q (map (nth_transition s) is)) (up_from-none i c h))

    module _ (more : i < c) {h : Option ℕ} (e : h ≡ total_of (trees_at w q (nth_transition s i))) where
      abbrev here : ℕ
      here = trees_at w q (nth_transition s i)

      next : later_transitions s c i ≡ nth_transition s i ∷ later_transitions s c (i + 1)
      next = ap (map (nth_transition s)) (up_from-next i c more)

      step : transition_of w q k (transitions_in s c) ≡
          cond (ltb l here) (record { what = nth_transition s i; left = l })
          (transition_of w q (l - here) (later_transitions s c (i + 1)))
      step = x.same ∙ ap (transition_of w q l) next

      sum : l < here + sum_into w q (later_transitions s c (i + 1))
      sum = omega (arith, x.below, ap (sum_into w q) next)

      found : l < here → TransitionChosen w s c q k (record { place = i; left = l })
      found less = record { within = more; chosen = step ∙ rw (lt-ltb l here less); below = inside less }
        where
          inside : l < here → l < product_over w (nth_transition s i).args
          inside less = go (eqb (nth_transition s i).out q) less
            where
              go : (b : Bool) → l < cond b (product_over w (nth_transition s i).args) 0 →
                  l < product_over w (nth_transition s i).args
              go true p = p
              go false p = absurd (omega arith)

      pub transition-found : {v : ℕ} → h ≡ Some v → l < v → TransitionChosen w s c q k (record { place = i; left = l })
      transition-found d less = found (omega (arith, total-some here (sym d ∙ e)))

      pub transition-over : h ≡ None → TransitionChosen w s c q k (record { place = i; left = l })
      transition-over d = found (omega (arith, x.fits, total-none here (sym d ∙ e)))

      pub transition-next : {v : ℕ} → h ≡ Some v → v ≤ l → TransitionFrom w s c q k (l - v) (i + 1)
      transition-next {v} d less =
          let same = total-some here (sym d ∙ e) in
          rw same (record {
            within = omega arith;
            fits = omega (arith, x.fits);
            same = step ∙ rw (le-ltb l here (omega arith));
            below = omega (arith, sum);
          })

-- ---- states

-- the states from q up to n
abbrev pub later_states : ℕ → ℕ → List ℕ
later_states n q = up_from q (1 + n - q)

-- the accepted trees of a state
abbrev pub trees_of_state : Automaton → (ℕ → ℕ) → ℕ → ℕ
trees_of_state A w q = cond (accepting A q) (w q) 0

-- the choice for number k among the states 1 to n is that for number l among those from q on
pub record StateFrom (A : Automaton) (w : ℕ → ℕ) (n k l q : ℕ) : Type 0 where
  pub some : 1 ≤ q
  pub within : q ≤ 1 + n
  pub fits : l < limit
  pub same : state_of A w k (up_from 1 n) ≡ state_of A w l (later_states n q)
  pub below : l < sum_accepting A w (later_states n q)

module _ {A : Automaton} {w : ℕ → ℕ} {n k : ℕ} where
  pub state-start : k < limit → k < sum_accepting A w (up_from 1 n) → StateFrom A w n k k 1
  state-start f h =
      let z : 1 + n - 1 ≡ n = omega arith in
      record { some = omega arith; within = omega arith; fits = f; same = rw z; below = rw z h }

  module _ {l q : ℕ} (x : StateFrom A w n k l q) where
    pub state-more : n < q → ⊥
    state-more h = omega (arith, x.below, ap (sum_accepting A w) (up_from-none q (1 + n) (omega arith)))

    module _ (more : q ≤ n) where
      abbrev mine : ℕ
      mine = trees_of_state A w q

      next-state : later_states n q ≡ q ∷ later_states n (q + 1)
      next-state = up_from-next q (1 + n) (omega arith)

      state-step : state_of A w k (up_from 1 n) ≡
          cond (ltb l mine) (record { what = q; left = l }) (state_of A w (l - mine) (later_states n (q + 1)))
      state-step = x.same ∙ ap (state_of A w l) next-state

      state-sum : l < mine + sum_accepting A w (later_states n (q + 1))
      state-sum = omega (arith, x.below, ap (sum_accepting A w) next-state)

      -- the state is accepting, and v is its number
      module _ (yes : accepting A q ≡ true) {v : ℕ} (e : v ≡ w q) where
        its-own : mine ≡ v
        its-own = rw yes (sym e)

        pub state-found : l < v → StateChosen A w n k (record { place = q; left = l })
        state-found less =
            let inside : l < mine = omega (arith, its-own) in
            record {
              some = x.some;
              state = more;
              chosen = state-step ∙ rw (lt-ltb l mine inside);
              below = omega (arith, e);
            }

        pub state-next : v ≤ l → StateFrom A w n k (l - v) (q + 1)
        state-next less =
            rw (sym its-own) (record {
              some = omega arith;
              within = omega arith;
              fits = omega (arith, x.fits);
              same = state-step ∙ rw (le-ltb l mine (omega (arith, its-own)));
              below = omega (arith, state-sum, its-own);
            })

      pub state-skip : accepting A q ≡ false → StateFrom A w n k l (q + 1)
      state-skip other =
          let none : mine ≡ 0 = rw other in
          let z : l - mine ≡ l = omega arith in
          record {
            some = omega arith;
            within = omega arith;
            fits = x.fits;
            same = state-step ∙ rw (le-ltb l mine (omega arith), z);
            below = omega (arith, state-sum);
          }

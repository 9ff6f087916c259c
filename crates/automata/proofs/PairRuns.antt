-- Two automata side by side: a tree has a pair of states. In an automaton whose transitions follow the steps
-- of pairs, a tree runs to a number of its pair.
use mathlib.Core.Bool.{Bool, false, true, true≢false}
use mathlib.Core.List.{List, [], ◌∷◌, map}
use mathlib.Core.Logic.{◌⊎◌, inl, inr}
use mathlib.Core.Path.{◌∙◌, ◌≡◌, ap, refl, subst, sym}
use Prim.Native.Nat.{◌≤◌, ℕ}
use native.Mathlib.Omega.{arith}
use lib.Dec.{eqb}
use borrow.Author.Tests.{eq-eqb, ne_eqb, not-false}
use Rattle.automata.specs.Automaton.{Automaton, Transition, lookup, run, runs, step}
use Rattle.automata.specs.Order.{rising}
use Rattle.automata.specs.Product.{fst, live, out_pair, snd}
use Rattle.lists.specs.Positions.{Pair, eq_pair}
use Rattle.lists.specs.Tests.{◌∈◌, any}
use Rattle.trees.specs.Tree.{Forest, Tree, cons, nil, node}
use Rattle.automata.proofs.Order.{lookup-transition}
use Rattle.automata.proofs.Steps.{Has, lookup-view}
use Rattle.lists.proofs.Positions.{eq_pair-true}
use Rattle.lists.proofs.Tests.{or_left, or_right}

module _ (A B : Automaton) where
  -- the pairs of the children
  abbrev pub both : Forest → List Pair
  both nil = []
  both (cons t f) = (run A t, run B t) ∷ both f

  pub both-fst : (f : Forest) → map fst (both f) ≡ runs A f
  both-fst nil = refl
  both-fst (cons t f) = rw (both-fst f)

  both-snd : (f : Forest) → map snd (both f) ≡ runs B f
  both-snd nil = refl
  both-snd (cons t f) = rw (both-snd f)

  pub out-run : (a : ℕ) (f : Forest) → out_pair A B (a, both f) ≡ (run A (node a f), run B (node a f))
  out-run a f = let p = both-fst f in let q = both-snd f in λ i. (step A a (p i), step B a (q i))

  -- a child that has no state in either automaton
  none_any : (f : Forest) → ◌∈◌ {A = Pair} (0, 0) (both f) →
      (any (eqb 0) (runs A f) ≡ true) × (any (eqb 0) (runs B f) ≡ true)
  none_any nil x' = elim x' [ ]
  none_any (cons t f) (inl e) = (
    or_left (eqb 0 (run A t)) (any (eqb 0) (runs A f)) (eq-eqb 0 (run A t) (ap fst e)),
    or_left (eqb 0 (run B t)) (any (eqb 0) (runs B f)) (eq-eqb 0 (run B t) (ap snd e)),
  )
  none_any (cons t f) (inr i) = let r = none_any f i in (
    or_right (eqb 0 (run A t)) (any (eqb 0) (runs A f)) r.0,
    or_right (eqb 0 (run B t)) (any (eqb 0) (runs B f)) r.1,
  )

  out_none : (a : ℕ) (f : Forest) → ◌∈◌ {A = Pair} (0, 0) (both f) →
      ◌≡◌ {A = Pair} (run A (node a f), run B (node a f)) (0, 0)
  out_none a f i =
      let z = none_any f i in
      let p : step A a (runs A f) ≡ 0 = rw z.0 in
      let q : step B a (runs B f) ≡ 0 = rw z.1 in
      λ k. (p k, q k)

  -- N p k says that p is a number of the pair k
  module _ (N : ℕ → Pair → Type 0) where
    abbrev pub EachNumber : List ℕ → List Pair → Type 0
    EachNumber [] [] = Unit {0}
    EachNumber [] (k ∷ ks) = ⊥
    EachNumber (p ∷ ps) [] = ⊥
    EachNumber (p ∷ ps) (k ∷ ks) = N p k × EachNumber ps ks

    -- 0 if the pair is both none
    abbrev pub NumberOrNone : ℕ → Pair → Type 0
    NumberOrNone p k = ((p ≡ 0) × (◌≡◌ {A = Pair} k (0, 0))) ⊎ N p k

    -- the automaton's transitions are the steps of numbered pairs to pairs that are not both none
    pub record Follows (P : Automaton) : Type 0 where
      pub rises : rising P.transitions ≡ true
      pub positive : (p : ℕ) (k : Pair) → N p k → 1 ≤ p
      pub all : (a : ℕ) (ps : List ℕ) (ks : List Pair) → EachNumber ps ks → live (out_pair A B (a, ks)) ≡ true →
          (τ : Transition) × (τ ∈ P.transitions) × (τ.label ≡ a) × (τ.args ≡ ps) ×
          N τ.out (out_pair A B (a, ks))
      pub only : (a : ℕ) (ps : List ℕ) (ks : List Pair) → EachNumber ps ks → (τ : Transition) →
          τ ∈ P.transitions → τ.label ≡ a → τ.args ≡ ps → live (out_pair A B (a, ks)) ≡ true

    module _ (P : Automaton) (F : Follows P) where
      each-positive : (ps : List ℕ) (ks : List Pair) → EachNumber ps ks → any (eqb 0) ps ≡ false
      each-positive [] [] h = refl
      each-positive [] (k ∷ ks) h = elim h [ ]
      each-positive (p ∷ ps) [] h = elim h [ ]
      each-positive (p ∷ ps) (k ∷ ks) h =
          rw (ne_eqb 0 p (λ e. omega (arith, F.positive p k h.0))) (each-positive ps ks h.1)

      follows-step : (a : ℕ) (ps : List ℕ) (ks : List Pair) → EachNumber ps ks →
          NumberOrNone (step P a ps) (out_pair A B (a, ks))
      follows-step a ps ks h = rw (each-positive ps ks h) (go (live (out_pair A B (a, ks))) refl)
        where
          go : (b : Bool) → live (out_pair A B (a, ks)) ≡ b →
              NumberOrNone (lookup a ps P.transitions) (out_pair A B (a, ks))
          go true e =
              let (τ, i, x, y, n) = F.all a ps ks h e in
              let l : lookup a ps P.transitions ≡ τ.out =
              rw (x, y) at (lookup-transition P.transitions F.rises τ i) in
              inr (rw l n)
          go false e = from (lookup-view a ps P.transitions)
            where
              from : (lookup a ps P.transitions ≡ 0) ⊎ Has P.transitions a ps (lookup a ps P.transitions) →
                  NumberOrNone (lookup a ps P.transitions) (out_pair A B (a, ks))
              from (inl z) =
                  inl (
                    z,
                    eq_pair-true (out_pair A B (a, ks)) (0, 0)
                        (not-false (eq_pair (out_pair A B (a, ks)) (0, 0)) e),
                  )
              from (inr (τ, i, x, y, w)) = absurd (true≢false (sym (F.only a ps ks h τ i x y) ∙ e))

      -- the children's states number their pairs, or a child has none
      abbrev EachOrNone : List ℕ → List Pair → Type 0
      EachOrNone ps ks = EachNumber ps ks ⊎ ((any (eqb 0) ps ≡ true) × (◌∈◌ {A = Pair} (0, 0) ks))

      each-cons : (p : ℕ) (k : Pair) (ps : List ℕ) (ks : List Pair) → NumberOrNone p k → EachOrNone ps ks →
          EachOrNone (p ∷ ps) (k ∷ ks)
      each-cons p k ps ks (inl (z, e)) r =
          inr (or_left (eqb 0 p) (any (eqb 0) ps) (eq-eqb 0 p (sym z)), inl (sym e))
      each-cons p k ps ks (inr n) (inl h) = inl (n, h)
      each-cons p k ps ks (inr n) (inr (z, i)) = inr (or_right (eqb 0 p) (any (eqb 0) ps) z, inr i)

      follows-node : (a : ℕ) (f : Forest) → EachOrNone (runs P f) (both f) →
          NumberOrNone (run P (node a f)) (run A (node a f), run B (node a f))
      follows-node a f (inl h) =
          subst (λ (k : Pair). NumberOrNone (run P (node a f)) k) (out-run a f)
          (follows-step a (runs P f) (both f) h)
      follows-node a f (inr (z, i)) = inl (rw z, out_none a f i)

      mutual
        pub follows-run : (t : Tree) → NumberOrNone (run P t) (run A t, run B t)
        follows-run (node a f) = follows-node a f (follows-runs f)

        follows-runs : (f : Forest) → EachOrNone (runs P f) (both f)
        follows-runs nil = inl tt
        follows-runs (cons t f) =
            each-cons (run P t) (run A t, run B t) (runs P f) (both f) (follows-run t) (follows-runs f)

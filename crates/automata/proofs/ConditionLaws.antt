-- Conditions 9, 10 and 12 in 01's words, with trees and contexts, if the conditions that are checked before hold.
use mathlib.Core.Bool.{Bool, ◌||◌, false, true}
use mathlib.Core.List.{List, []}
use mathlib.Core.Logic.{◌↔◌, ◌≢◌, ◌⊎◌, inl, inr}
use mathlib.Core.Path.{◌∙◌, ◌≡◌, refl, sym}
use Prim.Native.Nat.{ℕ}
use lib.Dec.{eqb}
use borrow.Author.Tests.{eqb-false, eqb-true}
use Rattle.automata.specs.Accessible.{ArgsAccessible, accessible, all_accessible}
use Rattle.automata.specs.Automaton.{Automaton, Fits, IsState, run, states}
use Rattle.automata.specs.Coaccessible.{Used, all_coaccessible, coaccessible}
use Rattle.automata.specs.Distinguishable.{Alike, all_distinguishable, distinguishable}
use Rattle.automata.specs.Order.{rising}
use Rattle.automata.specs.Valid.{states_in_range}
use Rattle.lists.specs.Positions.{up_from}
use Rattle.lists.specs.Tests.{every}
use Rattle.trees.specs.Tree.{Tree}
use Rattle.automata.proofs.Accessible.{tree-accessible}
use Rattle.automata.proofs.Coaccessible.{coaccessible-useful, useful-coaccessible}
use Rattle.automata.proofs.Distinguishable.{distinguishable-separated}
use Rattle.automata.proofs.Minimal.{EquivalentStates, indistinguishable-equivalent}
use Rattle.automata.proofs.Steps.{accepts-plug}
use Rattle.automata.proofs.Valid.{args-accessible, in-states, ranged-fits, state-tree, states-in}
use Rattle.lists.proofs.Tests.{every_in, in-every, or_cases}

module _ (A : Automaton) (ranged : states_in_range A ≡ true) (rises : rising A.transitions ≡ true) where
  fit : Fits A
  fit = ranged-fits A ranged

  -- 01, refusal 9: every state has a tree that runs to it
  pub all_accessible-iff : (all_accessible A ≡ true) ↔ ((q : ℕ) → IsState A q → (t : Tree) × (run A t ≡ q))
  all_accessible-iff = (
    state-tree A ranged rises,
    λ trees.
        in-every (accessible A) (up_from 1 (states A)) (λ q i. let s = states-in A q i in let (t, e) = trees q s in
        tree-accessible A fit q s.0 t e),
  )

  module _ (reached : all_accessible A ≡ true) where
    args : ArgsAccessible A
    args τ i q j = (args-accessible A ranged rises reached τ i q j).1

    -- 01, refusal 10: every state has an accepted tree with a subtree that runs to it
    pub all_coaccessible-iff : (all_coaccessible A ≡ true) ↔ ((q : ℕ) → IsState A q → Used A q)
    all_coaccessible-iff = (to, from)
      where
        to : all_coaccessible A ≡ true → (q : ℕ) → IsState A q → Used A q
        to e q s =
            let (t, d) = state-tree A ranged rises reached q s in
            let (c, a) = coaccessible-useful A rises (args-accessible A ranged rises reached) q
            (every_in (coaccessible A) (up_from 1 (states A)) e q (in-states A q s)) in
            (c, t, d, accepts-plug A c t d ∙ a)

        from : ((q : ℕ) → IsState A q → Used A q) → all_coaccessible A ≡ true
        from used =
            in-every (coaccessible A) (up_from 1 (states A)) (λ q i. let s = states-in A q i in
            let (c, t, d, a) = used q s in
            useful-coaccessible A fit c q s.0 s.1 (sym (accepts-plug A c t d) ∙ a))

    -- 01, refusal 12: no two different states are alike
    pub all_distinguishable-iff : (all_distinguishable A ≡ true) ↔
        ((p q : ℕ) → IsState A p → IsState A q → p ≢ q → Alike A p q → ⊥)
    unfolding EquivalentStates
    all_distinguishable-iff = (to, from)
      where
        ns : List ℕ
        ns = up_from 1 (states A)

        to : all_distinguishable A ≡ true → (p q : ℕ) → IsState A p → IsState A q → p ≢ q → Alike A p q → ⊥
        to e p q s r ne alike =
            go (or_cases (eqb p q) (distinguishable A p q)
            (every_in (λ q. eqb p q || distinguishable A p q) ns
            (every_in (λ p. every (λ q. eqb p q || distinguishable A p q) ns) ns e p (in-states A p s)) q
            (in-states A q r)))
          where
            go : (eqb p q ≡ true) ⊎ (distinguishable A p q ≡ true) → ⊥
            go (inl h) = ne (eqb-true p q h)
            go (inr h) =
                let (c, d) = distinguishable-separated A args p q h in
                let (t, x) = state-tree A ranged rises reached p s in
                let (u, y) = state-tree A ranged rises reached q r in
                d (sym (accepts-plug A c t x) ∙ alike.filled c t u x y ∙ accepts-plug A c u y)

        from : ((p q : ℕ) → IsState A p → IsState A q → p ≢ q → Alike A p q → ⊥) → all_distinguishable A ≡ true
        from differ =
            in-every (λ p. every (λ q. eqb p q || distinguishable A p q) ns) ns (λ p i.
            in-every (λ q. eqb p q || distinguishable A p q) ns (λ q j.
            go p q (states-in A p i) (states-in A q j) (eqb p q) refl (distinguishable A p q) refl))
          where
            go : (p q : ℕ) → IsState A p → IsState A q → (b : Bool) → eqb p q ≡ b → (d : Bool) →
                distinguishable A p q ≡ d → (b || d) ≡ true
            go p q s r true e d f = refl
            go p q s r false e true f = refl
            go p q s r false e false f =
                let same = indistinguishable-equivalent A fit args p q s.1 r.1 f in
                absurd (differ p q s r (eqb-false p q e) record {
                  class = same [];
                  filled = λ c t u x y. accepts-plug A c t x ∙ same c ∙ sym (accepts-plug A c u y);
                })

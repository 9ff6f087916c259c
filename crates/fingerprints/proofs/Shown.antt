-- What fingerprints show of an automaton without loops. One other than 0 says that the state is accepting or an
-- argument. If all states are, all are useful, and different fingerprints separate them.
use Rattle.std.proofs.Common.{◌≡◌, ℕ, ◌+◌, ◌%◌, ◌^◌, ◌≤◌, Bool, true, false, not, ◌≢◌, ◌⊎◌, List, [], ◌∷◌, sym, refl, ap, ◌∙◌, subst, inl, inr, true≢false, arith, eq-eqb}
use Rattle.automata.specs.Acyclic.{acyclic}
use Rattle.automata.specs.Automaton.{Automaton, Transition, accepting, states}
use Rattle.automata.specs.Coaccessible.{all_coaccessible}
use Rattle.automata.specs.Distinguishable.{Slot}
use Rattle.automata.specs.Order.{rising}
use Rattle.automata.specs.Valid.{states_in_range}
use Rattle.fingerprints.specs.Fingerprints.{Fingerprinted, Settled, all_differ, all_some, fingerprint}
use Rattle.fingerprints.specs.Fingerprints.{gains, places, print_of, some_at, spread, total, value_at}
use Rattle.lists.specs.Tests.{◌∈◌, bit}
use Rattle.fingerprints.proofs.Separating.{Argument, all-useful-by-uses, differ-separated}
use Rattle.fingerprints.proofs.Uses.{places-in}
use Rattle.lists.proofs.Intervals.{every-at}
use Rattle.lists.proofs.Tests.{in_append_right}

-- who gains something is an argument
gains-argument : (τs : List Transition) (q : ℕ) → gains τs q ≢ 0 → Argument τs q
gains-argument [] q n = absurd (n refl)
gains-argument (τ ∷ τs) q n = go (places τ.args [] τ.label q) refl (λ m. gains-argument τs q m)
  where
    go : (zs : List Slot) → places τ.args [] τ.label q ≡ zs → (gains τs q ≢ 0 → Argument τs q) →
        Argument (τ ∷ τs) q
    go [] e ih =
        let t = ap (λ (zs : List Slot). total zs (value_at (spread τ.out))) e in
        let (υ, i, j) = ih (λ z. n (omega (arith, t, z))) in
        (υ, inr i, j)
    go (z ∷ zs) e ih =
        let f = (places-in τ.args [] τ.label q z (subst (λ (ys : List Slot). z ∈ ys) (sym e) (inl refl))).0 in (
          τ,
          inl refl,
          subst (λ (qs : List ℕ). q ∈ qs) (sym f.1) (in_append_right z.before (q ∷ z.after) q (inl refl)),
        )

module _ (A : Automaton) (m : List ℕ) (first : Fingerprinted A m) where
  some-argument : all_some m (states A) ≡ true → (q : ℕ) → 1 ≤ q → q ≤ states A →
      (accepting A q ≡ true) ⊎ Argument A.transitions q
  unfolding all_some fingerprint
  some-argument e q a b = go (accepting A q) refl
    where
      some : print_of m q ≢ 0
      some z =
          true≢false (sym (every-at (some_at m) 1 (states A) e q a (omega arith))
          ∙ ap not (eq-eqb (print_of m q) 0 z))

      go : (c : Bool) → accepting A q ≡ c → (c ≡ true) ⊎ Argument A.transitions q
      go true f = inl refl
      go false f =
          inr (gains-argument A.transitions q (λ z. some (first.each q b
          ∙ ap (λ (c : Bool). (bit c + gains A.transitions q) % 2 ^ 64) f
          ∙ ap (λ (g : ℕ). (0 + g) % 2 ^ 64) z)))

  module _ (ranged : states_in_range A ≡ true) (rises : rising A.transitions ≡ true) where
    pub is-settled : all_some m (states A) ≡ true → all_differ m (states A) ≡ true → Settled A
    is-settled some all = record {
      useful = useful;
      separated = λ ac. differ-separated A ranged rises ac (useful ac) m first all;
    }
      where
        useful : acyclic A ≡ true → all_coaccessible A ≡ true
        useful ac = all-useful-by-uses A ranged rises ac (some-argument some)

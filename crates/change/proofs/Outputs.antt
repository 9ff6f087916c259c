-- Renumbering uses the classes of outputs only.
use mathlib.Core.Bool.{Bool}
use mathlib.Core.List.{List, [], ◌∷◌, map}
use mathlib.Core.Logic.{inl, inr}
use mathlib.Core.Path.{◌∙◌, ◌≡◌, ap, sym}
use Prim.Native.Nat.{ℕ}
use Rattle.automata.specs.Automaton.{Transition}
use Rattle.automata.specs.Renumber.{numbering, renumber, renumbered, sort}
use Rattle.lists.specs.Tests.{◌∈◌}
use Rattle.automata.proofs.Numbering.{Opened, numbering-opened}
use Rattle.lists.proofs.Intervals.{in-get_d}

map_same : (f g : ℕ → Bool) (xs : List ℕ) → ((x : ℕ) → x ∈ xs → f x ≡ g x) → map f xs ≡ map g xs
map_same f g [] h = λ i. []
map_same f g (x ∷ xs) h = λ i. h x (inl (λ j. x)) i ∷ map_same f g xs (λ y m. h y (inr m)) i

-- a state with a number is an output
numbered-output : (W : List Transition) (q : ℕ) → q ∈ numbering W → (σ : Transition) × (σ ∈ W) × (σ.out ≡ q)
unfolding Opened
numbered-output W q i =
    let (k, h, e) = in-get_d (numbering W) q 0 i in
    let (σ, d, (j, _, _)) = (numbering-opened W).0 k h in
    (σ, j, d ∙ sym e)

pub renumbered-classes : (f g : ℕ → Bool) (W : List Transition) →
    ((σ : Transition) → σ ∈ W → f σ.out ≡ g σ.out) → renumbered f W ≡ renumbered g W
unfolding renumbered
renumbered-classes f g W h = λ i. record {
  classes = map_same f g (numbering W) same i;
  transitions = sort (map (renumber (numbering W)) W);
}
  where
    same : (q : ℕ) → q ∈ numbering W → f q ≡ g q
    same q m = let (σ, j, e) = numbered-output W q m in ap f (sym e) ∙ h σ j ∙ ap g e

-- The arguments of transitions, by their names: tested one by one, compared, and the order of transitions that
-- follows.
use mathlib.Core.Bool.{Bool}
use mathlib.Core.List.{List, ◌∷◌, map, map-map}
use mathlib.Core.Path.{◌∙◌, ◌≡◌, ap₂, subst, sym}
use Prim.Native.Nat.{◌≤◌, ℕ}
use native.Mathlib.Omega.{arith}
use lib.Dec.{ltb}
use lib.ListN.{length, length-map}
use Rattle.automata.specs.Automaton.{Transition}
use Rattle.automata.specs.Order.{lex, precedes}
use Rattle.automata.specs.Renumber.{renumber_by}
use Rattle.fields.specs.Fields.{first_args}
use Rattle.format.specs.Format.{max_arity}
use Rattle.lists.specs.Positions.{up_from}
use Rattle.minimize.specs.Renaming.{name_in}
use Rattle.table.specs.Layout.{arg_of, arity_of, label_of, transition_at}
use Rattle.fields.proofs.Searching.{LexFrom, lex-agrees, lex-differs, lex-start}
use Rattle.fields.proofs.Transitions.{args-length}

-- the name of argument j of the transition at a byte
abbrev pub arg_name : List ℕ → List ℕ → ℕ → ℕ → ℕ
arg_name names s at j = name_in names (arg_of s at j)

pub names-start : (names s : List ℕ) (a b n : ℕ) →
    LexFrom (lex (map (name_in names) (first_args s a n)) (map (name_in names) (first_args s b n)))
    (arg_name names s a) (arg_name names s b) n 0
names-start names s a b n =
    subst (λ (r : Bool). LexFrom r (arg_name names s a) (arg_name names s b) n 0)
    (ap₂ lex (sym (map-map (name_in names) (arg_of s a) (up_from 0 n)))
    (sym (map-map (name_in names) (arg_of s b) (up_from 0 n))))
    lex-start

-- two transitions by the number of their arguments, their labels and their arguments
module _ (σ τ : Transition) where
  by-arity : (length σ.args ≡ length τ.args → ⊥) → ltb (length σ.args) (length τ.args) ≡ precedes σ τ
  by-arity h = sym (lex-differs (length σ.args) (length τ.args) (σ.label ∷ σ.args) (τ.label ∷ τ.args) h)

  module _ (same : length σ.args ≡ length τ.args) where
    rest : precedes σ τ ≡ lex (σ.label ∷ σ.args) (τ.label ∷ τ.args)
    rest = lex-agrees (length σ.args) (length τ.args) (σ.label ∷ σ.args) (τ.label ∷ τ.args) same

    by-label : (σ.label ≡ τ.label → ⊥) → ltb σ.label τ.label ≡ precedes σ τ
    by-label h = sym (rest ∙ lex-differs σ.label τ.label σ.args τ.args h)

    by_args : σ.label ≡ τ.label → lex σ.args τ.args ≡ precedes σ τ
    by_args h = sym (rest ∙ lex-agrees σ.label τ.label σ.args τ.args h)

-- the transition at a byte with other names
abbrev pub renamed_at : List ℕ → List ℕ → ℕ → Transition
renamed_at names s at = renumber_by (name_in names) (transition_at s at)

pub renamed-narrow : (names s : List ℕ) (at : ℕ) → arity_of s at ≤ max_arity →
    length (renamed_at names s at).args ≤ max_arity
renamed-narrow names s at h =
    omega (arith, length-map (transition_at s at).args (name_in names), args-length s at)

-- the transitions at two bytes, by what was read of them: their arities n and k, their labels x and y
module _ (names s : List ℕ) (a b : ℕ) {n k : ℕ} (arity : n ≡ arity_of s a) (arity' : k ≡ arity_of s b) where
  length-read : n ≡ length (renamed_at names s a).args
  length-read = arity ∙ sym (length-map (transition_at s a).args (name_in names) ∙ args-length s a)

  length-read' : k ≡ length (renamed_at names s b).args
  length-read' = arity' ∙ sym (length-map (transition_at s b).args (name_in names) ∙ args-length s b)

  pub precedes-by-arity : (n ≡ k → ⊥) → ltb n k ≡ precedes (renamed_at names s a) (renamed_at names s b)
  precedes-by-arity h =
      ap₂ ltb length-read length-read' ∙
      by-arity (renamed_at names s a) (renamed_at names s b) (λ e. h (length-read ∙ e ∙ sym length-read'))

  module _ (same : n ≡ k) {x y : ℕ} (label : x ≡ label_of s a) (label' : y ≡ label_of s b) where
    same_length : length (renamed_at names s a).args ≡ length (renamed_at names s b).args
    same_length = sym length-read ∙ same ∙ length-read'

    pub precedes-by-label : (x ≡ y → ⊥) → ltb x y ≡ precedes (renamed_at names s a) (renamed_at names s b)
    precedes-by-label h =
        ap₂ ltb label label' ∙
        by-label (renamed_at names s a) (renamed_at names s b) same_length (λ e. h (label ∙ e ∙ sym label'))

    pub precedes-by-args : {r : Bool} → x ≡ y →
        r ≡ lex (map (name_in names) (first_args s a n)) (map (name_in names) (first_args s b n)) →
        r ≡ precedes (renamed_at names s a) (renamed_at names s b)
    precedes-by-args h e =
        e ∙
        ap₂ (λ i j. lex (map (name_in names) (first_args s a i)) (map (name_in names) (first_args s b j))) arity
        (same ∙ arity') ∙
        by_args (renamed_at names s a) (renamed_at names s b) same_length (sym label ∙ h ∙ label')

-- The order of transitions (01: line order).
use Rattle.std.specs.Prelude.{Bool, ◌&&◌, ◌||◌, false, true, List, [], ◌∷◌, ℕ, eqb, ltb, length}
use Rattle.automata.specs.Automaton.{Transition}

-- one list of numbers comes before another: the first that differ decide
abbrev pub lex : List ℕ → List ℕ → Bool
lex [] [] = false
lex [] (y ∷ ys) = true
lex (x ∷ xs) [] = false
lex (x ∷ xs) (y ∷ ys) = ltb x y || (eqb x y && lex xs ys)

-- what the order compares: child count, then label, then arguments from left to right
abbrev pub key : Transition → List ℕ
key τ = length τ.args ∷ τ.label ∷ τ.args

-- one transition comes before another
abbrev pub precedes : Transition → Transition → Bool
precedes σ τ = lex (key σ) (key τ)

-- each comes before the next, the first after τ
abbrev pub rising_from : Transition → List Transition → Bool
rising_from τ [] = true
rising_from τ (υ ∷ υs) = precedes τ υ && rising_from υ υs

-- condition 8: each comes before the next
abbrev pub rising : List Transition → Bool
rising [] = true
rising (τ ∷ τs) = rising_from τ τs

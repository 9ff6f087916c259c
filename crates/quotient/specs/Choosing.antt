-- How many choices of names there are for the arguments of a transition.
use Rattle.std.specs.Prelude.{List, [], ◌≡◌, ◌*◌, ◌<◌, ◌^◌, ⊤, ℕ}
use Rattle.table.specs.Layout.{arity_of}
use Rattle.quotient.specs.Named.{choices_at, finished_in}
use Rattle.quotient.specs.declared.choosing.Choices.{Choices}
use Rattle.quotient.specs.declared.choosing.Choices.TheVariants.{None, One, Several}
use Rattle.quotient.specs.declared.named.Names.{Names}

-- with none there is no entry, and with one the entry of that choice
abbrev pub ChoicesOf : Names → List ℕ → ℕ → Choices → Type 0
ChoicesOf g s at None = choices_at g s at ≡ []
ChoicesOf g s at (One c) =
    (c.prefix < 2 ^ (8 * arity_of s at)) × (choices_at g s at ≡ finished_in g s at c.own c.prefix)
ChoicesOf g s at Several = ⊤

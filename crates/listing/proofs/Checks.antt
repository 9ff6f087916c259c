-- Laws for code that checks conditions: a check that failed or passed.
use mathlib.Core.Bool.{Bool, false, not, true}
use mathlib.Core.Path.{◌∙◌, ◌≡◌, sym}
use borrow.Author.Tests.{not-false, not-true}

-- a check whose answer r is that of the condition b
pub broken : {r b : Bool} → r ≡ b → not r ≡ true → b ≡ false
broken {r} e h = sym e ∙ not-true r h

pub kept : {r b : Bool} → r ≡ b → not r ≡ false → b ≡ true
kept {r} e h = sym e ∙ not-false r h

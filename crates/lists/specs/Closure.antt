-- The least set of keys that is closed under a rule.
use Rattle.std.specs.Prelude.{Bool, ◌||◌, cond, List, [], suc, zero, ℕ, leb, length}
use Rattle.lists.specs.Tests.{any, filter}

module _ {K : Type 0} (eq : K → K → Bool) where
  -- k is one of the list
  abbrev pub elem : K → List K → Bool
  elem k xs = any (eq k) xs

  module _ (rule : (K → Bool) → K → Bool) (keys : List K) where
    -- the keys that are marked already, and those that the rule marks from them
    abbrev pub grow : List K → List K
    grow X = filter (λ k. elem k X || rule (λ j. elem j X) k) keys

    -- at most d rounds, fewer if a round adds nothing
    abbrev pub rounds : ℕ → List K → List K
    rounds zero X = X
    rounds (suc d) X = let r = rounds d (grow X) in cond (leb (length (grow X)) (length X)) X r

    -- what is marked when nothing new is: no more rounds than there are keys are needed
    unfoldable pub closure : List K
    closure = rounds (length keys) []

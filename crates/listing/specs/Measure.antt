-- What the tree reader answers.
use Rattle.std.specs.Prelude.{List, None, Option, Some, [], ◌∷◌, ◌+◌, suc, zero, ℕ}
use Rattle.format.specs.Format.{node_bytes}

-- n bytes more than were read
unfoldable pub plus : ℕ → Option ℕ → Option ℕ
plus n (Some m) = Some (n + m)
plus n None = None

-- the bytes of the first k trees: each node takes one of the trees still to come and adds its children
unfoldable pub measured : List ℕ → ℕ → Option ℕ
measured [] zero = Some 0
measured [] (suc k) = None
measured (h ∷ []) zero = Some 0
measured (h ∷ []) (suc k) = None
measured (h ∷ l ∷ []) zero = Some 0
measured (h ∷ l ∷ []) (suc k) = None
measured (h ∷ l ∷ c ∷ s) zero = Some 0
measured (h ∷ l ∷ c ∷ s) (suc k) = plus node_bytes (measured s (c + k))

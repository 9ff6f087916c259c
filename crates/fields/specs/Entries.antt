-- The fields of an entry, the bytes of one transition.
use Rattle.std.specs.Prelude.{cond, List, ◌≡◌, ◌<◌, ℕ, eqb, length}
use Rattle.format.specs.Format.{max_arity, transition_bytes}
use Rattle.table.specs.Layout.{arg_of, arity_of, label_of, out_of}

-- the entry has label a, n arguments, f k at place k of the arguments, and output q
pub record HasFields (e : List ℕ) (a n : ℕ) (f : ℕ → ℕ) (q : ℕ) : Type 0 where
  pub size : length e ≡ transition_bytes
  pub label : label_of e 0 ≡ a
  pub arity : arity_of e 0 ≡ n
  pub arg : (k : ℕ) → k < max_arity → arg_of e 0 k ≡ f k
  pub out : out_of e 0 ≡ q

-- the places of arguments with q at place k
unfoldable pub put_at : (ℕ → ℕ) → ℕ → ℕ → ℕ → ℕ
put_at f k q j = cond (eqb j k) q (f j)

-- every place of an argument is 0
abbrev pub no_arg : ℕ → ℕ
no_arg k = 0

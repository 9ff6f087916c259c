-- Order 10: what it takes to say that changes may be entered in the order the post brings them.
use Rattle.std.specs.Prelude.{List, ◌≡◌, ℕ}
use Rattle.calls.specs.Calls.{Result, add_result, remove_result}
use Rattle.calls.specs.declared.Answer.TheVariants.{Done}
use Rattle.format.specs.Format.{AllBytes}
use Rattle.trees.specs.Listing.{read_tree}
use Rattle.trees.specs.Tree.{Tree}

-- the two calls that change the set
pub data Kind : Type 0 where
  addition withdrawal : Kind

-- the other of the two
abbrev pub opposite : Kind → Kind
opposite addition = withdrawal
opposite withdrawal = addition

-- what the call answers and leaves, for any listing, table and scratch
abbrev pub call_result : Kind → List ℕ → List ℕ → List ℕ → Result
call_result addition s b w = add_result s b w
call_result withdrawal s b w = remove_result s b w

-- a change as the post brings it: the call to make, and a listing of any bytes
pub record Request : Type 0 where
  pub kind : Kind
  pub listing : List ℕ
  pub bytes : AllBytes listing

-- the tree that the listing lists
abbrev pub request_tree : Request → Tree
request_tree x = read_tree x.listing

-- two trees differ
abbrev pub Different : Tree → Tree → Type 0
Different t u = t ≡ u → ⊥

-- the request's call on the table b, lent any scratch, says done and leaves the table b'
pub record Fulfilled (x : Request) (b b' : List ℕ) : Type 0 where
  pub scratch : List ℕ
  pub states : ℕ
  pub transitions : ℕ
  pub answer : (call_result x.kind x.listing b scratch).answer ≡ Done states transitions
  pub table : (call_result x.kind x.listing b scratch).table ≡ b'

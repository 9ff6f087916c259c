-- Transitions between names made one after another, as two numbers each: the child count, the label and the output
-- name in the first, the packed argument names in the second.
use Rattle.std.specs.Prelude.{Bool, ◌&&◌, cond, true, List, [], ◌++◌, ◌∷◌, map, ◌≡◌, ◌*◌, ◌+◌, ◌-◌, ◌≤◌, ℕ, eqb, ltb, get_or, length, take}
use Rattle.automata.specs.Product.{concat_map, fst, snd}
use Rattle.format.specs.Format.{byte_values, max_transitions, transition_bytes}
use Rattle.lists.specs.Positions.{Pair, up_from}
use Rattle.packed.specs.Packed.{meta_at, pad_to}
use Rattle.table.specs.Layout.{arg_of, arity_of, out_of}
use Rattle.quotient.specs.Kept.{names_of}
use Rattle.quotient.specs.Nodes.{named_by, new_at}

-- ---- entries put into two arrays

-- h' and a' have the first n entries of h and a, and ps after them
pub record Appended (h a : List ℕ) (n : ℕ) (ps : List Pair) (h' a' : List ℕ) (n' : ℕ) : Type 0 where
  pub heads-size : length h' ≡ length h
  pub args-size : length a' ≡ length a
  pub count : n' ≡ n + length ps
  pub heads : take n' h' ≡ take n h ++ map fst ps
  pub args : take n' a' ≡ take n a ++ map snd ps

-- the arrays have the same length, at most that of a table's transitions, and room for n entries
pub record Room (h a : List ℕ) (n : ℕ) : Type 0 where
  pub few : length h ≤ max_transitions
  pub args-size : length a ≡ length h
  pub within : n ≤ length h

-- ---- the entries

-- the one entry of a transition; none if the output is 0
abbrev pub entry_of : ℕ → ℕ → ℕ → List Pair
entry_of meta key out = cond (eqb out 0) [] ((byte_values * meta + out, key) ∷ [])

-- the output over chosen names: the name of the subtree that they make, if all are own names and they make one, else
-- o
abbrev pub out_over : List ℕ → List ℕ → List ℕ → ℕ → Bool → ℕ → ℕ → ℕ → ℕ
out_over metas keys v m own meta key o = cond own (named_by metas keys v meta key o (up_from 0 m)) o

-- the entry of the transition that starts at a byte, over the names packed in `prefix`
abbrev pub finished : List ℕ → ℕ → List ℕ → List ℕ → List ℕ → ℕ → Bool → ℕ → List Pair
finished s at metas keys v m own prefix =
    let key = pad_to (arity_of s at) prefix in
    entry_of (meta_at s at) key (out_over metas keys v m own (meta_at s at) key (out_of s at))

-- the name x packed after others
abbrev pub with_name : ℕ → ℕ → ℕ
with_name prefix x = byte_values * prefix + x

-- what f gives for all choices of names for the states qs, after the names packed in `prefix`; `own` says whether all
-- are own names
abbrev pub walk : (ℕ → List ℕ) → ℕ → (Bool → ℕ → List Pair) → List ℕ → Bool → ℕ → List Pair
walk K n f [] own prefix = f own prefix
walk K n f (q ∷ qs) own prefix = concat_map (λ x. walk K n f qs (own && ltb n x) (with_name prefix x)) (K q)

-- the states of the places from k on of the transition that starts at a byte
abbrev pub args_from : List ℕ → ℕ → ℕ → List ℕ
args_from s at k = map (arg_of s at) (up_from k (arity_of s at - k))

-- the entries of all choices from place k on
unfoldable pub chosen_from : List ℕ → ℕ → ℕ → List ℕ → List ℕ → ℕ → ℕ → List ℕ → List ℕ → List ℕ → Bool → ℕ →
    List Pair
chosen_from s at k firsts nexts n m metas keys v own prefix =
    walk (names_of firsts nexts) n (finished s at metas keys v m) (args_from s at k) own prefix

-- the entries of transition i, and those of the first `count` transitions
abbrev pub nth_chosen : List ℕ → List ℕ → List ℕ → ℕ → ℕ → List ℕ → List ℕ → List ℕ → ℕ → List Pair
nth_chosen s firsts nexts n m metas keys v i =
    chosen_from s (transition_bytes * i) 0 firsts nexts n m metas keys v true 0

unfoldable pub chosen_in : List ℕ → ℕ → List ℕ → List ℕ → ℕ → ℕ → List ℕ → List ℕ → List ℕ → List Pair
chosen_in s count firsts nexts n m metas keys v =
    concat_map (nth_chosen s firsts nexts n m metas keys v) (up_from 0 count)

-- the entry of the subtree at index j, if it is new
abbrev pub new_entry : ℕ → List ℕ → List ℕ → List ℕ → List ℕ → List ℕ → List ℕ → ℕ → List Pair
new_entry n r c q v metas keys j =
    cond (new_at n r c q v j) ((byte_values * get_or metas j 0 + get_or v j 0, get_or keys j 0) ∷ []) []

-- the entries of the m subtrees
unfoldable pub new_in : ℕ → ℕ → List ℕ → List ℕ → List ℕ → List ℕ → List ℕ → List ℕ → List Pair
new_in n m r c q v metas keys = concat_map (new_entry n r c q v metas keys) (up_from 0 m)

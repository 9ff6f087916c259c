-- The entries of all choices for the places of a transition: at the last place one entry, before it those of each name
-- of the place in turn.
use mathlib.Core.Bool.{Bool, ◌&&◌, false, true}
use mathlib.Core.List.{List, [], ◌++◌, ◌∷◌, map}
use mathlib.Core.Logic.{inl, inr}
use mathlib.Core.Path.{◌∙◌, ◌≡◌, ap, sym}
use Prim.Native.Nat.{◌*◌, ◌+◌, ◌-◌, ◌<◌, ◌≤◌, suc, zero, ℕ}
use native.Mathlib.Omega.{arith}
use lib.Dec.{ltb}
use lib.ListN.{get_or}
use Rattle.automata.specs.Product.{concat_map}
use Rattle.format.specs.Format.{byte_values}
use Rattle.lists.specs.Positions.{Pair, up_from}
use Rattle.pairs.specs.Counts.{entry}
use Rattle.table.specs.Layout.{arg_of, arity_of}
use Rattle.lists.proofs.Loops.{up_from-next, up_from-none, up_from-whole}
use Rattle.quotient.specs.Kept.{Above, Rises, chain_from, names_of}
use Rattle.quotient.specs.Making.{args_from, chosen_from, chosen_in, new_in, walk, with_name}
use Rattle.quotient.specs.Named.{added_at, added_in, adds, choices_from, choices_in, finished_in, nth_choices}
use Rattle.quotient.specs.declared.named.Names.{Names}
use Rattle.quotient.proofs.Chains.{chain-end, chain_next}

-- how far a chain can still rise
abbrev pub chain_left : ℕ → ℕ
chain_left zero = 0
chain_left (suc x) = byte_values - x

less-left : (x y : ℕ) → Above x y → 1 ≤ x → x < byte_values → chain_left y < chain_left x
less-left zero y a h l = absurd (omega arith)
less-left (suc x) zero a h l = omega arith
less-left (suc x) (suc y) (inl e) h l = absurd (omega arith)
less-left (suc x) (suc y) (inr p) h l = omega arith

pub chain-less : {nexts : List ℕ} (x : ℕ) → Rises nexts → 1 ≤ x → x < byte_values →
    chain_left (entry nexts x) < chain_left x
chain-less {nexts} x R h l = less-left x (entry nexts x) (R.above x) h l

-- ---- all choices

module _ (g : Names) (s : List ℕ) (at k : ℕ) where
  -- the entries of all choices for a list of states
  abbrev walk_in : List ℕ → Bool → ℕ → List Pair
  walk_in = walk (names_of g.kept.now.firsts g.kept.now.nexts) g.named.now.n (finished_in g s at)

  -- the entries over a name at place k
  abbrev with_next : Bool → ℕ → ℕ → List Pair
  with_next own prefix x = walk_in (args_from s at (k + 1)) (own && ltb g.named.now.n x) (with_name prefix x)

  -- the entries over the names from x on in the chain
  unfoldable pub chosen_left : Bool → ℕ → ℕ → List Pair
  chosen_left own prefix x = concat_map (with_next own prefix) (chain_from g.kept.now.nexts x)

  pub chosen_last : (own : Bool) (prefix : ℕ) → k ≡ arity_of s at →
      choices_from g s at k own prefix ≡ finished_in g s at own prefix
  unfolding chosen_from
  chosen_last own prefix e =
      ap (λ (ks : List ℕ). walk_in (map (arg_of s at) ks) own prefix) (up_from-none k (arity_of s at) (omega arith))

  pub chosen-first : (own : Bool) (prefix x : ℕ) → k < arity_of s at → x ≡ entry g.kept.now.firsts (arg_of s at k) →
      chosen_left own prefix x ≡ choices_from g s at k own prefix
  unfolding chosen_from chosen_left
  chosen-first own prefix x h e =
      ap (chosen_left own prefix) e
      ∙ sym (ap (λ (ks : List ℕ). walk_in (map (arg_of s at) ks) own prefix) (up_from-next k (arity_of s at) h))

  pub chosen-next : (own : Bool) (prefix x y : ℕ) → 1 ≤ x → y ≡ entry g.kept.now.nexts x →
      chosen_left own prefix x ≡
      choices_from g s at (k + 1) (own && ltb g.named.now.n x) (with_name prefix x) ++
      chosen_left own prefix y
  unfolding chosen_from chosen_left
  chosen-next own prefix x y h e =
      ap (concat_map (with_next own prefix))
      (chain_next g.kept.now.nexts g.rises x h ∙ ap (λ (z : ℕ). x ∷ chain_from g.kept.now.nexts z) (sym e))

  pub chosen-end : (own : Bool) (prefix x : ℕ) → x ≡ 0 → chosen_left own prefix x ≡ []
  unfolding chosen_left
  chosen-end own prefix x e = ap (concat_map (with_next own prefix)) (chain-end g.kept.now.nexts g.rises x e)

-- at the last place each name has one entry
pub last-next : (g : Names) (s : List ℕ) (at k : ℕ) (own : Bool) (prefix x y : ℕ) → k + 1 ≡ arity_of s at → 1 ≤ x →
    y ≡ entry g.kept.now.nexts x →
    chosen_left g s at k own prefix x ≡
    finished_in g s at (own && ltb g.named.now.n x) (with_name prefix x) ++ chosen_left g s at k own prefix y
last-next g s at k own prefix x y l h e =
    chosen-next g s at k own prefix x y h e
    ∙ ap (λ (ps : List Pair). ps ++ chosen_left g s at k own prefix y)
    (chosen_last g s at (k + 1) (own && ltb g.named.now.n x) (with_name prefix x) l)

-- ---- one transition or subtree after another

-- what f gives for the numbers from i on
abbrev pub left_from : (ℕ → List Pair) → ℕ → ℕ → List Pair
left_from f n i = concat_map f (up_from i (n - i))

pub left-start : (f : ℕ → List Pair) (n : ℕ) → left_from f n 0 ≡ concat_map f (up_from 0 n)
left-start f n = ap (concat_map f) (sym (up_from-whole 0 n n (omega arith)))

pub left-next : (f : ℕ → List Pair) (n i : ℕ) → i < n → left_from f n i ≡ f i ++ left_from f n (i + 1)
left-next f n i h = ap (concat_map f) (up_from-next i n h)

pub left_end : (f : ℕ → List Pair) (n i : ℕ) → n ≤ i → left_from f n i ≡ []
left_end f n i h = ap (concat_map f) (up_from-none i n h)

pub new-start : (g : Names) → left_from (added_at g) g.named.now.subtrees.now.count 0 ≡ added_in g
unfolding new_in
new-start g = left-start (added_at g) g.named.now.subtrees.now.count

pub chosen-start : (g : Names) (s : List ℕ) (count : ℕ) → left_from (nth_choices g s) count 0 ≡ choices_in g s count
unfolding chosen_in
chosen-start g s count = left-start (nth_choices g s) count

module _ (g : Names) (j : ℕ) where
  pub entry-none : adds g.named.now j ≡ false → added_at g j ≡ []
  entry-none e = rw e

  pub entry_new : adds g.named.now j ≡ true →
      added_at g j ≡
      (byte_values * get_or g.metas.now j 0 + get_or g.named.now.names.now j 0, get_or g.keys.now j 0) ∷ []
  entry_new e = rw e

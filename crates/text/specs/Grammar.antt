-- The text of a line of the bench program: (add TREE), (drop TREE) or (ask TREE), as document 01 words it, or the
-- (total) of order 2.
use Rattle.std.specs.Prelude.{◌≡◌, ℕ, suc, ◌-◌, ◌≤◌, List, [], ◌∷◌, ◌++◌, length, take}
use Rattle.format.specs.Format.{max_label}
use Rattle.lists.specs.Decimal.{decimal}
use Rattle.trees.specs.Listing.{listing}
use Rattle.trees.specs.Tree.{Forest, Tree, cons, nil, node}

abbrev pub open_bracket : ℕ
open_bracket = 40

abbrev pub close_bracket : ℕ
close_bracket = 41

abbrev pub space : ℕ
space = 32

-- a label in decimal without leading zeros
abbrev pub label_text : ℕ → List ℕ
label_text a = decimal a

-- an opening bracket, a label, then for each child a space and a tree, then a closing bracket
abbrev mutual
  pub tree_text : Tree → List ℕ
  tree_text (node a f) = open_bracket ∷ (label_text a ++ (children_text f ++ (close_bracket ∷ [])))

  pub children_text : Forest → List ℕ
  children_text nil = []
  children_text (cons t f) = space ∷ (tree_text t ++ children_text f)

pub data Command : Type 0 where
  to_add to_drop to_ask : Command

-- an opening bracket, the word (add, drop, ask) and exactly one space
abbrev pub head : Command → List ℕ
head to_add = open_bracket ∷ 97 ∷ 100 ∷ 100 ∷ space ∷ []
head to_drop = open_bracket ∷ 100 ∷ 114 ∷ 111 ∷ 112 ∷ space ∷ []
head to_ask = open_bracket ∷ 97 ∷ 115 ∷ 107 ∷ space ∷ []

-- one bracketed form
abbrev pub command_text : Command → Tree → List ℕ
command_text c t = head c ++ (tree_text t ++ (close_bracket ∷ []))

-- the line that asks for the total, without a space and without a tree
abbrev pub total_text : List ℕ
total_text = open_bracket ∷ 116 ∷ 111 ∷ 116 ∷ 97 ∷ 108 ∷ close_bracket ∷ []

-- no label of a tree is above the largest, which is 65,535
abbrev mutual
  pub Labelled : Tree → Type 0
  Labelled (node a f) = (a ≤ max_label) × AllLabelled f

  pub AllLabelled : Forest → Type 0
  AllLabelled nil = Unit {0}
  AllLabelled (cons t f) = Labelled t × AllLabelled f

-- a line is the text of the command c and a tree, of any size, with labels up to the largest; l is the tree's
-- listing
pub record CommandLine (s : List ℕ) (c : Command) (l : List ℕ) : Type 0 where
  pub tree : Tree
  pub labels : Labelled tree
  pub text : s ≡ command_text c tree
  pub bytes : l ≡ listing tree

-- a line is well-formed if it is the text of a command and such a tree, or asks for the total
pub data WellFormed (s : List ℕ) : Type 0 where
  on_tree : (c : Command) (l : List ℕ) → CommandLine s c l → WellFormed s
  total : s ≡ total_text → WellFormed s

-- s is the beginning of a line of the language P
pub record Begins (P : List ℕ → Type 0) (s : List ℕ) : Type 0 where
  pub rest : List ℕ
  pub line : P (s ++ rest)

-- Column m is that of the first byte that no line of P has there after the bytes before it; the end of the line counts
-- as such a byte.
pub record FirstBad (P : List ℕ → Type 0) (s : List ℕ) (m : ℕ) : Type 0 where
  pub within : (1 ≤ m) × (m ≤ suc (length s))
  pub before : Begins P (take (m - 1) s)
  pub there : m ≤ length s → Begins P (take m s) → ⊥
  pub malformed : P s → ⊥

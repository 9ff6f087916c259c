-- The contracts of the functions within the reader: what they return, in terms of the grammar and of the scan.
use Rattle.std.specs.Prelude.{Err, None, Ok, Option, Result, Some}
use Rattle.std.specs.Prelude.{◌≡◌, ℕ, suc, ◌+◌, ◌*◌, ◌≤◌, false, List, [], ◌∷◌, ◌++◌, length, take, drop, slice_index}
use Rattle.std.proofs.lemmas.List.Edits.{sets}
use Rattle.format.specs.Format.{listing_bytes, max_label, node_bytes}
use Rattle.text.specs.Columns.{Ahead, OnLine}
use Rattle.text.specs.Grammar.{AllLabelled, Labelled, children_text, close_bracket, label_text, open_bracket}
use Rattle.text.specs.Grammar.{total_text, tree_text}
use Rattle.text.specs.Outcome.{padded}
use Rattle.text.specs.Reader.{Open, Place, Reading, among, bad, ending, expecting, extends, is_digit}
use Rattle.text.specs.Reader.{form, read_form, read_total, scan, tree_read, whole}
use Rattle.text.specs.declared.cursor.Cursor.{Cursor}
use Rattle.text.specs.declared.Label.{Label}
use Rattle.text.specs.declared.Trees.{Trees}
use Rattle.trees.specs.Listing.{listing, listings}
use Rattle.trees.specs.Tree.{Forest, Tree, count}

-- the fewest bytes before a tree, those of "(add "
abbrev pub shortest_head : ℕ
shortest_head = 5

-- the first i bytes of s are the label a
pub record LabelTo (s : List ℕ) (i a : ℕ) : Type 0 where
  pub nonempty : 1 ≤ i
  pub within : i ≤ length s
  pub fits : a ≤ max_label
  pub text : take i s ≡ label_text a

-- the longest label that s starts with, or that it starts with none
unfoldable pub LabelRead : List ℕ → Option Label → Type 0
LabelRead s (Some a) = LabelTo s a.len a.value × (extends a.value (slice_index s a.len) ≡ false)
LabelRead s None = is_digit (slice_index s 0) ≡ false

-- a reader's cursor in the line s, and the table l of which a place rises with the cursor
pub record ReaderAt (s : List ℕ) (c : Cursor) (l : List ℕ) (at : ℕ) : Type 0 where
  pub line : OnLine s c
  pub size : length l ≡ listing_bytes
  pub room : at ≤ node_bytes * c.place

-- a tree stands between the cursors c and d, and its listing was written to l from `at` up to u, which gave m
pub record TreeText (s : List ℕ) (c : Cursor) (l : List ℕ) (at : ℕ) (m : List ℕ) (d : Cursor) (u : ℕ) : Type 0 where
  pub tree : Tree
  pub labels : Labelled tree
  pub text : drop c.place s ≡ tree_text tree ++ drop d.place s
  pub after : Ahead c (length (tree_text tree)) d
  pub end : u ≡ at + length (listing tree)
  pub written : m ≡ sets l at (listing tree)

-- the same of k children and the closing bracket after them
pub record ChildrenText (s : List ℕ) (c : Cursor) (l : List ℕ) (at : ℕ) (m : List ℕ) (k : ℕ) (d : Cursor) (u : ℕ) :
    Type 0 where
  pub trees : Forest
  pub labels : AllLabelled trees
  pub text : drop c.place s ≡ children_text trees ++ (close_bracket ∷ drop d.place s)
  pub number : k ≡ count trees
  pub after : Ahead c (suc (length (children_text trees))) d
  pub end : u ≡ at + length (listings trees)
  pub written : m ≡ sets l at (listings trees)

-- what is read of the line s from the cursor c on, at a place of the grammar
abbrev pub read_from : List ℕ → Cursor → Place → Reading
read_from s c p = ending (suc (length s)) (scan (drop c.place s) c.column p)

-- no tree stands at the cursor c, whatever nodes are around it: the first byte that is not allowed is at d
pub record NoTree (s : List ℕ) (c : Cursor) (l m : List ℕ) (d : Cursor) : Type 0 where
  pub refused : (os : List Open) → read_from s c (expecting (open_bracket ∷ []) os) ≡ bad d.column
  pub size : length m ≡ length l

-- the same of children and the closing bracket after them
pub record NoChildren (s : List ℕ) (c : Cursor) (l m : List ℕ) (d : Cursor) : Type 0 where
  pub refused : (a : ℕ) (f : Forest) (os : List Open) → read_from s c (among a f os) ≡ bad d.column
  pub size : length m ≡ length l

unfoldable pub TreeRead : List ℕ → Cursor → List ℕ → ℕ → List ℕ → Result Trees Cursor → Type 0
TreeRead s c l at m (Ok r) = TreeText s c l at m r.end r.filled
TreeRead s c l at m (Err d) = NoTree s c l m d

unfoldable pub ChildrenRead : List ℕ → Cursor → List ℕ → ℕ → List ℕ → Result Trees Cursor → Type 0
ChildrenRead s c l at m (Ok r) = ChildrenText s c l at m r.count r.end r.filled
ChildrenRead s c l at m (Err d) = NoChildren s c l m d

-- how a line is read from the cursor c after its tree, which has a listing of u bytes
unfoldable pub LineEnd : List ℕ → Cursor → ℕ → Result ℕ Cursor → Type 0
LineEnd s c u (Ok n) = (n ≡ u) × ((t : Tree) → read_from s c (tree_read t) ≡ whole t)
LineEnd s c u (Err d) = (t : Tree) → read_from s c (tree_read t) ≡ bad d.column

-- the reading of a line with the bytes w before its tree
unfoldable pub FormRead : List ℕ → List ℕ → List ℕ → Result ℕ Cursor → Type 0
FormRead w s m (Ok n) = (t : Tree) × (read_form w s ≡ whole t) × (n ≡ length (listing t)) × (m ≡ padded (listing t))
FormRead w s m (Err d) = (read_form w s ≡ bad d.column) × (length m ≡ listing_bytes)

-- the reading of a line that is to be (total), which has no listing
unfoldable pub TotalRead : List ℕ → Result (Unit {0}) Cursor → Type 0
TotalRead s (Ok u) = s ≡ total_text
TotalRead s (Err d) = read_total s ≡ form d.column

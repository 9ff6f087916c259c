-- A line read a byte at a time: what the grammar allows next at each place, and the first byte that it does not.
use Rattle.std.specs.Prelude.{ℕ, suc, ◌+◌, ◌-◌, ◌*◌, max, Bool, cond, ◌&&◌, List, [], ◌∷◌, ◌++◌, length, ◌==◌, nat_le, nat_lt}
use Rattle.format.specs.Format.{max_label, max_line}
use Rattle.lists.specs.Decimal.{digit}
use Rattle.lists.specs.Tests.{same_list}
use Rattle.text.specs.Grammar.{Command, close_bracket, head, open_bracket, space, to_add, to_ask, to_drop, total_text}
use Rattle.trees.specs.Listing.{listing}
use Rattle.trees.specs.Tree.{Forest, Tree, ◌⧺◌, cons, nil, node}

-- a node whose closing bracket is still to come: its label, and its children so far
pub record Open : Type 0 where
  pub label : ℕ
  pub children : Forest

-- A place within a line. The open nodes around it are listed from the innermost outwards.
pub data Place : Type 0 where
  -- before these bytes and then the first digit of a label
  expecting : List ℕ → List Open → Place
  -- after a digit of a label, with the number so far
  naming : ℕ → List Open → Place
  -- after a child of a node, with the node's label and its children so far
  among : ℕ → Forest → List Open → Place
  -- after the whole tree
  tree_read : Tree → Place
  -- after the bracket that closes the line
  line_read : Tree → Place
  -- after the first byte that is not allowed, with its column
  stuck : ℕ → Place

abbrev pub is_digit : ℕ → Bool
is_digit b = nat_le (digit 0) b && nat_le b (digit 9)

-- the number a with one more digit
abbrev pub extended : ℕ → ℕ → ℕ
extended a b = 10 * a + (b - digit 0)

-- a label may go on with this digit: no leading zero, and no label above the largest
abbrev pub extends : ℕ → ℕ → Bool
extends a b = is_digit b && (nat_lt 0 a && nat_le (extended a b) max_label)

-- after a tree
abbrev pub after_tree : Tree → List Open → Place
after_tree t [] = tree_read t
after_tree t (o ∷ os) = among o.label (o.children ⧺ cons t nil) os

-- after a label or a child: the node's closing bracket, or a space and a child
unfoldable pub onward : ℕ → ℕ → Forest → List Open → ℕ → Place
onward n a f os b =
    cond (b == close_bracket) (after_tree (node a f) os)
    (cond (b == space) (expecting (open_bracket ∷ []) (record { label = a; children = f } ∷ os)) (stuck n))

-- from a place past the byte b in column n
unfoldable pub next : ℕ → Place → ℕ → Place
next n (expecting [] os) b = cond (is_digit b) (naming (b - digit 0) os) (stuck n)
next n (expecting (w ∷ ws) os) b = cond (b == w) (expecting ws os) (stuck n)
next n (naming a os) b = cond (extends a b) (naming (extended a b) os) (onward n a nil os b)
next n (among a f os) b = onward n a f os b
next n (tree_read t) b = cond (b == close_bracket) (line_read t) (stuck n)
next n (line_read t) b = stuck n
next n (stuck m) b = stuck m

-- past bytes of which the first is in column n
unfoldable pub scan : List ℕ → ℕ → Place → Place
scan [] n p = p
scan (b ∷ s) n p = scan s (suc n) (next n p b)

-- the tree of a line, or the column of the first byte that is not allowed
pub data Reading : Type 0 where
  whole : Tree → Reading
  bad : ℕ → Reading

-- what is read if the line ends in column n
unfoldable pub ending : ℕ → Place → Reading
ending n (expecting w os) = bad n
ending n (naming a os) = bad n
ending n (among a f os) = bad n
ending n (tree_read t) = bad n
ending n (line_read t) = whole t
ending n (stuck m) = bad m

-- a line that is to start with w and a tree
unfoldable pub read_form : List ℕ → List ℕ → Reading
read_form w s = ending (suc (length s)) (scan s 1 (expecting (w ++ (open_bracket ∷ [])) []))

-- what a line is: a command with the listing of its tree, (total), malformed from a column on, or too long
pub data Line : Type 0 where
  formed : Command → List ℕ → Line
  totalled : Line
  form : ℕ → Line
  long : Line

-- what a line is, read as one of the three commands
abbrev pub as_line : Command → Reading → Line
as_line c (whole t) = formed c (listing t)
as_line c (bad n) = form n

-- of two ways to read a line the one that is well-formed, else the one that comes further
abbrev pub further : Line → Line → Line
further (formed c l) r = formed c l
further totalled r = totalled
further long r = long
further (form m) (formed c l) = formed c l
further (form m) totalled = totalled
further (form m) (form n) = form (max m n)
further (form m) long = long

abbrev pub read_as : Command → List ℕ → Line
read_as c s = as_line c (read_form (head c) s)

-- the number of first bytes in which two lists agree
unfoldable pub agreed : List ℕ → List ℕ → ℕ
agreed [] w = 0
agreed (b ∷ s) [] = 0
agreed (b ∷ s) (v ∷ w) = cond (b == v) (suc (agreed s w)) 0

-- what a line is, read as (total): another line is malformed in the column after the bytes in which the two agree
unfoldable pub read_total : List ℕ → Line
read_total s = cond (same_list s total_text) totalled (form (suc (agreed s total_text)))

-- what a line is, by the four ways to read it
unfoldable pub read_line : List ℕ → Line
read_line s =
    cond (nat_le (length s) max_line)
    (further (read_as to_add s) (further (read_as to_drop s) (further (read_as to_ask s) (read_total s)))) long

-- The listing of a line's tree is bytes: its labels have two bytes, and a node in a line of 512 bytes has at most 125
-- children.
use mathlib.Core.List.{List, [], ◌++◌, ◌∷◌}
use mathlib.Core.Path.{◌∙◌, ◌≡◌, ap, subst, sym}
use Prim.Native.Nat.{◌%◌, ◌/◌, ◌<◌, ◌≤◌, suc, zero, ℕ}
use native.Mathlib.Omega.{arith}
use lib.ListN.{length, length-append, replicate}
use Rattle.format.specs.Format.{AllBytes, byte_values, label_written, max_line}
use Rattle.text.proofs.LineMeaning.{line-formed}
use Rattle.text.proofs.Sizes.{forest-size}
use Rattle.text.specs.Grammar.{AllLabelled, Command, Labelled, children_text, close_bracket, head, label_text, tree_text}
use Rattle.text.specs.Reader.{formed, read_line}
use Rattle.trees.specs.Listing.{listing, listings}
use Rattle.trees.specs.Tree.{Forest, Tree, cons, count, nil, node}

bytes-cons : (a : ℕ) (s : List ℕ) → a < 256 → AllBytes s → AllBytes (a ∷ s)
bytes-cons a s h k zero = h
bytes-cons a s h k (suc i) = k i

bytes-append : (s t : List ℕ) → AllBytes s → AllBytes t → AllBytes (s ++ t)
bytes-append [] t h k = k
bytes-append (a ∷ s) t h k = bytes-cons a (s ++ t) (h 0) (bytes-append s t (λ i. h (suc i)) k)

pub bytes-zeros : (n : ℕ) → AllBytes (replicate n 0)
bytes-zeros zero = λ i. omega arith
bytes-zeros (suc n) = bytes-cons 0 (replicate n 0) (omega arith) (bytes-zeros n)

mutual
  bytes-tree : (t : Tree) → Labelled t → length (tree_text t) ≤ max_line → AllBytes (listing t)
  bytes-tree (node a f) (h, k) l =
      let e = length-append (label_text a) (children_text f ++ (close_bracket ∷ [])) in
      let d = length-append (children_text f) (close_bracket ∷ []) in
      let z = forest-size f in
      bytes-append (label_written a) (count f ∷ listings f)
      (bytes-cons (a / byte_values) (a % byte_values ∷ []) (omega arith)
      (bytes-cons (a % byte_values) [] (omega arith) (bytes-zeros 0)))
      (bytes-cons (count f) (listings f) (omega (arith, z.trees, z.text)) (bytes-forest f k (omega arith)))

  bytes-forest : (f : Forest) → AllLabelled f → length (children_text f) ≤ max_line → AllBytes (listings f)
  bytes-forest nil h l = λ i. omega arith
  bytes-forest (cons t f) (h, k) l =
      let e = length-append (tree_text t) (children_text f) in
      bytes-append (listing t) (listings f) (bytes-tree t h (omega arith)) (bytes-forest f k (omega arith))

pub line-bytes : (s : List ℕ) (c : Command) (l : List ℕ) → length s ≤ max_line → read_line s ≡ formed c l → AllBytes l
line-bytes s c l h e =
    let x = (line-formed s c l h).0 e in
    let t = x.tree in
    let q = ap length x.text ∙ length-append (head c) (tree_text t ++ (close_bracket ∷ [])) in
    let o = length-append (tree_text t) (close_bracket ∷ []) in
    subst AllBytes (sym x.bytes) (bytes-tree t x.labels (omega arith))

-- What `read_line` returns, by what the four ways to read a line give; and the size of a line's listing.
use Rattle.std.specs.Prelude.{Err, Ok}
use Rattle.std.proofs.Common.{◌≡◌, ℕ, ◌-◌, ◌<◌, ◌≤◌, max, List, [], ◌∷◌, ◌++◌, length, take, replicate, refl, ap, ◌∙◌, arith, length-append, le-leb}
use lib.Seq.{take-append_seam}
use Rattle.format.specs.Format.{listing_bytes, max_line}
use Rattle.text.specs.Clauses.{FormRead, TotalRead, shortest_head}
use Rattle.text.specs.Grammar.{Command, close_bracket, head, to_add, to_ask, to_drop, tree_text}
use Rattle.text.specs.Outcome.{no_listing, listed, padded, parsed, parsed_as}
use Rattle.text.specs.Reader.{bad, formed, read_form, read_line}
use Rattle.text.specs.declared.cursor.Cursor.{Cursor}
use Rattle.text.specs.declared.Command.TheVariants.{Total}
use Rattle.text.specs.declared.Malformed.TheVariants.{Form, Long}
use Rattle.trees.specs.Listing.{listing}
use Rattle.text.proofs.Forms.{whole-form}
use Rattle.text.proofs.LineMeaning.{line-formed, line-long, line-total}
use Rattle.text.proofs.Sizes.{tree-size}

pub parsed-long : (s m : List ℕ) → max_line < length s → m ≡ no_listing →
    (Err Long ≡ parsed (read_line s)) × (m ≡ listed (read_line s))
unfolding parsed listed
parsed-long s m h e = rw ((line-long s).1 h) (refl, e)

-- the form of a command was read
module _ (c : Command) (s m : List ℕ) where
  pub parsed-whole : length s ≤ max_line → (n : ℕ) → FormRead (head c) s m (Ok n) →
      (Ok (parsed_as c n) ≡ parsed (read_line s)) × (m ≡ listed (read_line s))
  unfolding parsed listed FormRead
  parsed-whole h n (t, e, l, p) =
      let (y, f) = whole-form (head c) s t e in
      let q = (line-formed s c (listing t) h).1 (record { tree = t; labels = f; text = y; bytes = refl }) in
      rw (q, l) (refl, p)

  -- and is malformed
  module _ (d : Cursor) (x : FormRead (head c) s m (Err d)) where
    pub broken-form : read_form (head c) s ≡ bad d.column
    unfolding FormRead
    broken-form = x.0

    pub broken-size : length m ≡ listing_bytes
    unfolding FormRead
    broken-size = x.1

-- the line was read as (total)
module _ (s m : List ℕ) (b : m ≡ no_listing) where
  pub parsed-total : (u : Unit {0}) → TotalRead s (Ok u) → (Ok Total ≡ parsed (read_line s)) × (m ≡ listed (read_line s))
  unfolding parsed listed TotalRead
  parsed-total u e = rw ((line-total s).1 e) (refl, b)

  -- and is malformed, as in every other way
  pub parsed-broken : (i j k n : ℕ) (d : Cursor) → TotalRead s (Err d) → length s ≤ max_line →
      read_form (head to_add) s ≡ bad i → read_form (head to_drop) s ≡ bad j → read_form (head to_ask) s ≡ bad k →
      n ≡ max i (max j (max k d.column)) → (Err (Form n) ≡ parsed (read_line s)) × (m ≡ listed (read_line s))
  unfolding read_line parsed listed TotalRead
  parsed-broken i j k n d t h p q o e =
      rw (le-leb (length s) max_line h, p, q, o, t) (ap (λ m. Err (Form m)) e, b)

-- the listing of a line is what the table starts with, and fits it
pub padded-listing : (l : List ℕ) → take (length l) (padded l) ≡ l
unfolding padded
padded-listing l = take-append_seam l (replicate (listing_bytes - length l) 0)

head-size : (c : Command) → shortest_head ≤ length (head c)
head-size to_add = omega arith
head-size to_drop = omega arith
head-size to_ask = omega arith

pub formed-size : (s : List ℕ) (c : Command) (l : List ℕ) → length s ≤ max_line → read_line s ≡ formed c l →
    length l ≤ listing_bytes
formed-size s c l h e =
    let x = (line-formed s c l h).0 e in
    let t = x.tree in
    let q = ap length x.text ∙ length-append (head c) (tree_text t ++ (close_bracket ∷ [])) in
    let o = length-append (tree_text t) (close_bracket ∷ []) in
    let a = tree-size t in
    omega (arith, q, o, a.listed, a.text, ap length x.bytes, head-size c)

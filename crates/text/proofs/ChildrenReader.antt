-- What the reader of children returns and what its calls ask, each as a law that a search finds.
use Rattle.std.specs.Prelude.{Err, Ok}
use Rattle.std.proofs.Common.{◌≡◌, ℕ, suc, ◌+◌, ◌-◌, ◌*◌, ◌<◌, ◌≤◌, List, [], ◌∷◌, ◌++◌, length, get_or, drop, sym, refl, ap, ◌∙◌, append_assoc, add-zero, arith, length-append, drop-cons, w8, Fits, ne_eqb}
use lib.Seq.{sets}
use Rattle.text.specs.Clauses.{ChildrenRead, ChildrenText, ReaderAt, TreeRead, TreeText}
use Rattle.text.specs.Clauses.{read_from}
use Rattle.text.specs.Columns.{Ahead, OnLine, advanced}
use Rattle.text.specs.Grammar.{children_text, close_bracket, open_bracket, space, tree_text}
use Rattle.text.specs.Reader.{Open, among, ending, expecting, next, onward}
use Rattle.text.specs.declared.cursor.Cursor.{Cursor}
use Rattle.text.specs.declared.Trees.{Trees}
use Rattle.trees.specs.Listing.{listing, listings}
use Rattle.trees.specs.Tree.{Forest, ◌⧺◌, cons, nil}
use Rattle.text.proofs.Cursors.{ahead, ahead-on-line, read_byte, read-end, read-on, read-stuck}
use Rattle.text.proofs.Sizes.{Bounds, children-bounds, sets-append, tree-bounds}
use Rattle.text.proofs.Text.{scan-tree}

module _ (s : List ℕ) (c : Cursor) (l : List ℕ) (at : ℕ) (x : ReaderAt s c l at) where
  pub children-none : length s ≤ c.place → ChildrenRead s c l at l (Err c)
  unfolding ChildrenRead ending
  children-none h =
      record { refused = λ a f os. read-end x.line h (among a f os) (λ n. refl); size = refl }

  module _ (h : c.place < length s) where
    pub children-other : (get_or s c.place 0 ≡ close_bracket → ⊥) → (get_or s c.place 0 ≡ space → ⊥) →
        ChildrenRead s c l at l (Err c)
    unfolding ChildrenRead next onward
    children-other j k =
        record {
          refused = λ a f os.
              read-stuck x.line h (among a f os)
              (rw (ne_eqb (get_or s c.place 0) close_bracket j, ne_eqb (get_or s c.place 0) space k));
          size = refl;
        }

    -- the first byte is read
    module _ (d : Cursor) (p : d ≡ advanced c 1) where
      past : Ahead c 1 d
      past = ahead x.line 1 d p (omega arith)

      past-on-line : OnLine s d
      past-on-line = ahead-on-line x.line past (omega (arith, past))

      byte-text : (b : ℕ) → get_or s c.place 0 ≡ b → drop c.place s ≡ b ∷ drop d.place s
      byte-text b e =
          let i : suc c.place ≡ d.place = omega (arith, past) in drop-cons s c.place 0 h ∙ rw (e, i)

      pub children-end : get_or s c.place 0 ≡ close_bracket → ChildrenRead s c l at l (Ok (record { count = 0; end = d; filled = at }))
      unfolding ChildrenRead
      children-end e =
          record {
            trees = nil;
            labels = tt;
            text = byte-text close_bracket e;
            number = refl;
            after = past;
            end = sym (add-zero at);
            written = refl;
          }

      module _ (e : get_or s c.place 0 ≡ space) where
        spaced : (a : ℕ) (f : Forest) (os : List Open) → read_from s c (among a f os) ≡
            read_from s d (expecting (open_bracket ∷ []) (record { label = a; children = f } ∷ os))
        unfolding next onward
        spaced a f os = read_byte x.line h (among a f os) past ∙ rw e

        pub child-ready : (t : ℕ) → length s - c.place ≡ t → (length s - d.place < t) × ReaderAt s d l at
        child-ready t k = (
          omega (arith, past),
          record { line = past-on-line; size = x.size; room = omega (arith, past, x.room) },
        )

        pub children-broken : (m : List ℕ) (f : Cursor) → TreeRead s d l at m (Err f) → ChildrenRead s c l at m (Err f)
        unfolding ChildrenRead TreeRead
        children-broken m f b =
            record {
              refused = λ a g os. spaced a g os ∙ b.refused (record { label = a; children = g } ∷ os);
              size = b.size;
            }

        -- a child is read
        module _ (m : List ℕ) (r : Trees) (y : TreeRead s d l at m (Ok r)) where
          abbrev pub f : Cursor
          f = r.end

          abbrev pub u : ℕ
          u = r.filled

          first : TreeText s d l at m f u
          unfolding TreeRead
          first = y

          first-bounds : Bounds s d l at m f u
          first-bounds = tree-bounds past-on-line first

          child : (a : ℕ) (g : Forest) (os : List Open) →
              read_from s c (among a g os) ≡ read_from s f (among a (g ⧺ cons first.tree nil) os)
          child a g os =
              let os' : List Open = record { label = a; children = g } ∷ os in
              let v = among a (g ⧺ cons first.tree nil) os in
              spaced a g os ∙
              read-on past-on-line (tree_text first.tree) (expecting (open_bracket ∷ []) os') v first.text
              first.after (λ k. scan-tree first.tree (drop f.place s) k os' first.labels)

          pub later-ready : (t : ℕ) → length s - c.place ≡ t →
              (length s - f.place < t) × ReaderAt s f m u
          later-ready t k = (
            omega (arith, past, first-bounds.further, first-bounds.line),
            record {
              line = first-bounds.line;
              size = first-bounds.size ∙ x.size;
              room = omega (arith, first-bounds.used, past, x.room);
            },
          )

          pub children-broken-later : (o : List ℕ) (g : Cursor) → ChildrenRead s f m u o (Err g) →
              ChildrenRead s c l at o (Err g)
          unfolding ChildrenRead
          children-broken-later o g b =
              record {
                refused = λ a i os. child a i os ∙ b.refused a (i ⧺ cons first.tree nil) os;
                size = b.size ∙ first-bounds.size;
              }

          -- the others are read
          module _ (o : List ℕ) (q : Trees) (v : ChildrenRead s f m u o (Ok q)) where
            abbrev pub k : ℕ
            k = q.count

            abbrev pub g : Cursor
            g = q.end

            abbrev pub w : ℕ
            w = q.filled

            later : ChildrenText s f m u o k g w
            unfolding ChildrenRead
            later = v

            later-bounds : Bounds s f m u o g w × (4 * k + f.place < g.place)
            later-bounds = children-bounds first-bounds.line later

            pub children-count-fits : Fits w8 (k + 1)
            children-count-fits = omega (arith, later-bounds, later-bounds.0.line)

            pub children-whole : ChildrenRead s c l at o (Ok (record { count = q.count + 1; end = q.end; filled = q.filled }))
            unfolding ChildrenRead
            children-whole =
                let t = first.tree in
                let ts = later.trees in
                let z' = length-append (tree_text t) (children_text ts) in
                let i = first.after in
                let i' = later.after in
                record {
                  trees = cons t ts;
                  labels = (first.labels, later.labels);
                  text =
                      byte-text space e ∙ ap (λ r. space ∷ r)
                      (first.text ∙ ap (λ r. tree_text t ++ r) later.text ∙
                      sym (append_assoc (tree_text t) (children_text ts) (close_bracket ∷ drop g.place s)));
                  number = omega (arith, later.number);
                  after = record {
                    place = omega (arith, past, z', i, i');
                    column = omega (arith, past, z', i, i');
                  };
                  end = omega (arith, first.end, later.end, length-append (listing t) (listings ts));
                  written =
                      later.written ∙ (λ v. sets (first.written v) (first.end v) (listings ts)) ∙
                      sym (sets-append l at (listing t) (listings ts));
                }

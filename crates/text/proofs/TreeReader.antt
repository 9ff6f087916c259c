-- What the tree reader returns and what its calls ask, each as a law that a search finds.
use Rattle.std.specs.Prelude.{Err, None, Ok, Some}
use Rattle.std.proofs.Common.{◌≡◌, ℕ, suc, ◌+◌, ◌-◌, ◌*◌, ◌<◌, ◌≤◌, true, false, ltb, ◌⊎◌, List, [], ◌∷◌, ◌++◌, length, get_or, drop, set, sym, refl, ap, ◌∙◌, subst, inl, inr, append_assoc, arith, length-append, length-drop, take-append-drop, length-take-le, get_or-drop, drop-cons, drop-drop, ltb-false, ltb-true, eq-eqb, ne_eqb}
use lib.Seq.{length-sets, sets}
use Rattle.format.specs.Format.{label_bytes, label_written, listing_bytes, max_label, max_line, node_bytes}
use Rattle.text.specs.Clauses.{ChildrenRead, ChildrenText, LabelRead, LabelTo, ReaderAt, TreeRead}
use Rattle.text.specs.Clauses.{read_from}
use Rattle.text.specs.Columns.{Ahead, OnLine, advanced}
use Rattle.text.specs.Grammar.{children_text, close_bracket, label_text, open_bracket}
use Rattle.text.specs.Reader.{Open, among, bad, ending, expecting, extends, is_digit, naming, next, scan}
use Rattle.text.specs.declared.cursor.Cursor.{Cursor}
use Rattle.text.specs.declared.Label.{Label}
use Rattle.text.specs.declared.Trees.{Trees}
use Rattle.trees.specs.Listing.{listings}
use Rattle.trees.specs.Tree.{nil, node}
use Rattle.lists.proofs.Parts.{part, part-drop}
use Rattle.lists.proofs.Tests.{test}
use Rattle.text.proofs.Cursors.{ahead, ahead-on-line, read_byte, read-end, read-on, read-stuck}
use Rattle.text.proofs.Sizes.{set-sets}
use Rattle.text.proofs.Text.{scan-label}

pub label_small : (s : List ℕ) (a : Label) → LabelRead s (Some a) → a.value ≤ max_label
unfolding LabelRead
label_small s a x = x.0.fits

pub label-place : (s : List ℕ) (c : Cursor) (l : List ℕ) (at : ℕ) → ReaderAt s c l at → at ≤ node_bytes * max_line
label-place s c l at x = omega (arith, x.room, x.line.within, x.line.short)

-- the table keeps its size
pub tree-size-kept : (s : List ℕ) (c : Cursor) (l : List ℕ) (at : ℕ) → ReaderAt s c l at → (a : ℕ) (m : List ℕ) →
    m ≡ sets l at (label_written a) → (d : Cursor) (i : ℕ) (n : List ℕ) (k : Trees) → ChildrenRead s d m i n (Ok k) →
    length n ≡ listing_bytes
unfolding ChildrenRead
tree-size-kept s c l at x a m w d i n k v =
    ap length v.written ∙ length-sets m i (listings v.trees) ∙ ap length w ∙ length-sets l at (label_written a) ∙
    x.size

-- after a label that does not go on children are read as after a child
naming-among : (r : List ℕ) (k n a : ℕ) (os : List Open) → extends a (get_or r 0 0) ≡ false →
    ending k (scan r n (naming a os)) ≡ ending k (scan r n (among a nil os))
unfolding scan next ending
naming-among [] k n a os e = refl
naming-among (b ∷ r) k n a os e = rw e

-- no label stands at the cursor
no_label : {s : List ℕ} {c : Cursor} → OnLine s c → is_digit (get_or s c.place 0) ≡ false → (os : List Open) →
    read_from s c (expecting [] os) ≡ bad c.column
unfolding ending next
no_label {s} {c} o e os = go (test (ltb c.place (length s)))
  where
    go : (ltb c.place (length s) ≡ true) ⊎ (ltb c.place (length s) ≡ false) →
        read_from s c (expecting [] os) ≡ bad c.column
    go (inl h) = read-stuck o (ltb-true c.place (length s) h) (expecting [] os) (rw e)
    go (inr h) = read-end o (ltb-false c.place (length s) h) (expecting [] os) (λ n. refl)

module _ (s : List ℕ) (c : Cursor) (l : List ℕ) (at : ℕ) (x : ReaderAt s c l at) where
  pub tree-none : length s ≤ c.place → TreeRead s c l at l (Err c)
  unfolding TreeRead ending
  tree-none h =
      record { refused = λ os. read-end x.line h (expecting (open_bracket ∷ []) os) (λ n. refl); size = refl }

  module _ (h : c.place < length s) where
    pub tree-other : (get_or s c.place 0 ≡ open_bracket → ⊥) → TreeRead s c l at l (Err c)
    unfolding TreeRead next
    tree-other e =
        let q = ne_eqb (get_or s c.place 0) open_bracket e in
        record { refused = λ os. read-stuck x.line h (expecting (open_bracket ∷ []) os) (rw q); size = refl }

    -- the bracket is read
    module _ (o : get_or s c.place 0 ≡ open_bracket) (d : Cursor) (p : d ≡ advanced c 1) where
      name : Ahead c 1 d
      name = ahead x.line 1 d p (omega arith)

      pub name-inside : d.place ≤ length s
      name-inside = omega (arith, name)

      name-on-line : OnLine s d
      name-on-line = ahead-on-line x.line name name-inside

      opened : (os : List Open) → read_from s c (expecting (open_bracket ∷ []) os) ≡ read_from s d (expecting [] os)
      unfolding next
      opened os =
          read_byte x.line h (expecting (open_bracket ∷ []) os) name ∙ rw (eq-eqb (get_or s c.place 0) open_bracket o)

      bracket-text : drop c.place s ≡ open_bracket ∷ drop d.place s
      bracket-text =
          let e : suc c.place ≡ d.place = omega (arith, name) in drop-cons s c.place 0 h ∙ rw (o, e)

      pub tree-nameless : LabelRead (part s d.place) None → TreeRead s c l at l (Err d)
      unfolding TreeRead LabelRead
      tree-nameless y =
          let e = subst (λ v. is_digit (get_or v 0 0) ≡ false) (part-drop s d.place) y in
          let f : d.place + 0 ≡ d.place = omega arith in
          let g = rw (get_or-drop d.place s 0 0, f) at e in
          record { refused = λ os. opened os ∙ no_label name-on-line g os; size = refl }

      -- the label is read
      module _ (v : Label) (y : LabelRead (part s d.place) (Some v)) where
        abbrev pub a : ℕ
        a = v.value

        abbrev pub i : ℕ
        i = v.len

        label : LabelTo (drop d.place s) i a × (extends a (get_or (drop d.place s) i 0) ≡ false)
        unfolding LabelRead
        label =
            subst (λ v. LabelTo v i a × (extends a (get_or v i 0) ≡ false)) (part-drop s d.place) y

        label-size : i ≡ length (label_text a)
        label-size =
            sym (length-take-le i (drop d.place s) label.0.within) ∙ ap length label.0.text

        module _ (e : Cursor) (q : e ≡ advanced d i) where
          label_inside : d.place + i ≤ length s
          label_inside = omega (arith, label.0.within, length-drop d.place s, name-inside)

          inside : Ahead d i e
          inside = ahead name-on-line i e q label_inside

          inside-on-line : OnLine s e
          inside-on-line = ahead-on-line name-on-line inside (omega (arith, inside, label_inside))

          label-text : drop d.place s ≡ label_text a ++ drop e.place s
          label-text =
              sym (take-append-drop i (drop d.place s)) ∙
              rw (label.0.text, drop-drop i d.place s, inside.place)

          labelled : (os : List Open) → read_from s c (expecting (open_bracket ∷ []) os) ≡ read_from s e (among a nil os)
          labelled os =
              let g : Ahead d (length (label_text a)) e = rw (← label-size) inside in
              let f : d.place + i ≡ e.place = omega (arith, inside) in
              let k : e.place + 0 ≡ e.place = omega arith in
              let v = rw (get_or-drop d.place s i 0, f, ← k, ← get_or-drop e.place s 0 0) at label.1 in
              opened os ∙
              read-on name-on-line (label_text a) (expecting [] os) (naming a os) label-text g
              (λ n. scan-label os a label.0.fits (drop e.place s) n) ∙
              naming-among (drop e.place s) (suc (length s)) e.column a os v

          module _ (m : List ℕ) (w : m ≡ sets l at (label_written a)) where
            size-set : length m ≡ length l
            size-set = ap length w ∙ length-sets l at (label_written a)

            pub children-ready : (t : ℕ) → length s - c.place ≡ t →
                (length s - e.place < t) × ReaderAt s e m (at + node_bytes)
            children-ready t k = (
              omega (arith, name, inside, inside-on-line),
              record {
                line = inside-on-line;
                size = size-set ∙ x.size;
                room = omega (arith, name, inside, label.0.nonempty, x.room);
              },
            )

            -- the children are read
            module _ (n : List ℕ) where
              pub tree-broken : (f : Cursor) → ChildrenRead s e m (at + node_bytes) n (Err f) →
                  TreeRead s c l at n (Err f)
              unfolding TreeRead ChildrenRead
              tree-broken f b =
                  record { refused = λ os. labelled os ∙ b.refused a nil os; size = b.size ∙ size-set }

              module _ (b : Trees) (r : ChildrenRead s e m (at + node_bytes) n (Ok b)) where
                rest : ChildrenText s e m (at + node_bytes) n b.count b.end b.filled
                unfolding ChildrenRead
                rest = r

                pub tree-whole : (g : List ℕ) → g ≡ set n (at + label_bytes) b.count →
                    TreeRead s c l at g (Ok (record { count = 1; end = b.end; filled = b.filled }))
                unfolding TreeRead
                tree-whole g i' =
                    let fs = rest.trees in
                    let t = children_text fs in
                    let y' = close_bracket ∷ [] in
                    let p' = append_assoc (label_text a) (t ++ y') (drop b.end.place s) in
                    let q' = append_assoc t y' (drop b.end.place s) in
                    let j' : at + label_bytes ≡ suc (suc at) = omega arith in
                    let k' : at + node_bytes ≡ suc (suc (suc at)) = omega arith in
                    let l1 = length-append (label_text a) (t ++ y') in
                    let l2 = length-append t y' in
                    let a' = rest.after in
                    record {
                      tree = node a fs;
                      labels = (label.0.fits, rest.labels);
                      text =
                          bracket-text ∙ ap (λ r. open_bracket ∷ r)
                          (label-text ∙ ap (λ r. label_text a ++ r) (rest.text ∙ sym q') ∙ sym p');
                      after = record {
                        place = omega (arith, name, inside, label-size, l1, l2, a');
                        column = omega (arith, name, inside, label-size, l1, l2, a');
                      };
                      end = omega (arith, rest.end);
                      written =
                          i' ∙ ap (λ r. set r (at + label_bytes) b.count) rest.written ∙
                          set-sets m (at + label_bytes) b.count (at + node_bytes) (listings fs) (omega arith) ∙
                          (λ v. sets (set (w v) (at + label_bytes) (rest.number v)) (at + node_bytes) (listings fs)) ∙
                          rw (j', k');
                    }

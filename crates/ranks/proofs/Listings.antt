-- The walk that lists a state's tree of a number: the nodes written, and the trees to come.
use mathlib.Core.Bool.{Bool, false, true}
use mathlib.Core.List.{List, [], ◌++◌, ◌∷◌, append_assoc, append-nil}
use mathlib.Core.Path.{◌∙◌, ◌≡◌, ap, ap₂, refl, subst, sym}
use Prim.Native.Nat.{◌*◌, ◌+◌, ◌-◌, ◌<◌, ◌≤◌, suc, ℕ}
use native.Mathlib.Omega.{arith}
use lib.Dec.{ltb}
use lib.ListN.{drop, get_or, length, length-append, length-replicate, replicate, replicate-append-replicate, set}
use lib.Seq.{drop_at, length-sets, sets, sets-eq}
use borrow.Author.Tests.{le-leb, lt-leb, ltb-false, ltb-true}
use Rattle.automata.specs.Ranks.{children_of}
use Rattle.automata.specs.Totals.{sum_into}
use Rattle.fields.specs.Fields.{HoldsTransitionsOver}
use Rattle.fields.proofs.Transitions.{args-length}
use Rattle.format.specs.Format.{label_bytes, label_written, max_listing, max_nodes, node_bytes, transition_bytes}
use Rattle.running.proofs.NodeBytes.{sets-append}
use Rattle.table.specs.Layout.{arity_of, label_of, transition_at, transitions_in}
use Rattle.trees.specs.Listing.{listing, listings}
use Rattle.trees.specs.Preorder.{preorder}
use Rattle.trees.specs.Tree.{Forest, Tree, ◌⧺◌, cons, count, nil, node}
use Rattle.trees.proofs.Forests.{listings-append}
use Rattle.trees.proofs.ListingRefusal.{listing-least}
use Rattle.trees.proofs.Preorder.{preorder-bytes}
use Rattle.calls.specs.Calls.{fits_listing, padded_listing}
use Rattle.ranks.specs.Steps.{ChildrenPut, Grows, Lawful, Listed, TransitionChosen, grown_at, trees_from}
use Rattle.ranks.specs.declared.choosing.Choice.{Choice}
use Rattle.ranks.proofs.Pending.{from-count, from-same, from-split}

-- ---- listings of some trees

listings-least : (f : Forest) → node_bytes * count f ≤ length (listings f)
listings-least nil = omega arith
listings-least (cons t f) =
    omega (arith, listing-least t, listings-least f, length-append (listing t) (listings f))

children-count : (T : ℕ → ℕ → Tree) (w : ℕ → ℕ) (qs : List ℕ) (k : ℕ) → count (children_of T w qs k) ≡ length qs
children-count T w [] k = refl
children-count T w (q ∷ qs) k = ap suc (children-count T w qs _)

-- ---- whether a tree fits a listing

pub fits-yes : (t : Tree) → length (listing t) ≤ max_listing → true ≡ fits_listing t
unfolding fits_listing
fits-yes t h = sym (le-leb (length (preorder t)) max_nodes (omega (arith, preorder-bytes t)))

pub fits-no : (t : Tree) → max_listing < length (listing t) → false ≡ fits_listing t
unfolding fits_listing
fits-no t h = sym (lt-leb (length (preorder t)) max_nodes (omega (arith, preorder-bytes t)))

-- a listing stored in zeros
stored-padded : (t : Tree) → length (listing t) ≤ max_listing →
    sets (replicate max_listing 0) 0 (listing t) ≡ padded_listing t
unfolding padded_listing
stored-padded t h =
    let k = length (listing t) in
    let z : 0 + k ≡ k = omega arith in
    let e : k + (max_listing - k) ≡ max_listing = omega arith in
    sets-eq (listing t) (replicate max_listing 0) 0 (omega (arith, length-replicate {A = ℕ} max_listing 0))
    ∙ ap (λ (i : ℕ). listing t ++ drop i (replicate max_listing 0)) z
    ∙ ap (λ (l : List ℕ). listing t ++ drop k l)
    (sym (replicate-append-replicate k (max_listing - k) 0 ∙ ap (λ (n : ℕ). replicate n 0) e))
    ∙ ap (λ (l : List ℕ). listing t ++ l)
    (drop_at (replicate k 0) (replicate (max_listing - k) 0) k (length-replicate k 0))

-- ---- the walk

-- number k of state q has a tree
pub record HasTree (w : ℕ → ℕ) (n q k : ℕ) : Type 0 where
  pub some : 1 ≤ q
  pub state : q ≤ n
  pub below : k < w q

-- so many nodes of the tree of state q and number k are written, and the trees to come list the rest
pub record Walk (w : ℕ → ℕ) (s : List ℕ) (c n q k : ℕ) (qs ks bytes : List ℕ) (top nodes : ℕ) : Type 0 where
  pub states-size : length qs ≡ max_nodes
  pub numbers-size : length ks ≡ max_nodes
  pub within : top ≤ max_nodes
  pub few : nodes ≤ top
  pub trees : (j : ℕ) → top ≤ j → j < max_nodes → HasTree w n (get_or qs j 0) (get_or ks j 0)
  pub written : List ℕ
  pub written-size : length written ≡ node_bytes * nodes
  pub stored : bytes ≡ sets (replicate max_listing 0) 0 written
  pub lists : (T : ℕ → ℕ → Tree) → Grows w s c n T →
      listing (T q k) ≡ written ++ listings (trees_from T qs ks top (max_nodes - top))

module _ {w : ℕ → ℕ} {s : List ℕ} {c n q k : ℕ} where
  -- the tree itself is to come
  pub walk_start : 1 ≤ q → q ≤ n → k < w q → {qs ks bytes : List ℕ} → length qs ≡ max_nodes → length ks ≡ max_nodes →
      get_or qs (max_nodes - 1) 0 ≡ q → get_or ks (max_nodes - 1) 0 ≡ k → bytes ≡ replicate max_listing 0 →
      Walk w s c n q k qs ks bytes (max_nodes - 1) 0
  walk_start h l b {qs} {ks} a d e f g = record {
    states-size = a;
    numbers-size = d;
    within = omega arith;
    few = omega arith;
    trees = λ j i m.
        let z : j ≡ max_nodes - 1 = omega arith in rw (z, e, f) (record { some = h; state = l; below = b });
    written = [];
    written-size = refl;
    stored = g;
    lists = λ T G. sym (append-nil (listing (T q k))) ∙ ap₂ (λ (p m : ℕ). listing (T p m) ++ []) (sym e) (sym f);
  }

  module _ {qs ks bytes : List ℕ} {top nodes : ℕ} (x : Walk w s c n q k qs ks bytes top nodes) where
    -- no tree is to come
    pub walk_end : max_nodes ≤ top → (T : ℕ → ℕ → Tree) → Grows w s c n T → Listed (T q k) true bytes
    walk_end h T G =
        let z : max_nodes - top ≡ 0 = omega arith in
        let whole : listing (T q k) ≡ x.written =
        x.lists T G ∙ ap (λ (m : ℕ). x.written ++ listings (trees_from T qs ks top m)) z ∙ append-nil x.written in
        let short : length (listing (T q k)) ≤ max_listing =
        omega (arith, ap length whole, x.written-size, x.few, x.within) in
        record {
          fits = fits-yes (T q k) short;
          written = λ e.
              x.stored ∙ ap (sets (replicate max_listing 0) 0) (sym whole) ∙ stored-padded (T q k) short;
        }

    pub bytes-size : length bytes ≡ max_listing
    bytes-size =
        ap length x.stored ∙ length-sets (replicate max_listing 0) 0 x.written
        ∙ length-replicate {A = ℕ} max_listing 0

    module _ (more : top < max_nodes) where
      first : HasTree w n (get_or qs top 0) (get_or ks top 0)
      first = x.trees top (omega arith) more

      pub next-trees : Lawful w s c n → get_or ks top 0 < sum_into w (get_or qs top 0) (transitions_in s c)
      next-trees law =
          omega (arith, first.below, law.sums (get_or qs top 0) first.some first.state)

      module _ {choice : Choice} (chosen : TransitionChosen w s c (get_or qs top 0) (get_or ks top 0) choice) where
        abbrev at : ℕ
        at = transition_bytes * choice.place

        -- the bytes of its top, with so many children
        abbrev node-bytes : ℕ → List ℕ
        node-bytes m = label_written (label_of s at) ++ (m ∷ [])

        abbrev own : List ℕ
        own = node-bytes (arity_of s at)

        -- the next tree is the one at the transition chosen
        abbrev children : (ℕ → ℕ → Tree) → Forest
        children T = children_of T w (transition_at s at).args choice.left

        abbrev later : (ℕ → ℕ → Tree) → Forest
        later T = trees_from T qs ks (suc top) (max_nodes - (top + 1))

        arity-count : (T : ℕ → ℕ → Tree) → count (children T) ≡ arity_of s at
        arity-count T = children-count T w (transition_at s at).args choice.left ∙ args-length s at

        next-lists : (T : ℕ → ℕ → Tree) → Grows w s c n T → listing (T q k) ≡
            x.written ++ (own ++ (listings (children T) ++ listings (later T)))
        next-lists T G =
            let z : max_nodes - top ≡ suc (max_nodes - (top + 1)) = omega arith in
            x.lists T G ∙ ap (λ (m : ℕ). x.written ++ listings (trees_from T qs ks top m)) z
            ∙ ap (λ (t : Tree). x.written ++ (listing t ++ listings (later T))) grown
            ∙ ap (λ (m : ℕ). x.written ++ (node-bytes m ++ (listings (children T) ++ listings (later T))))
            (arity-count T)
          where
            grown : T (get_or qs top 0) (get_or ks top 0) ≡ node (label_of s at) (children T)
            grown =
                G.grown (get_or qs top 0) (get_or ks top 0) first.some first.state first.below
                ∙ ap (grown_at T w) chosen.chosen

        -- the nodes written and the trees to come are too many
        pub walk-stops : top < nodes + arity_of s at → (T : ℕ → ℕ → Tree) → Grows w s c n T →
            Listed (T q k) false bytes
        walk-stops h T G = record {
          fits = fits-no (T q k) (omega (
            arith,
            ap length (next-lists T G),
            length-append x.written
                (own ++ (listings (children T) ++ listings (later T))),
            length-append (listings (children T)) (listings (later T)),
            listings-least (children T),
            listings-least (later T),
            arity-count T,
            from-count T qs ks (max_nodes - (top + 1)) (suc top),
            x.written-size,
          ));
          written = λ e. let z : ◌≡◌ {A = ℕ} 0 1 = cc in absurd (omega arith);
        }

        module _ (over : HoldsTransitionsOver s c n) (room : nodes + arity_of s at ≤ top) {top' : ℕ}
            (e : top' ≡ top + 1 - arity_of s at) {qs' ks' bytes' : List ℕ}
            (put : ChildrenPut w s at choice.left top' qs ks qs' ks')
            (b : bytes' ≡ set (sets bytes (node_bytes * nodes) (label_written (label_of s at))) (node_bytes * nodes +
            label_bytes) (arity_of s at)) where
          -- where the trees after the children start
          seam : top' + arity_of s at ≡ suc top
          seam = omega arith

          child : (i : ℕ) → i < arity_of s at → HasTree w n (get_or qs' (top' + i) 0) (get_or ks' (top' + i) 0)
          child i h = record {
            some = rw (put.states i h) (over.arg-some choice.place i chosen.within h);
            state = rw (put.states i h) (over.arg-state choice.place i chosen.within h);
            below = put.below i h;
          }

          trees-next : (j : ℕ) → top' ≤ j → j < max_nodes → HasTree w n (get_or qs' j 0) (get_or ks' j 0)
          trees-next j h l = go (ltb j (suc top)) refl
            where
              go : (d : Bool) → ltb j (suc top) ≡ d → HasTree w n (get_or qs' j 0) (get_or ks' j 0)
              go true d =
                  let i : top' + (j - top') ≡ j = omega arith in
                  subst (λ (m : ℕ). HasTree w n (get_or qs' m 0) (get_or ks' m 0)) i
                  (child (j - top') (omega (arith, ltb-true j (suc top) d, seam)))
              go false d =
                  let i = ltb-false j (suc top) d in
                  rw (put.later-states j (omega (arith, seam)), put.later-numbers j (omega (arith, seam)))
                  (x.trees j (omega arith) l)

          pub walk-next : Walk w s c n q k qs' ks' bytes' top' (nodes + 1)
          walk-next = record {
            states-size = put.states-size;
            numbers-size = put.numbers-size;
            within = omega (arith, seam);
            few = omega (arith, seam);
            trees = trees-next;
            written = x.written ++ own;
            written-size =
                let l = length-append x.written own in omega
                (arith, x.written-size);
            stored = stored_next;
            lists = lists-next;
          }
            where
              stored_next : bytes' ≡ sets (replicate max_listing 0) 0 (x.written ++ own)
              stored_next =
                  let label = label_written (label_of s at) in
                  let i : 0 + length x.written ≡ node_bytes * nodes = omega (arith, x.written-size) in
                  let z : suc (suc (node_bytes * nodes)) ≡ node_bytes * nodes + label_bytes = omega arith in
                  b
                  ∙ ap (λ (l : List ℕ). set (sets l (node_bytes * nodes) label) (node_bytes * nodes + label_bytes)
                  (arity_of s at)) x.stored
                  ∙ sym (sets-append x.written own (replicate max_listing 0) 0
                  ∙ ap (λ (j : ℕ). sets (sets (replicate max_listing 0) 0 x.written) j own) i
                  ∙ ap (λ (j : ℕ). set (sets (sets (replicate max_listing 0) 0 x.written) (node_bytes * nodes) label) j
                  (arity_of s at)) z)

              lists-next : (T : ℕ → ℕ → Tree) → Grows w s c n T → listing (T q k) ≡
                  (x.written ++ own) ++
                  listings (trees_from T qs' ks' top' (max_nodes - top'))
              lists-next T G =
                  next-lists T G
                  ∙ sym (append_assoc x.written own
                  (listings (children T) ++ listings (later T)))
                  ∙ ap (λ (l : List ℕ). (x.written ++ own) ++ l)
                  (sym (ap listings together ∙ listings-append (children T) (later T)))
                where
                  together : trees_from T qs' ks' top' (max_nodes - top') ≡ children T ⧺ later T
                  together =
                      let m : max_nodes - top' ≡ arity_of s at + (max_nodes - (top + 1)) = omega (arith, seam) in
                      ap (trees_from T qs' ks' top') m
                      ∙ from-split T qs' ks' (arity_of s at) (max_nodes - (top + 1)) top'
                      ∙ ap₂ ◌⧺◌ (sym (put.children T))
                      (ap (λ (i : ℕ). trees_from T qs' ks' i (max_nodes - (top + 1))) seam
                      ∙ from-same T qs ks qs' ks' (max_nodes - (top + 1)) (suc top)
                      (λ j h l. put.later-states j (omega (arith, seam)))
                      (λ j h l. put.later-numbers j (omega (arith, seam))))

-- The entries that code makes are those of the transitions between names, in order.
use mathlib.Core.Bool.{Bool, ◌&&◌, cond, false, true}
use mathlib.Core.List.{List, [], ◌++◌, ◌∷◌, map, map-append, map-map}
use mathlib.Core.Path.{◌∙◌, ◌≡◌, ap, ap₂, refl, subst, sym}
use Prim.Native.Nat.{◌*◌, ◌+◌, ◌-◌, ◌<◌, ◌≤◌, ℕ}
use native.Mathlib.Nat.{sub-zero}
use native.Mathlib.Omega.{arith}
use lib.Dec.{eqb, ltb}
use lib.ListN.{get_or-eq_default, get_or, length, length-append, length-map, take}
use borrow.Author.Tests.{ltb-false, ltb-true}
use Rattle.automata.specs.Automaton.{Automaton, IsState, Transition}
use Rattle.automata.specs.Product.{concat_map, fst, snd}
use Rattle.automata.specs.Quotient.{choices, chosen, has_out, is_new, kept_names, own_transition, quotient_list}
use Rattle.automata.specs.Quotient.{quotient_transition}
use Rattle.fields.specs.Fields.{HoldsTransitions}
use Rattle.format.specs.Format.{AllBytes, byte_pairs, byte_values, max_arity, max_label, transition_bytes}
use Rattle.lists.specs.Positions.{Pair, up_from}
use Rattle.lists.specs.Tests.{◌∈◌, every, filter}
use Rattle.packed.specs.Heads.{HoldsEntries, head_of, packed_args}
use Rattle.packed.specs.Packed.{meta_at, packed, pad_to}
use Rattle.subtrees.specs.Store.{bottom_up}
use Rattle.table.specs.Layout.{arg_of, arity_of, label_of, nth_transition, out_of, transitions_in}
use Rattle.trees.specs.Tree.{Tree}
use Rattle.automata.proofs.Valid.{ranged-transition}
use Rattle.lists.proofs.Intervals.{in-tabulated, length-tabulated}
use Rattle.lists.proofs.Positions.{up_from-in}
use Rattle.lists.proofs.Tests.{filter-in}
use Rattle.packed.proofs.Order.{Packable}
use Rattle.quotient.specs.Kept.{kept_at, names_of}
use Rattle.quotient.specs.Making.{Appended, chosen_from, chosen_in, entry_of, finished, new_entry, new_in}
use Rattle.quotient.specs.Making.{nth_chosen, out_over, walk}
use Rattle.quotient.specs.Nodes.{EachNode, key_of, meta_of}
use Rattle.quotient.specs.Setting.{Changed, Chosen}
use Rattle.quotient.proofs.Choices.{choices-each, choices-same, pack-padded, pack_onto, walk-choices}
use Rattle.quotient.proofs.Concatenation.{concat_map-map, concat_map-same, map-concat_map, map-filter}
use Rattle.quotient.proofs.KeptLink.{kept-link}
use Rattle.quotient.proofs.NodeLink.{out-link}
use Rattle.quotient.proofs.Numbered.{all-trees, key-names, names-length, new-same, own-transition}
use Rattle.quotient.proofs.Numbered.{tree_at}

-- the two numbers of a transition
abbrev pub entry_for : Transition → Pair
entry_for τ = (head_of τ, packed_args τ)

-- an entry of a transition, none if its output is 0
entry_listed : (meta key out : ℕ) (τ : Transition) → meta ≡ byte_pairs * length τ.args + τ.label →
    key ≡ packed τ.args → out ≡ τ.out → entry_of meta key out ≡ map entry_for (filter has_out (τ ∷ []))
entry_listed meta key out τ d e f =
    ap (λ (x : ℕ). entry_of x key out) d ∙ ap (λ (x : ℕ). entry_of (byte_pairs * length τ.args + τ.label) x out) e
    ∙ ap (entry_of (byte_pairs * length τ.args + τ.label) (packed τ.args)) f
    ∙ go (eqb τ.out 0) refl
  where
    go : (b : Bool) → eqb τ.out 0 ≡ b →
        entry_of (byte_pairs * length τ.args + τ.label) (packed τ.args) τ.out ≡
        map entry_for (filter has_out (τ ∷ []))
    go true g = rw g
    go false g = rw g

-- names that are bytes and not 0 can be packed
packable : (xs : List ℕ) → length xs ≤ max_arity →
    ((k : ℕ) → k < length xs → (1 ≤ get_or xs k 0) × (get_or xs k 0 < byte_values)) → Packable xs
packable xs h e = record {
  short = h;
  some = λ k i. (e k i).0;
  bytes = λ k. go k (ltb k (length xs)) refl;
}
  where
    go : (k : ℕ) (b : Bool) → ltb k (length xs) ≡ b → get_or xs k 0 < byte_values
    go k true d = (e k (ltb-true k (length xs) d)).1
    go k false d =
        let z : get_or xs k 0 ≡ 0 = get_or-eq_default xs 0 (ltb-false k (length xs) d) in omega arith

module _ {A : Automaton} {t : Tree} {ν : Tree → ℕ} {s : List ℕ} {count n m : ℕ} {o l r c q v firsts nexts : List ℕ}
    (C : Chosen A t ν s count n m o l r c q v firsts nexts) where
  abbrev H : Changed A t ν s count n m o l r c q v
  H = C.changed

  pub names-few : n + m < byte_values
  names-few = omega (arith, H.setting.few, H.size, H.few)

  kept-range : (p : ℕ) → IsState A p → (x : ℕ) → x ∈ kept_names A t (bottom_up t) ν p → (1 ≤ x) × (x < byte_values)
  kept-range p i x j =
      let k = subst (λ (xs : List ℕ). x ∈ xs) (sym (kept-link H p i)) j in
      let (a, b) = filter-in (kept_at n o q v p) (up_from 1 (n + m - 0)) x k in
      let u = up_from-in 1 (n + m - 0) x a in (u.0, omega (arith, u.1, names-few))

  arg-state : (i : ℕ) → i < count → (p : ℕ) → p ∈ (nth_transition s i).args → IsState A p
  unfolding transitions_in
  arg-state i h p j =
      (ranged-transition A H.setting.ranged (nth_transition s i)
      (subst (λ (τs : List Transition). nth_transition s i ∈ τs) (sym H.setting.transitions)
      (in-tabulated (nth_transition s) 0 count i (omega arith) (omega arith)))).args p j

  -- a choice for the arguments of a transition has its length and can be packed
  pub choice-fits : HoldsTransitions s count → (i : ℕ) → i < count → (xs : List ℕ) →
      xs ∈ choices (kept_names A t (bottom_up t) ν) (nth_transition s i).args →
      (length xs ≡ arity_of s (transition_bytes * i)) × Packable xs
  choice-fits R i h xs j =
      let each = choices-each (λ x. (1 ≤ x) × (x < byte_values)) (kept_names A t (bottom_up t) ν)
      (nth_transition s i).args (λ p a x b. kept-range p (arg-state i h p a) x b) xs j in
      let size : length xs ≡ arity_of s (transition_bytes * i) =
      each.0 ∙ length-tabulated (arg_of s (transition_bytes * i)) 0 (arity_of s (transition_bytes * i)) in
      (size, packable xs (omega (arith, size, R.narrow i h)) each.1)

module _ {A : Automaton} {t : Tree} {ν : Tree → ℕ} {s : List ℕ} {count n m : ℕ} {o l r c q v firsts nexts : List ℕ}
    (C : Chosen A t ν s count n m o l r c q v firsts nexts) {metas keys : List ℕ}
    (M : EachNode (meta_of l r) m metas) (K : EachNode (key_of n c) m keys) where
  -- ---- transitions of the table

  module _ (R : HoldsTransitions s count) (bytes : AllBytes s) (i : ℕ) (h : i < count) where
    abbrev at : ℕ
    at = transition_bytes * i

    abbrev τ : Transition
    τ = nth_transition s i

    finished-link : (xs : List ℕ) → xs ∈ choices (kept_names A t (bottom_up t) ν) τ.args →
        finished s at metas keys v m (true && every (ltb n) xs) (pack_onto 0 xs) ≡
        map entry_for (filter has_out (quotient_transition A (bottom_up t) ν τ xs ∷ []))
    finished-link xs j =
        let (size, P) = choice-fits C R i h xs j in
        let label : label_of s at ≤ max_label = omega (arith, bytes at, bytes (at + 1)) in
        let key : pad_to (arity_of s at) (pack_onto 0 xs) ≡ packed xs =
        ap (λ (k : ℕ). pad_to k (pack_onto 0 xs)) (sym size) ∙ pack-padded xs P.short in
        let meta : meta_at s at ≡ byte_pairs * length xs + label_of s at =
        ap (λ (k : ℕ). byte_pairs * k + label_of s at) (sym size) in
        entry_listed (meta_at s at) (pad_to (arity_of s at) (pack_onto 0 xs))
        (out_over metas keys v m (every (ltb n) xs) (meta_at s at) (pad_to (arity_of s at) (pack_onto 0 xs)) (out_of s at))
        (quotient_transition A (bottom_up t) ν τ xs) meta key
        (ap (λ (k : ℕ). out_over metas keys v m (every (ltb n) xs) k (pad_to (arity_of s at) (pack_onto 0 xs)) (out_of s at))
        meta
        ∙ ap (λ (k : ℕ). out_over metas keys v m (every (ltb n) xs) (byte_pairs * length xs + label_of s at) k (out_of s at))
        key
        ∙ out-link (H C).stored (H C).size (names-few C) M K ν v (H C).named (label_of s at) xs label P (out_of s at))

    names_same : (p : ℕ) → p ∈ τ.args → names_of firsts nexts p ≡ kept_names A t (bottom_up t) ν p
    names_same p j =
        let a = arg-state C i h p j in
        C.chained.names p (omega (arith, a.1, names-few C, (H C).size)) ∙ kept-link (H C) p a

    chosen-link : nth_chosen s firsts nexts n m metas keys v i ≡ map entry_for (chosen A t (bottom_up t) ν τ)
    unfolding chosen_from chosen
    chosen-link =
        ap (λ (k : ℕ). walk (names_of firsts nexts) n (finished s at metas keys v m) (map (arg_of s at) (up_from 0 k)) true 0)
        (sub-zero (arity_of s at))
        ∙ walk-choices (names_of firsts nexts) n (finished s at metas keys v m) τ.args true 0
        ∙ ap (concat_map (λ xs. finished s at metas keys v m (true && every (ltb n) xs) (pack_onto 0 xs)))
        (choices-same (names_of firsts nexts) (kept_names A t (bottom_up t) ν) τ.args names_same)
        ∙ concat_map-same (λ xs. finished s at metas keys v m (true && every (ltb n) xs) (pack_onto 0 xs))
        (λ xs. map entry_for (filter has_out (quotient_transition A (bottom_up t) ν τ xs ∷ [])))
        (choices (kept_names A t (bottom_up t) ν) τ.args) finished-link
        ∙ sym (map-filter entry_for has_out (quotient_transition A (bottom_up t) ν τ)
        (choices (kept_names A t (bottom_up t) ν) τ.args))

  all-chosen : HoldsTransitions s count → AllBytes s →
      chosen_in s count firsts nexts n m metas keys v ≡
      map entry_for (concat_map (chosen A t (bottom_up t) ν) A.transitions)
  unfolding chosen_in transitions_in
  all-chosen R bytes =
      concat_map-same (nth_chosen s firsts nexts n m metas keys v)
      (λ i. map entry_for (chosen A t (bottom_up t) ν (nth_transition s i))) (up_from 0 count)
      (λ i j. chosen-link R bytes i (omega (arith, up_from-in 0 count i j)))
      ∙ sym (concat_map-map (λ τ. map entry_for (chosen A t (bottom_up t) ν τ)) (nth_transition s) (up_from 0 count))
      ∙ sym (map-concat_map entry_for (chosen A t (bottom_up t) ν) (map (nth_transition s) (up_from 0 count)))
      ∙ ap (λ (τs : List Transition). map entry_for (concat_map (chosen A t (bottom_up t) ν) τs))
      (sym (H C).setting.transitions)

  -- ---- subtrees without a state

  entry-for : (j : ℕ) → j < m →
      entry_for (own_transition A (bottom_up t) ν (tree_at (H C).stored (H C).size j)) ≡
      (byte_values * get_or metas j 0 + get_or v j 0, get_or keys j 0)
  entry-for j h =
      ap entry_for (own-transition (H C).stored (H C).size ν v (H C).named j h)
      ∙ ap₂ (λ (x y : ℕ). (x, y))
      (omega (arith, names-length (H C).stored (H C).size j, M.each j h))
      (sym (K.each j h ∙ key-names (H C).stored (H C).size j h))

  new-link : (j : ℕ) → j < m → new_entry n r c q v metas keys j ≡
      map (λ u. entry_for (own_transition A (bottom_up t) ν u))
      (filter (is_new A (bottom_up t) ν) (tree_at (H C).stored (H C).size j ∷ []))
  new-link j h =
      ap (λ (b : Bool). cond b ((byte_values * get_or metas j 0 + get_or v j 0, get_or keys j 0) ∷ []) [])
      (new-same (H C).stored (H C).size ν v (H C).named j h)
      ∙ go (is_new A (bottom_up t) ν (tree_at (H C).stored (H C).size j)) refl
    where
      go : (b : Bool) → is_new A (bottom_up t) ν (tree_at (H C).stored (H C).size j) ≡ b →
          cond (is_new A (bottom_up t) ν (tree_at (H C).stored (H C).size j))
          ((byte_values * get_or metas j 0 + get_or v j 0, get_or keys j 0) ∷ []) [] ≡
          map (λ u. entry_for (own_transition A (bottom_up t) ν u))
          (filter (is_new A (bottom_up t) ν) (tree_at (H C).stored (H C).size j ∷ []))
      go true e = rw e (ap (λ (p : Pair). p ∷ []) (sym (entry-for j h)))
      go false e = rw e

  all_new : new_in n m r c q v metas keys ≡
      map entry_for (map (own_transition A (bottom_up t) ν) (filter (is_new A (bottom_up t) ν) (bottom_up t)))
  unfolding new_in
  all_new =
      concat_map-same (new_entry n r c q v metas keys)
      (λ j. map (λ u. entry_for (own_transition A (bottom_up t) ν u))
      (filter (is_new A (bottom_up t) ν) (tree_at (H C).stored (H C).size j ∷ []))) (up_from 0 m)
      (λ j i. new-link j (omega (arith, up_from-in 0 m j i)))
      ∙ sym (map-filter (λ u. entry_for (own_transition A (bottom_up t) ν u)) (is_new A (bottom_up t) ν)
      (tree_at (H C).stored (H C).size) (up_from 0 m))
      ∙ ap (λ (us : List Tree). map (λ u. entry_for (own_transition A (bottom_up t) ν u)) (filter (is_new A (bottom_up t) ν) us))
      (sym (all-trees (H C).stored (H C).size))
      ∙ sym (map-map entry_for (own_transition A (bottom_up t) ν) (filter (is_new A (bottom_up t) ν) (bottom_up t)))

  -- ---- all of them

  pub all-link : HoldsTransitions s count → AllBytes s →
      chosen_in s count firsts nexts n m metas keys v ++ new_in n m r c q v metas keys ≡
      map entry_for (quotient_list A t (bottom_up t) ν)
  unfolding quotient_list
  all-link R bytes =
      ap₂ (λ (x y : List Pair). x ++ y) (all-chosen R bytes) all_new
      ∙ sym (map-append entry_for (concat_map (chosen A t (bottom_up t) ν) A.transitions)
      (map (own_transition A (bottom_up t) ν) (filter (is_new A (bottom_up t) ν) (bottom_up t))))

  -- how many they are
  pub all-length : HoldsTransitions s count → AllBytes s →
      length (chosen_in s count firsts nexts n m metas keys v) + length (new_in n m r c q v metas keys) ≡
      length (quotient_list A t (bottom_up t) ν)
  all-length R bytes =
      sym (length-append (chosen_in s count firsts nexts n m metas keys v) (new_in n m r c q v metas keys))
      ∙ ap length (all-link R bytes) ∙ length-map (quotient_list A t (bottom_up t) ν) entry_for

-- the arrays hold the transitions whose entries were put into them
pub entries-held : {h a h' a' : List ℕ} {n k : ℕ} {ps : List Pair} (W : List Transition) → n ≡ 0 → ps ≡ map entry_for W →
    Appended h a n ps h' a' k → HoldsEntries h' a' k W
entries-held {h} {a} {h'} {a'} {n} {k} {ps} W z e X = record {
  size = omega (arith, X.count, z, ap length e, length-map W entry_for);
  heads = X.heads ∙ ap (λ (j : ℕ). take j h ++ map fst ps) z ∙ ap (map fst) e ∙ map-map fst entry_for W;
  args = X.args ∙ ap (λ (j : ℕ). take j a ++ map snd ps) z ∙ ap (map snd) e ∙ map-map snd entry_for W;
}

-- Representatives of names: a subtree that has its own name, or a tree that is no subtree and runs to a state. The name
-- of a node over representatives is found by its label and their names.
use mathlib.Core.Bool.{Bool, ◌&&◌, cond, false, true, true≢false}
use mathlib.Core.List.{List, [], ◌∷◌, map}
use mathlib.Core.Logic.{◌⊎◌, inl, inr}
use mathlib.Core.Path.{◌∙◌, ◌≡◌, ap, refl, subst, sym}
use Prim.Native.Nat.{◌+◌, ◌<◌, ◌≤◌, ℕ}
use native.Mathlib.Omega.{arith}
use lib.Dec.{eqb}
use borrow.Author.Tests.{eq-eqb, eqb-true}
use Rattle.automata.specs.Automaton.{Automaton, Fits, run, runs, states}
use Rattle.automata.specs.Canonical.{each_tree}
use Rattle.automata.specs.Change.{subtree_number, subtrees}
use Rattle.automata.specs.Names.{is_subtree}
use Rattle.automata.specs.OpenStates.{open_state}
use Rattle.automata.specs.Quotient.{all_own, has_own, is_node_of, kept_names, node_name, own_at, own_name, own_names}
use Rattle.automata.specs.SubtreeNames.{name_of}
use Rattle.lists.specs.Tests.{Distinct, Exactly, ◌∈◌, filter, same_list}
use Rattle.trees.specs.Tree.{AllTrees, Forest, Tree, cons, eq_tree, nil, node}
use Rattle.automata.proofs.Change.{subtrees-closed}
use Rattle.automata.proofs.Distinguishable.{run_fits}
use Rattle.automata.proofs.Names.{in-subtree, other-in, subtree-in}
use Rattle.automata.proofs.StatePairs.{open-tree, tree-open}
use Rattle.lists.proofs.Distinct.{append-distinct, filter-distinct, map-distinct}
use Rattle.lists.proofs.Positions.{position-inj, position-pos}
use Rattle.lists.proofs.Tests.{and_both, and_left, and_right, append-in, eqb_same, filter-in, in_append_left}
use Rattle.lists.proofs.Tests.{in_append_right, in-filter, in_map, map-in, same_list-refl, same_list-true, test}
use Rattle.trees.proofs.Trees.{eq_tree-same, eq_tree-true}

module _ (A : Automaton) (t : Tree) (ts : List Tree) (ν : Tree → ℕ) where
  abbrev N : Tree → ℕ
  N = name_of A t ν

  pub subtree-name : (u : Tree) → u ∈ subtrees t → name_of A t ν u ≡ ν u
  subtree-name u i = rw (in-subtree t u i)

  pub other_name : (u : Tree) → (u ∈ subtrees t → ⊥) → name_of A t ν u ≡ run A u
  other_name u miss = go (is_subtree t u) refl
    where
      go : (b : Bool) → is_subtree t u ≡ b → cond b (ν u) (run A u) ≡ run A u
      go true e = absurd (miss (subtree-in t u e))
      go false e = refl

  -- u represents its name
  unfoldable pub Rep : Tree → Type 0
  Rep u = ((u ∈ subtrees t) × (ν u ≡ own_name A ts u)) ⊎ ((u ∈ subtrees t → ⊥) × (1 ≤ run A u))

  -- all trees of a list represent their names
  abbrev pub Reps : Forest → Type 0
  Reps f = AllTrees Rep f

  -- a representative of x that runs to q
  unfoldable pub RepAt : ℕ → ℕ → Type 0
  RepAt q x = (u : Tree) × Rep u × (N u ≡ x) × (run A u ≡ q)

  module _ (fit : Fits A) (listed : Exactly (λ u. u ∈ subtrees t) ts) where
    -- ---- own names

    pub own-above : (u : Tree) → u ∈ subtrees t → states A < own_name A ts u
    own-above u i =
        omega (arith, position-pos eq_tree eq_tree-true eq_tree-same ts u ((listed.members u).1 i))

    pub own-inj : (u v : Tree) → u ∈ subtrees t → own_name A ts u ≡ own_name A ts v → u ≡ v
    own-inj u v i e =
        position-inj eq_tree eq_tree-true eq_tree-same ts u v ((listed.members u).1 i)
        (cancel (subtree_number ts u) (subtree_number ts v) e)
      where
        cancel : (m n : ℕ) → states A + m ≡ states A + n → m ≡ n
        cancel m n e = omega arith

    -- a representative that has the own name of a subtree is this subtree
    rep-own : (u v : Tree) → Rep u → v ∈ subtrees t → N u ≡ own_name A ts v → u ≡ v
    unfolding Rep
    rep-own u v (inl (i, e)) j d = own-inj u v i (sym e ∙ sym (subtree-name u i) ∙ d)
    rep-own u v (inr (miss, s)) j d =
        absurd (omega (arith, own-above v j, run_fits A fit u, sym (other_name u miss) ∙ d))

    -- representatives of one name run to one state
    rep-run : (u v : Tree) → Rep u → Rep v → N u ≡ N v → run A u ≡ run A v
    unfolding Rep
    rep-run u v p (inl (j, e)) d = ap (run A) (rep-own u v p j (d ∙ subtree-name v j ∙ e))
    rep-run u v (inl (i, e)) (inr q) d =
        ap (run A) (sym (rep-own v u (inr q) i (sym d ∙ subtree-name u i ∙ e)))
    rep-run u v (inr p) (inr q) d = sym (other_name u p.0) ∙ d ∙ other_name v q.0

    pub reps-run : (f g : Forest) → Reps f → Reps g → each_tree N f ≡ each_tree N g → runs A f ≡ runs A g
    reps-run nil nil p q e = refl
    reps-run nil (cons v g) p q e = let z : ◌≡◌ {A = ℕ} 0 1 = cc in absurd (omega arith)
    reps-run (cons u f) nil p q e = let z : ◌≡◌ {A = ℕ} 0 1 = cc in absurd (omega arith)
    reps-run (cons u f) (cons v g) p q e =
        let d : N u ≡ N v = cc in
        let ds : each_tree N f ≡ each_tree N g = cc in
        cc (rep-run u v p.0 q.0 d, reps-run f g p.1 q.1 ds)

    -- subtrees that represent names have their own
    pub reps-own : (f : Forest) → Reps f → AllTrees (λ u. u ∈ subtrees t) f →
        (each_tree N f ≡ own_names A ts f) × (all_own A ts ν f ≡ true)
    unfolding Rep
    reps-own nil p h = (refl, refl)
    reps-own (cons u f) p h = go p.0 (reps-own f p.1 h.1)
      where
        go : Rep u → (each_tree N f ≡ own_names A ts f) × (all_own A ts ν f ≡ true) →
            ((N u ∷ each_tree N f) ≡ (own_name A ts u ∷ own_names A ts f)) ×
            ((has_own A ts ν u && all_own A ts ν f) ≡ true)
        go (inl (i, e)) ih =
            (cc (subtree-name u i ∙ e, ih.0), and_both (eq-eqb (ν u) (own_name A ts u) e) ih.1)
        go (inr (miss, s)) ih = absurd (miss h.0)

    pub own-reps : (f : Forest) → AllTrees (λ u. u ∈ subtrees t) f → all_own A ts ν f ≡ true → Reps f
    unfolding Rep
    own-reps nil h e = tt
    own-reps (cons u f) h e = (
      inl (h.0, eqb-true (ν u) (own_name A ts u) (and_left (has_own A ts ν u) (all_own A ts ν f) e)),
      own-reps f h.1 (and_right (has_own A ts ν u) (all_own A ts ν f) e),
    )

    -- ---- the name of a node over representatives

    pub reps-children : (f g : Forest) → Reps f → AllTrees (λ u. u ∈ subtrees t) g → each_tree N f ≡ own_names A ts g →
        f ≡ g
    reps-children nil nil p h e = refl
    reps-children nil (cons v g) p h e = let z : ◌≡◌ {A = ℕ} 0 1 = cc in absurd (omega arith)
    reps-children (cons u f) nil p h e = let z : ◌≡◌ {A = ℕ} 0 1 = cc in absurd (omega arith)
    reps-children (cons u f) (cons v g) p h e =
        let d : N u ≡ own_name A ts v = cc in
        let ds : each_tree N f ≡ own_names A ts g = cc in
        cc (rep-own u v p.0 h.0 d, reps-children f g p.1 h.1 ds)

    node-only : (a : ℕ) (f : Forest) → Reps f → (v : Tree) → v ∈ subtrees t →
        is_node_of A ts a (each_tree N f) v ≡ true → v ≡ node a f
    node-only a f p (node b g) i e =
        let d = eqb-true a b (and_left (eqb a b) (same_list (each_tree N f) (own_names A ts g)) e) in
        let ds = same_list-true (each_tree N f) (own_names A ts g)
        (and_right (eqb a b) (same_list (each_tree N f) (own_names A ts g)) e) in
        cc (d, reps-children f g p (subtrees-closed t b g i) ds)

    node-own : (a : ℕ) (f : Forest) → Reps f → node a f ∈ subtrees t →
        is_node_of A ts a (each_tree N f) (node a f) ≡ true
    node-own a f p i =
        and_both (eqb_same a)
        (subst (λ (xs : List ℕ). same_list xs (own_names A ts f) ≡ true)
        (sym (reps-own f p (subtrees-closed t a f i)).0) (same_list-refl (own_names A ts f)))

    none_found : (a : ℕ) (xs : List ℕ) (o : ℕ) (us : List Tree) →
        ((u : Tree) → u ∈ us → is_node_of A ts a xs u ≡ true → ⊥) → node_name A ts ν a xs o us ≡ o
    none_found a xs o [] h = refl
    none_found a xs o (u ∷ us) h = go (is_node_of A ts a xs u) refl (none_found a xs o us (λ v i. h v (inr i)))
      where
        go : (b : Bool) → is_node_of A ts a xs u ≡ b → node_name A ts ν a xs o us ≡ o →
            cond b (ν u) (node_name A ts ν a xs o us) ≡ o
        go true e ih = absurd (h u (inl refl) e)
        go false e ih = ih

    one_found : (a : ℕ) (xs : List ℕ) (o : ℕ) (w : Tree) (us : List Tree) → w ∈ us → is_node_of A ts a xs w ≡ true →
        ((u : Tree) → u ∈ us → is_node_of A ts a xs u ≡ true → u ≡ w) → node_name A ts ν a xs o us ≡ ν w
    one_found a xs o w [] i m h = elim i [ ]
    one_found a xs o w (u ∷ us) i m h =
        go (is_node_of A ts a xs u) refl i (λ j. one_found a xs o w us j m (λ v k. h v (inr k)))
      where
        go : (b : Bool) → is_node_of A ts a xs u ≡ b → w ∈ (u ∷ us) → (w ∈ us → node_name A ts ν a xs o us ≡ ν w) →
            cond b (ν u) (node_name A ts ν a xs o us) ≡ ν w
        go true e j ih = ap ν (h u (inl refl) e)
        go false e (inl d) ih = absurd (true≢false (sym m ∙ ap (is_node_of A ts a xs) d ∙ e))
        go false e (inr j) ih = ih j

    -- if its state is o when no subtree is found
    pub node-name : (a : ℕ) (f : Forest) → Reps f → (o : ℕ) → run A (node a f) ≡ o →
        node_name A ts ν a (each_tree N f) o ts ≡ name_of A t ν (node a f)
    node-name a f p o e = go (test (is_subtree t (node a f)))
      where
        go : (is_subtree t (node a f) ≡ true) ⊎ (is_subtree t (node a f) ≡ false) →
            node_name A ts ν a (each_tree N f) o ts ≡ name_of A t ν (node a f)
        go (inl d) =
            let i = subtree-in t (node a f) d in
            one_found a (each_tree N f) o (node a f) ts ((listed.members (node a f)).1 i) (node-own a f p i)
            (λ u j. node-only a f p u ((listed.members u).0 j)) ∙ sym (subtree-name (node a f) i)
        go (inr d) =
            none_found a (each_tree N f) o ts
            (λ u j m. other-in t (node a f) d
            (subst (λ (x : Tree). x ∈ subtrees t) (node-only a f p u ((listed.members u).0 j) m)
            ((listed.members u).0 j)))
            ∙ sym e ∙ sym (other_name (node a f) (other-in t (node a f) d))

    -- ---- kept names are those of representatives

    pub kept-rep : (q : ℕ) → 1 ≤ q → (x : ℕ) → x ∈ kept_names A t ts ν q → RepAt q x
    unfolding kept_names own_at Rep RepAt
    kept-rep q s x i = go (append-in (filter (open_state A t) (q ∷ [])) (map (own_name A ts) (own_at A ts ν q)) x i)
      where
        state : (x ≡ q) ⊎ ⊥ → open_state A t x ≡ true → RepAt q x
        state (inl e) o =
            let (u, r, miss) = open-tree A fit t x o in
            (u, inr (miss, omega (arith, r, e)), other_name u miss ∙ r, r ∙ e)
        state (inr j) o = absurd j

        go : (x ∈ filter (open_state A t) (q ∷ [])) ⊎ (x ∈ map (own_name A ts) (own_at A ts ν q)) → RepAt q x
        go (inl j) = let (k, o) = filter-in (open_state A t) (q ∷ []) x j in state k o
        go (inr j) =
            let (u, k, e) = map-in (own_name A ts) (own_at A ts ν q) x j in
            let (l, m) = filter-in (λ u. eqb (run A u) q && has_own A ts ν u) ts u k in
            let r = eqb-true (run A u) q (and_left (eqb (run A u) q) (has_own A ts ν u) m) in
            let o = eqb-true (ν u) (own_name A ts u) (and_right (eqb (run A u) q) (has_own A ts ν u) m) in
            let n = (listed.members u).0 l in
            (u, inl (n, o), subtree-name u n ∙ o ∙ sym e, r)

    pub rep-kept : (u : Tree) → Rep u → name_of A t ν u ∈ kept_names A t ts ν (run A u)
    unfolding kept_names own_at Rep
    rep-kept u (inl (i, e)) =
        in_append_right (filter (open_state A t) (run A u ∷ [])) (map (own_name A ts) (own_at A ts ν (run A u))) (N u)
        (subst (λ (x : ℕ). x ∈ map (own_name A ts) (own_at A ts ν (run A u))) (sym (subtree-name u i ∙ e))
        (in_map (own_name A ts) (own_at A ts ν (run A u)) u
        (in-filter (λ v. eqb (run A v) (run A u) && has_own A ts ν v) ts u ((listed.members u).1 i)
        (and_both (eqb_same (run A u)) (eq-eqb (ν u) (own_name A ts u) e)))))
    rep-kept u (inr (miss, s)) =
        in_append_left (filter (open_state A t) (run A u ∷ [])) (map (own_name A ts) (own_at A ts ν (run A u))) (N u)
        (subst (λ (x : ℕ). x ∈ filter (open_state A t) (run A u ∷ [])) (sym (other_name u miss))
        (in-filter (open_state A t) (run A u ∷ []) (run A u) (inl refl) (tree-open A fit t (run A u) s u refl miss)))

    pub kept-distinct : (q : ℕ) → Distinct (kept_names A t ts ν q)
    unfolding kept_names own_at
    kept-distinct q =
        append-distinct (filter (open_state A t) (q ∷ [])) (map (own_name A ts) (own_at A ts ν q))
        (filter-distinct (open_state A t) (q ∷ []) (λ i. i, tt))
        (map-distinct (own_name A ts) (own_at A ts ν q) (λ u v i j. own-inj u v (member u i))
        (filter-distinct (λ u. eqb (run A u) q && has_own A ts ν u) ts listed.once))
        apart
      where
        member : (u : Tree) → u ∈ own_at A ts ν q → u ∈ subtrees t
        member u i = (listed.members u).0 (filter-in (λ u. eqb (run A u) q && has_own A ts ν u) ts u i).0

        apart : (x : ℕ) → x ∈ filter (open_state A t) (q ∷ []) → x ∈ map (own_name A ts) (own_at A ts ν q) → ⊥
        apart x i j =
            let (v, r, _) = open-tree A fit t x (filter-in (open_state A t) (q ∷ []) x i).1 in
            let (u, k, e) = map-in (own_name A ts) (own_at A ts ν q) x j in
            omega (arith, own-above u (member u k), run_fits A fit v, r, e)

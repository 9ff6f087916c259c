-- The listed transitions are those between names, no key stands twice, and they are counted without making them
-- (01, refusal 17).
use mathlib.Core.Bool.{◌&&◌, false, not, true}
use mathlib.Core.List.{List, ◌++◌, map}
use mathlib.Core.Logic.{◌⊎◌, ◌≢◌, inl, inr}
use mathlib.Core.Path.{◌∙◌, ◌≡◌, ap, refl, subst, sym}
use Prim.Native.Nat.{◌+◌, ◌≤◌, suc, zero, ℕ}
use native.Mathlib.Omega.{arith}
use lib.Dec.{eqb}
use lib.ListN.{length, length-append, length-map}
use borrow.Author.Tests.{eq-eqb, eqb-false, eqb-true, ne_eqb, not-false, not-true}
use Rattle.automata.specs.Automaton.{Automaton, Transition, run}
use Rattle.automata.specs.Canonical.{transition_of}
use Rattle.automata.specs.Change.{subtrees}
use Rattle.automata.specs.Names.{is_subtree}
use Rattle.automata.specs.OpenStates.{sum_over}
use Rattle.automata.specs.Order.{rising}
use Rattle.automata.specs.Quotient.{children_own, chosen, gone_count, has_out, is_gone, is_new, kept_names, new_count}
use Rattle.automata.specs.Quotient.{own_transition, quotient_list}
use Rattle.automata.specs.SubtreeNames.{name_of}
use Rattle.automata.specs.Valid.{states_in_range}
use Rattle.lists.specs.Tests.{Distinct, Exactly, ◌∈◌, filter}
use Rattle.trees.specs.Tree.{Forest, Tree, node}
use Rattle.automata.proofs.Names.{other-in, subtree-in}
use Rattle.automata.proofs.QuotientNodes.{OwnTop, Passing, in-passing, made, own-top, own-transition-inj}
use Rattle.automata.proofs.QuotientNodes.{passing, passing-distinct, passing-in, passing-length, top-own}
use Rattle.automata.proofs.Representatives.{Reps, other_name, reps-run, subtree-name}
use Rattle.automata.proofs.Valid.{ranged-fits}
use Rattle.lists.proofs.Distinct.{append-distinct, distinct-length, filter-distinct, map-distinct}
use Rattle.lists.proofs.Tests.{and_both, and_left, and_right, append-in, filter-in, in_append_left, in_append_right}
use Rattle.lists.proofs.Tests.{in-filter, in_map, map-in, test}

not-zero : (x : ℕ) → not (eqb x 0) ≡ true → x ≢ 0
not-zero x e = eqb-false x 0 (not-true (eqb x 0) e)

zero-not : (x : ℕ) → x ≢ 0 → not (eqb x 0) ≡ true
zero-not x h = rw (ne_eqb x 0 h)

pub positive : (n : ℕ) → n ≢ 0 → 1 ≤ n
positive zero h = absurd (h refl)
positive (suc n) h = omega arith

module _ (A : Automaton) (t : Tree) (ts : List Tree) (ν : Tree → ℕ) where
  abbrev N : Tree → ℕ
  N = name_of A t ν

  -- representatives of names
  abbrev R : Forest → Type 0
  R g = Reps A t ts ν g

  -- the transitions over choices of names that are kept, and those into 0
  abbrev kept : List Transition
  kept = passing A t ts ν has_out A.transitions

  abbrev dropped : List Transition
  dropped = passing A t ts ν (λ σ. not (has_out σ)) A.transitions

  -- the transitions that subtrees add, and those that they take away
  abbrev added : List Transition
  added = map (own_transition A ts ν) (filter (is_new A ts ν) ts)

  abbrev taken : List Transition
  taken = map (own_transition A ts ν) (filter (is_gone A ts ν) ts)

  unfoldable Added : Tree → Type 0
  Added u = (u ∈ subtrees t) × (run A u ≡ 0) × (ν u ≢ 0) × (children_own A ts ν u ≡ true)

  unfoldable Gone : Tree → Type 0
  Gone u = (u ∈ subtrees t) × (run A u ≢ 0) × (ν u ≡ 0) × (children_own A ts ν u ≡ true)

  -- the transition at the top of a node over representatives that has a name
  unfoldable pub Top : Transition → Type 0
  Top σ = (a : ℕ) × (g : Forest) × Reps A t ts ν g × (N (node a g) ≢ 0) × (σ ≡ transition_of N a g)

  module _ (ranged : states_in_range A ≡ true) (rises : rising A.transitions ≡ true)
      (listed : Exactly (λ u. u ∈ subtrees t) ts) where
    listed_in : (u : Tree) → u ∈ ts → u ∈ subtrees t
    listed_in u i = (listed.members u).0 i

    -- ---- subtrees that add a transition, and those that take one away

    new_in : (u : Tree) → u ∈ filter (is_new A ts ν) ts → Added u
    unfolding Added
    new_in u i =
        let (j, e) = filter-in (is_new A ts ν) ts u i in
        let d = and_left (eqb (run A u) 0 && not (eqb (ν u) 0)) (children_own A ts ν u) e in (
          listed_in u j,
          eqb-true (run A u) 0 (and_left (eqb (run A u) 0) (not (eqb (ν u) 0)) d),
          not-zero (ν u) (and_right (eqb (run A u) 0) (not (eqb (ν u) 0)) d),
          and_right (eqb (run A u) 0 && not (eqb (ν u) 0)) (children_own A ts ν u) e,
        )

    in-new : (u : Tree) → Added u → u ∈ filter (is_new A ts ν) ts
    unfolding Added
    in-new u (i, r, n, c) =
        in-filter (is_new A ts ν) ts u ((listed.members u).1 i)
        (and_both (and_both (eq-eqb (run A u) 0 r) (zero-not (ν u) n)) c)

    gone-in : (u : Tree) → u ∈ filter (is_gone A ts ν) ts → Gone u
    unfolding Gone
    gone-in u i =
        let (j, e) = filter-in (is_gone A ts ν) ts u i in
        let d = and_left (not (eqb (run A u) 0) && eqb (ν u) 0) (children_own A ts ν u) e in (
          listed_in u j,
          not-zero (run A u) (and_left (not (eqb (run A u) 0)) (eqb (ν u) 0) d),
          eqb-true (ν u) 0 (and_right (not (eqb (run A u) 0)) (eqb (ν u) 0) d),
          and_right (not (eqb (run A u) 0) && eqb (ν u) 0) (children_own A ts ν u) e,
        )

    in-gone : (u : Tree) → Gone u → u ∈ filter (is_gone A ts ν) ts
    unfolding Gone
    in-gone u (i, r, n, c) =
        in-filter (is_gone A ts ν) ts u ((listed.members u).1 i)
        (and_both (and_both (zero-not (run A u) r) (eq-eqb (ν u) 0 n)) c)

    -- ---- what the list has

    added-top : (σ : Transition) → σ ∈ added → (u : Tree) × Added u × OwnTop A t ts ν u ×
        (σ ≡ own_transition A ts ν u)
    unfolding Added
    added-top σ i =
        let (u, j, e) = map-in (own_transition A ts ν) (filter (is_new A ts ν) ts) σ i in
        let n = new_in u j in
        (u, n, own-top A t ts ν ranged rises listed u n.0 n.3, e)

    pub list-in : (σ : Transition) → σ ∈ quotient_list A t ts ν → Top σ
    unfolding quotient_list chosen passing made Top Passing OwnTop Added
    list-in σ i = go (append-in kept added σ i)
      where
        go : (σ ∈ kept) ⊎ (σ ∈ added) → Top σ
        go (inl j) =
            let (a, g, p, s, e, m) = passing-in A t ts ν ranged rises listed has_out σ j in
            (a, g, p, not-zero (N (node a g)) (subst (λ (τ : Transition). has_out τ ≡ true) e m), e)
        go (inr j) =
            let (u, (k, r, n, c), (a, g, p, d, o), e) = added-top σ j in
            let w : ν u ≡ N (node a g) =
            sym (subtree-name A t ts ν u k) ∙ ap N d in
            (a, g, p, λ z. n (w ∙ z), e ∙ o)

    pub in_list : (a : ℕ) (g : Forest) → R g → N (node a g) ≢ 0 → transition_of N a g ∈ quotient_list A t ts ν
    unfolding quotient_list chosen passing made Added
    in_list a g p h = go (run A (node a g)) refl (test (is_subtree t (node a g)))
      where
        go : (n : ℕ) → run A (node a g) ≡ n → (is_subtree t (node a g) ≡ true) ⊎ (is_subtree t (node a g) ≡ false) →
            transition_of N a g ∈ (kept ++ added)
        go (suc n) e s =
            in_append_left kept added (transition_of N a g)
            (in-passing A t ts ν ranged rises listed has_out a g p (omega arith) (zero-not (N (node a g)) h))
        go zero e (inr s) =
            absurd (h (other_name A t ts ν (node a g)
            (other-in t (node a g) s) ∙ e))
        go zero e (inl s) =
            let i = subtree-in t (node a g) s in
            let (c, o) = top-own A t ts ν ranged rises listed a g p i in
            let n = subtree-name A t ts ν (node a g) i in
            in_append_right kept added (transition_of N a g)
            (subst (λ (σ : Transition). σ ∈ added) o
            (in_map (own_transition A ts ν) (filter (is_new A ts ν) ts) (node a g)
            (in-new (node a g) (i, e, λ z. h (n ∙ z), c))))

    -- ---- no key twice

    pub quotient-distinct : Distinct (quotient_list A t ts ν)
    unfolding quotient_list chosen passing made Passing OwnTop Added
    quotient-distinct =
        append-distinct kept added (passing-distinct A t ts ν ranged rises listed has_out)
        (map-distinct (own_transition A ts ν) (filter (is_new A ts ν) ts) one
        (filter-distinct (is_new A ts ν) ts listed.once))
        apart
      where
        one : (u v : Tree) → u ∈ filter (is_new A ts ν) ts → v ∈ filter (is_new A ts ν) ts →
            own_transition A ts ν u ≡ own_transition A ts ν v → u ≡ v
        one u v i j =
            own-transition-inj A t ts ν ranged rises listed u v (new_in u i).0 (new_in v j).0 (new_in u i).3

        apart : (σ : Transition) → σ ∈ kept → σ ∈ added → ⊥
        apart σ i j =
            let (a, g, p, s, e, _) = passing-in A t ts ν ranged rises listed has_out σ i in
            let (u, (_, r, _, _), (b, h, q, d, o), w) = added-top σ j in
            let z : transition_of N a g ≡ transition_of N b h = sym e ∙ w ∙ o in
            let l : a ≡ b = ap (λ (τ : Transition). τ.label) z in
            let rs = reps-run A t ts ν (ranged-fits A ranged) listed g h p q
            (ap (λ (τ : Transition). τ.args) z) in
            let x : run A (node a g) ≡ run A (node b h) = rw (l, rs) in
            omega (arith, x, s, ap (run A) d, r)

    -- ---- how many

    dropped-taken : (σ : Transition) → σ ∈ dropped → σ ∈ taken
    unfolding Passing Gone
    dropped-taken σ i =
        let (a, g, p, s, e, m) = passing-in A t ts ν ranged rises listed (λ σ. not (has_out σ)) σ i in
        let z = eqb-true (N (node a g)) 0
        (not-false (eqb (N (node a g)) 0)
        (not-true (has_out (transition_of N a g)) (subst (λ (τ : Transition). not (has_out τ) ≡ true) e m))) in
        go a g p s e z (test (is_subtree t (node a g)))
      where
        go : (a : ℕ) (g : Forest) → R g → 1 ≤ run A (node a g) → σ ≡ transition_of N a g → N (node a g) ≡ 0 →
            (is_subtree t (node a g) ≡ true) ⊎ (is_subtree t (node a g) ≡ false) → σ ∈ taken
        go a g p s e z (inr d) =
            absurd (omega (
              arith,
              other_name A t ts ν (node a g) (other-in t (node a g) d),
              z,
              s,
            ))
        go a g p s e z (inl d) =
            let i = subtree-in t (node a g) d in
            let (c, o) = top-own A t ts ν ranged rises listed a g p i in
            let n = subtree-name A t ts ν (node a g) i in
            subst (λ (τ : Transition). τ ∈ taken) (o ∙ sym e)
            (in_map (own_transition A ts ν) (filter (is_gone A ts ν) ts) (node a g)
            (in-gone (node a g) (i, λ w. omega (arith, w, s), sym n ∙ z, c)))

    taken-dropped : (σ : Transition) → σ ∈ taken → σ ∈ dropped
    unfolding OwnTop Gone
    taken-dropped σ i =
        let (u, j, e) = map-in (own_transition A ts ν) (filter (is_gone A ts ν) ts) σ i in
        let (k, r, z, c) = gone-in u j in
        let (a, g, p, d, o) = own-top A t ts ν ranged rises listed u k c in
        let n : N (node a g) ≡ 0 =
        ap N (sym d) ∙ subtree-name A t ts ν u k ∙ z in
        subst (λ (τ : Transition). τ ∈ dropped) (sym (e ∙ o))
        (in-passing A t ts ν ranged rises listed (λ σ. not (has_out σ)) a g p
        (positive (run A (node a g)) (λ w. r (ap (run A) d ∙ w)))
        (rw (eq-eqb (N (node a g)) 0 n)))

    dropped-length : length dropped ≡ gone_count A ts ν
    unfolding gone_count Gone
    dropped-length =
        omega (
          arith,
          distinct-length dropped taken (passing-distinct A t ts ν ranged rises listed (λ σ. not (has_out σ)))
              dropped-taken,
          distinct-length taken dropped
              (map-distinct (own_transition A ts ν) (filter (is_gone A ts ν) ts) one
              (filter-distinct (is_gone A ts ν) ts listed.once))
              taken-dropped,
          length-map (filter (is_gone A ts ν) ts) (own_transition A ts ν),
        )
      where
        one : (u v : Tree) → u ∈ filter (is_gone A ts ν) ts → v ∈ filter (is_gone A ts ν) ts →
            own_transition A ts ν u ≡ own_transition A ts ν v → u ≡ v
        one u v i j =
            own-transition-inj A t ts ν ranged rises listed u v (gone-in u i).0 (gone-in v j).0 (gone-in u i).3

    -- 01, refusal 17, by counting
    pub quotient-counted : length (quotient_list A t ts ν) + gone_count A ts ν ≡
        sum_over (λ q. length (kept_names A t ts ν q)) A.transitions + new_count A ts ν
    unfolding quotient_list chosen passing made new_count
    quotient-counted =
        omega (
          arith,
          length-append kept added,
          length-map (filter (is_new A ts ν) ts) (own_transition A ts ν),
          passing-length A t ts ν ranged rises listed has_out A.transitions,
          dropped-length,
        )

-- The uses of a state: which slots they are, that none is there twice, and that their sum does not depend on order.
use Rattle.std.proofs.Common.{◌≡◌, ℕ, ◌+◌, ◌<◌, ◌≤◌, Bool, true, false, cond, eqb, ◌⊎◌, List, [], ◌∷◌, ◌++◌, length, sym, refl, ap, ◌∙◌, subst, ap₂, inl, inr, append_assoc, append-nil, arith, length-append, eqb-true}
use Rattle.automata.specs.Automaton.{Transition}
use Rattle.automata.specs.Distinguishable.{Slot}
use Rattle.automata.specs.Order.{key, lex, rising}
use Rattle.fingerprints.specs.Fingerprints.{places, total}
use Rattle.lists.specs.Tests.{Distinct, ◌∈◌}
use Rattle.automata.proofs.Order.{key-equal, lex_irrefl, rising-head, rising-tail}
use Rattle.lists.proofs.Distinct.{append-distinct}
use Rattle.lists.proofs.Tests.{append-in, eqb_same, in_append_left, in_append_right, in_split}

-- ---- the slots of one transition

-- what a slot of q says: it is the arguments, with q taken out
abbrev pub FromArgs : List ℕ → ℕ → ℕ → Slot → Type 0
FromArgs qs a q z = (z.label ≡ a) × (qs ≡ z.before ++ (q ∷ z.after))

pub places-in : (r l : List ℕ) (a q : ℕ) (z : Slot) → z ∈ places r l a q →
    FromArgs (l ++ r) a q z × (length l ≤ length z.before)
places-in [] l a q z i = elim i [ ]
places-in (p ∷ r) l a q z i = go (eqb p q) refl i (λ j. places-in r (l ++ (p ∷ [])) a q z j)
  where
    longer : FromArgs ((l ++ (p ∷ [])) ++ r) a q z × (length (l ++ (p ∷ [])) ≤ length z.before) →
        FromArgs (l ++ (p ∷ r)) a q z × (length l < length z.before)
    longer ((e, f), h) =
        ((e, sym (append_assoc l (p ∷ []) r) ∙ f), omega (arith, length-append l (p ∷ [])))

    go : (b : Bool) → eqb p q ≡ b →
        z ∈ cond b (record { label = a; before = l; after = r } ∷ places r (l ++ (p ∷ [])) a q)
        (places r (l ++ (p ∷ [])) a q) →
        (z ∈ places r (l ++ (p ∷ [])) a q →
        FromArgs ((l ++ (p ∷ [])) ++ r) a q z × (length (l ++ (p ∷ [])) ≤ length z.before)) →
        FromArgs (l ++ (p ∷ r)) a q z × (length l ≤ length z.before)
    go true d (inl e) ih =
        let pq = eqb-true p q d in
        ((ap (λ (y : Slot). y.label) e, rw (e, pq)), rw e (omega arith))
    go true d (inr j) ih = let u = longer (ih j) in (u.0, omega (arith, u.1))
    go false d j ih = let u = longer (ih j) in (u.0, omega (arith, u.1))

in-places : (r l : List ℕ) (a q : ℕ) (b c : List ℕ) → r ≡ b ++ (q ∷ c) →
    ◌∈◌ {A = Slot} (record { label = a; before = l ++ b; after = c }) (places r l a q)
in-places [] l a q [] c e = let z : ◌≡◌ {A = ℕ} 0 1 = cc in absurd (omega arith)
in-places [] l a q (x ∷ b) c e = let z : ◌≡◌ {A = ℕ} 0 1 = cc in absurd (omega arith)
in-places (p ∷ r) l a q [] c e =
    let pq : p ≡ q = cc in
    let rc : r ≡ c = cc in
    rw (pq, rc, eqb_same q, append-nil l) (inl refl)
in-places (p ∷ r) l a q (x ∷ b) c e =
    go (eqb p q) (subst (λ (y : List ℕ). Found (places r (l ++ (p ∷ [])) a q) y) back
    (in-places r (l ++ (p ∷ [])) a q b c rest))
  where
    first : p ≡ x
    first = cc

    rest : r ≡ b ++ (q ∷ c)
    rest = cc

    Found : List Slot → List ℕ → Type 0
    Found zs y = ◌∈◌ {A = Slot} (record { label = a; before = y; after = c }) zs

    back : (l ++ (p ∷ [])) ++ b ≡ l ++ (x ∷ b)
    back = append_assoc l (p ∷ []) b ∙ ap (λ (y : ℕ). l ++ (y ∷ b)) first

    go : (t : Bool) → Found (places r (l ++ (p ∷ [])) a q) (l ++ (x ∷ b)) →
        Found (cond t (record { label = a; before = l; after = r } ∷ places r (l ++ (p ∷ [])) a q)
        (places r (l ++ (p ∷ [])) a q)) (l ++ (x ∷ b))
    go true i = inr i
    go false i = i

places-distinct : (r l : List ℕ) (a q : ℕ) → Distinct (places r l a q)
places-distinct [] l a q = tt
places-distinct (p ∷ r) l a q = go (eqb p q) (places-distinct r (l ++ (p ∷ [])) a q)
  where
    go : (b : Bool) → Distinct (places r (l ++ (p ∷ [])) a q) →
        Distinct (cond b (record { label = a; before = l; after = r } ∷ places r (l ++ (p ∷ [])) a q)
        (places r (l ++ (p ∷ [])) a q))
    go true d =
        (λ i. omega (arith, length-append l (p ∷ []), (places-in r (l ++ (p ∷ [])) a q _ i).1), d)
    go false d = d

-- ---- the slots of a list of transitions

abbrev pub uses : List Transition → ℕ → List Slot
uses [] q = []
uses (τ ∷ τs) q = places τ.args [] τ.label q ++ uses τs q

-- a transition of the list has q in this slot
abbrev pub Used : List Transition → ℕ → Slot → Type 0
Used τs q z = (τ : Transition) × (τ ∈ τs) × FromArgs τ.args τ.label q z

pub uses-in : (τs : List Transition) (q : ℕ) (z : Slot) → z ∈ uses τs q → Used τs q z
uses-in [] q z i = elim i [ ]
uses-in (τ ∷ τs) q z i = go (append-in (places τ.args [] τ.label q) (uses τs q) z i) (λ j. uses-in τs q z j)
  where
    go : (z ∈ places τ.args [] τ.label q) ⊎ (z ∈ uses τs q) → (z ∈ uses τs q → Used τs q z) → Used (τ ∷ τs) q z
    go (inl j) ih = (τ, inl refl, (places-in τ.args [] τ.label q z j).0)
    go (inr j) ih = let (υ, k, f) = ih j in (υ, inr k, f)

pub in-uses : (τs : List Transition) (q : ℕ) (z : Slot) → Used τs q z → z ∈ uses τs q
in-uses [] q z (υ, i, f) = elim i [ ]
in-uses (τ ∷ τs) q z (υ, inl e, f) = in_append_left (places τ.args [] τ.label q) (uses τs q) z here
  where
    label : z.label ≡ τ.label
    label = f.0 ∙ ap (λ (σ : Transition). σ.label) e

    args : τ.args ≡ z.before ++ (q ∷ z.after)
    args = ap (λ (σ : Transition). σ.args) (sym e) ∙ f.1

    here : z ∈ places τ.args [] τ.label q
    here =
        subst (λ (a : ℕ). z ∈ places τ.args [] a q) label
        (in-places τ.args [] z.label q z.before z.after args)
in-uses (τ ∷ τs) q z (υ, inr j, f) =
    in_append_right (places τ.args [] τ.label q) (uses τs q) z (in-uses τs q z (υ, j, f))

pub uses-distinct : (τs : List Transition) (q : ℕ) → rising τs ≡ true → Distinct (uses τs q)
uses-distinct [] q e = tt
uses-distinct (τ ∷ τs) q e =
    append-distinct (places τ.args [] τ.label q) (uses τs q) (places-distinct τ.args [] τ.label q)
    (uses-distinct τs q (rising-tail τ τs e))
    (λ z i j. apart z (places-in τ.args [] τ.label q z i).0 (uses-in τs q z j))
  where
    apart : (z : Slot) → FromArgs τ.args τ.label q z → Used τs q z → ⊥
    apart z (a, b) (υ, i, (c, d)) =
        lex_irrefl (key τ)
        (subst (λ (k : List ℕ). lex (key τ) k ≡ true) (key-equal υ τ (sym c ∙ a) (d ∙ sym b)) (rising-head τ τs e υ i))

-- ---- sums

pub total-append : (xs ys : List Slot) (f : Slot → ℕ) → total (xs ++ ys) f ≡ total xs f + total ys f
total-append [] ys f = omega arith
total-append (x ∷ xs) ys f = omega (arith, total-append xs ys f)

pub total-same : (xs : List Slot) (f g : Slot → ℕ) → ((z : Slot) → z ∈ xs → f z ≡ g z) → total xs f ≡ total xs g
total-same [] f g e = refl
total-same (x ∷ xs) f g e = ap₂ (λ (a b : ℕ). a + b) (e x (inl refl)) (total-same xs f g (λ z i. e z (inr i)))

-- a list without duplicates, and one of its elements taken out
removed-distinct : (l : List Slot) (x : Slot) (r : List Slot) → Distinct (l ++ (x ∷ r)) →
    Distinct (l ++ r) × (x ∈ (l ++ r) → ⊥)
removed-distinct [] x r d = (d.1, d.0)
removed-distinct (y ∷ l) x r d = go (removed-distinct l x r d.1)
  where
    go : Distinct (l ++ r) × (x ∈ (l ++ r) → ⊥) → Distinct (y ∷ (l ++ r)) × (x ∈ (y ∷ (l ++ r)) → ⊥)
    go (e, n) = ((λ i. d.0 (put (append-in l r y i)), e), out)
      where
        put : (y ∈ l) ⊎ (y ∈ r) → y ∈ (l ++ (x ∷ r))
        put (inl j) = in_append_left l (x ∷ r) y j
        put (inr j) = in_append_right l (x ∷ r) y (inr j)

        out : x ∈ (y ∷ (l ++ r)) → ⊥
        out (inl q) = d.0 (in_append_right l (x ∷ r) y (inl (sym q)))
        out (inr i) = n i

-- lists without duplicates and with the same members have one sum
pub total-members : (xs ys : List Slot) (f : Slot → ℕ) → Distinct xs → Distinct ys → ((z : Slot) → z ∈ xs → z ∈ ys) →
    ((z : Slot) → z ∈ ys → z ∈ xs) → total xs f ≡ total ys f
total-members [] [] f d e h k = refl
total-members [] (y ∷ ys) f d e h k = absurd (k y (inl refl))
total-members (x ∷ xs) ys f d e h k =
    go (in_split ys x (h x (inl refl))) (λ zs u v w. total-members xs zs f d.1 u v w)
  where
    go : (l : List Slot) × (r : List Slot) × (ys ≡ l ++ (x ∷ r)) →
        ((zs : List Slot) → Distinct zs → ((z : Slot) → z ∈ xs → z ∈ zs) → ((z : Slot) → z ∈ zs → z ∈ xs) →
        total xs f ≡ total zs f) → f x + total xs f ≡ total ys f
    go (l, r, s) ih =
        omega (
          arith,
          ih (l ++ r) (removed-distinct l x r split).0 there back,
          ap (λ (zs : List Slot). total zs f) s,
          total-append l (x ∷ r) f,
          total-append l r f,
        )
      where
        split : Distinct (l ++ (x ∷ r))
        split = subst (λ (zs : List Slot). Distinct zs) s e

        there : (z : Slot) → z ∈ xs → z ∈ (l ++ r)
        there z i = side (append-in l (x ∷ r) z (subst (λ (zs : List Slot). z ∈ zs) s (h z (inr i))))
          where
            side : (z ∈ l) ⊎ (z ∈ (x ∷ r)) → z ∈ (l ++ r)
            side (inl j) = in_append_left l r z j
            side (inr (inl q)) = absurd (d.0 (subst (λ (y : Slot). y ∈ xs) q i))
            side (inr (inr j)) = in_append_right l r z j

        back : (z : Slot) → z ∈ (l ++ r) → z ∈ xs
        back z i = side (k z (subst (λ (zs : List Slot). z ∈ zs) (sym s) (put (append-in l r z i))))
          where
            put : (z ∈ l) ⊎ (z ∈ r) → z ∈ (l ++ (x ∷ r))
            put (inl j) = in_append_left l (x ∷ r) z j
            put (inr j) = in_append_right l (x ∷ r) z (inr j)

            side : z ∈ (x ∷ xs) → z ∈ xs
            side (inl q) = absurd ((removed-distinct l x r split).1 (subst (λ (y : Slot). y ∈ (l ++ r)) q i))
            side (inr j) = j

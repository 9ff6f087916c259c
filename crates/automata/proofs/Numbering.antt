-- Each number is given by the first transition that is ready, and none is left.
use mathlib.Core.Bool.{Bool, ◌||◌, cond, false, false≢true, not, true, true≢false}
use mathlib.Core.List.{List, [], ◌++◌, ◌∷◌}
use mathlib.Core.Logic.{◌⊎◌, inl, inr}
use mathlib.Core.Option.{Option, none, some}
use mathlib.Core.Path.{◌∙◌, ◌≡◌, ap, refl, sym}
use Prim.Native.Nat.{◌<◌, ◌≤◌, suc, zero, ℕ}
use native.Mathlib.Omega.{arith}
use lib.Dec.{eqb, ltb}
use lib.ListN.{get_or-append, get_or, length, length-append, take}
use lib.Seq.{get_or-append_seam, take-append-le, take-append_seam}
use borrow.Author.Tests.{eq-eqb, ltb-false, ltb-true}
use Rattle.automata.specs.Automaton.{Transition}
use Rattle.automata.specs.Order.{key, precedes}
use Rattle.automata.specs.Renumber.{best, choose, maybe, numbering, numbering_from, ready, renumber}
use Rattle.lists.specs.Closure.{elem}
use Rattle.lists.specs.Tests.{◌∈◌, every, filter}
use Rattle.automata.proofs.Order.{lex-asym, lex-below, lex-self}
use Rattle.lists.proofs.Tests.{and_right, filter-in, filter-length, filter-weaker, in-filter, or_left, or_right}

-- l is ready, and no ready transition of the list comes before it
abbrev pub Best : List ℕ → List Transition → Transition → Type 0
Best o ls l =
    (l ∈ ls) × (ready o l ≡ true) ×
    ((m : Transition) → m ∈ ls → ready o m ≡ true → precedes (renumber o m) (renumber o l) ≡ false)

abbrev pub BestView : List ℕ → List Transition → Option Transition → Type 0
BestView o ls none = (m : Transition) → m ∈ ls → ready o m ≡ false
BestView o ls (some l) = Best o ls l

pub best-view : (o : List ℕ) (ls : List Transition) → BestView o ls (best o ls)
best-view o [] = λ m i. absurd i
best-view o (l ∷ ls) = go (best o ls) (ready o l) refl (best-view o ls)
  where
    pick : (m : Transition) → ready o l ≡ true → Best o ls m → (b : Bool) →
        precedes (renumber o m) (renumber o l) ≡ b → BestView o (l ∷ ls) (cond b (some m) (some l))
    pick m r (i, q, least) true e = (inr i, q, first)
      where
        first : (x : Transition) → x ∈ (l ∷ ls) → ready o x ≡ true →
            precedes (renumber o x) (renumber o m) ≡ false
        first x (inl z) h = rw z (lex-asym (key (renumber o m)) (key (renumber o l)) e)
        first x (inr j) h = least x j h
    pick m r (i, q, least) false e = (inl refl, r, first)
      where
        below : (x : Transition) → precedes (renumber o x) (renumber o m) ≡ false → (b : Bool) →
            precedes (renumber o x) (renumber o l) ≡ b → b ≡ false
        below x h true d =
            absurd (true≢false
            (sym (lex-below (key (renumber o x)) (key (renumber o m)) (key (renumber o l)) d e) ∙ h))
        below x h false d = refl

        first : (x : Transition) → x ∈ (l ∷ ls) → ready o x ≡ true →
            precedes (renumber o x) (renumber o l) ≡ false
        first x (inl z) h = rw z (lex-self (key (renumber o l)))
        first x (inr j) h = below x (least x j h) (precedes (renumber o x) (renumber o l)) refl

    go : (r : Option Transition) (b : Bool) → ready o l ≡ b → BestView o ls r →
        BestView o (l ∷ ls) (cond b (choose o l r) r)
    go none true e v = (inl refl, e, first)
      where
        first : (x : Transition) → x ∈ (l ∷ ls) → ready o x ≡ true →
            precedes (renumber o x) (renumber o l) ≡ false
        first x (inl z) h = rw z (lex-self (key (renumber o l)))
        first x (inr i) h = absurd (true≢false (sym h ∙ v x i))
    go none false e v = rest
      where
        rest : (m : Transition) → m ∈ (l ∷ ls) → ready o m ≡ false
        rest m (inl z) = rw z e
        rest m (inr i) = v m i
    go (some m) true e v = pick m e v (precedes (renumber o m) (renumber o l)) refl
    go (some m) false e (i, q, least) = (inr i, q, first)
      where
        first : (x : Transition) → x ∈ (l ∷ ls) → ready o x ≡ true →
            precedes (renumber o x) (renumber o m) ≡ false
        first x (inl z) h = absurd (true≢false (sym h ∙ ap (ready o) z ∙ e))
        first x (inr j) h = least x j h

in-length : {A : Type 0} (xs : List A) (x : A) → x ∈ xs → 1 ≤ length xs
in-length {A = A} [] x i = elim i [ ]
in-length (y ∷ xs) x i = omega arith

pub elem-append : (q : ℕ) (xs ys : List ℕ) → elem eqb q (xs ++ ys) ≡ (elem eqb q xs || elem eqb q ys)
elem-append q [] ys = refl
elem-append q (x ∷ xs) ys = go (eqb q x) (elem-append q xs ys)
  where
    go : (b : Bool) → elem eqb q (xs ++ ys) ≡ (elem eqb q xs || elem eqb q ys) →
        (b || elem eqb q (xs ++ ys)) ≡ ((b || elem eqb q xs) || elem eqb q ys)
    go true e = refl
    go false e = e

not-or : (a b : Bool) → not (a || b) ≡ true → not a ≡ true
not-or true b e = e
not-or false b e = refl

module _ (Q : List Transition) where
  unfoldable pub Opened : List ℕ → ℕ → Type 0
  Opened pre x = (l : Transition) × (l.out ≡ x) × Best pre Q l

  abbrev pub Opened-each : List ℕ → Type 0
  Opened-each o = (k : ℕ) → k < length o → Opened (take k o) (get_or o k 0)

  abbrev pub Exhausted : List ℕ → Type 0
  Exhausted o = (m : Transition) → m ∈ Q → ready o m ≡ false

  pub opened-none : Opened-each []
  opened-none k h = absurd (omega arith)

  opened-at : (o : List ℕ) (l : Transition) → Best o Q l → Opened o l.out
  unfolding Opened
  opened-at o l b = (l, refl, b)

  -- the output of the first ready transition comes next
  pub opened-extend : (o : List ℕ) → Opened-each o → (l : Transition) → Best o Q l → Opened-each (o ++ (l.out ∷ []))
  opened-extend o inv l b k h = go (ltb k (length o)) refl
    where
      go : (t : Bool) → ltb k (length o) ≡ t →
          Opened (take k (o ++ (l.out ∷ []))) (get_or (o ++ (l.out ∷ [])) k 0)
      go true e = let lt = ltb-true k (length o) e in
          rw (take-append-le k o (l.out ∷ []) (omega arith), get_or-append o (l.out ∷ []) 0 k lt)
          (inv k lt)
      go false e = let eq : k ≡ length o = omega (arith, ltb-false, length-append o (l.out ∷ [])) in
          rw (eq, take-append_seam o (l.out ∷ []), get_or-append_seam o l.out [] 0) (opened-at o l b)

  left : List ℕ → ℕ
  left o = length (filter (λ l. not (elem eqb l.out o)) Q)

  left_less : (o : List ℕ) (l : Transition) → Best o Q l → left (o ++ (l.out ∷ [])) < left o
  unfolding left
  left_less o l (i, r, least) =
      go (filter-weaker (λ m. not (elem eqb m.out (o ++ (l.out ∷ []))))
      (λ m. not (elem eqb m.out o)) Q
      (λ m j e. not-or (elem eqb m.out o) (elem eqb m.out (l.out ∷ [])) (rw elem-append at e)))
    where
      go : (filter (λ m. not (elem eqb m.out (o ++ (l.out ∷ [])))) Q ≡ filter
          (λ m. not (elem eqb m.out o)) Q) ⊎
          (length (filter (λ m. not (elem eqb m.out (o ++ (l.out ∷ [])))) Q) < length
          (filter (λ m. not (elem eqb m.out o)) Q)) →
          length (filter (λ m. not (elem eqb m.out (o ++ (l.out ∷ [])))) Q) < length
          (filter (λ m. not (elem eqb m.out o)) Q)
      go (inr h) = h
      go (inl e) =
          let old = in-filter (λ m. not (elem eqb m.out o)) Q l i
          (and_right (every (λ q. elem eqb q o) l.args) _ r) in
          let new = filter-in (λ m. not (elem eqb m.out (o ++ (l.out ∷ [])))) Q l (rw e old) in
          let there : elem eqb l.out (o ++ (l.out ∷ [])) ≡ true =
          rw (elem-append l.out o (l.out ∷ []))
          (or_right (elem eqb l.out o) _
          (or_left (eqb l.out l.out) false (eq-eqb l.out l.out refl))) in
          absurd (false≢true (sym (ap not there) ∙ new.1))

  settle : (d : ℕ) (o : List ℕ) → Opened-each o → left o ≤ d →
      Opened-each (numbering_from Q d o) × Exhausted (numbering_from Q d o)
  unfolding left
  settle zero o inv h = (inv, λ m i. go m i (ready o m) refl)
    where
      go : (m : Transition) → m ∈ Q → (b : Bool) → ready o m ≡ b → b ≡ false
      go m i true e =
          absurd (omega (
            arith,
            in-length (filter (λ l. not (elem eqb l.out o)) Q) m
                (in-filter (λ l. not (elem eqb l.out o)) Q m i
                (and_right (every (λ q. elem eqb q o) m.args) _ e)),
          ))
      go m i false e = refl
  settle (suc d) o inv h =
      go (best o Q) (best-view o Q)
      (λ l b. settle d (o ++ (l.out ∷ [])) (opened-extend o inv l b) (omega (arith, left_less o l b)))
    where
      go : (r : Option Transition) → BestView o Q r →
          ((l : Transition) → Best o Q l →
          Opened-each (numbering_from Q d (o ++ (l.out ∷ []))) ×
          Exhausted (numbering_from Q d (o ++ (l.out ∷ [])))) →
          Opened-each (maybe o (λ l. numbering_from Q d (o ++ (l.out ∷ []))) r) ×
          Exhausted (maybe o (λ l. numbering_from Q d (o ++ (l.out ∷ []))) r)
      go none v ih = (inv, v)
      go (some l) v ih = ih l v

  pub numbering-opened : Opened-each (numbering Q) × Exhausted (numbering Q)
  unfolding numbering left
  numbering-opened = settle (length Q) [] opened-none (filter-length (λ l. true) Q)

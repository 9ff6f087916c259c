-- A transition over states that keep their names and have no others has one entry, with its old arguments.
use mathlib.Core.Bool.{Bool, ◌&&◌, and-false, false, false≢true, true}
use mathlib.Core.List.{List}
use mathlib.Core.Path.{◌∙◌, ◌≡◌, ap, ap₂, refl, subst, sym}
use Prim.Native.Nat.{◌+◌, ◌<◌, ◌≤◌, suc, zero, ℕ}
use native.Mathlib.Omega.{arith}
use native.Mathlib.Numerals.{add-one}
use borrow.Author.Tests.{eq-eqb, eqb-false, eqb-true, le-ltb, ne_eqb}
use lib.Dec.{eqb}
use lib.ListN.{get_or, get_or-replicate, replicate, set}
use lib.Seq.{get_or-set_other}
use Rattle.format.specs.Format.{byte_values}
use Rattle.lists.specs.Tests.{any}
use Rattle.marking.specs.Marks.{marked, nonzero}
use Rattle.packed.specs.Packed.{Padded, digits, meta_at, packed_at}
use Rattle.table.specs.Layout.{arg_of, arity_of, out_of, transition_at}
use Rattle.lists.proofs.Intervals.{in-tabulated}
use Rattle.lists.proofs.Tests.{in-any}
use Rattle.packed.proofs.Zeros.{pad-digits}
use Rattle.quotient.specs.Kept.{OddMarked, Plain}
use Rattle.quotient.specs.Making.{entry_of}
use Rattle.quotient.specs.Named.{OddIn, choices_at, finished_in}
use Rattle.quotient.specs.declared.named.Names.{Names}
use Rattle.quotient.proofs.Padding.{digit-after}
use Rattle.quotient.proofs.OneChoice.{FirstNames, firsts-end, firsts-next, firsts-start}

module _ (g : Names) (s : List ℕ) (at : ℕ) where
  same : {none none' only only' own own' : Bool} {p p' k k' : ℕ} → none ≡ none' → only ≡ only' → own ≡ own' → p ≡ p' →
      k ≡ k' → FirstNames g s at none only own p k → FirstNames g s at none' only' own' p' k'
  same {none} {none'} {only} {only'} {own} {own'} {p} {p'} {k} {k'} a b c d e F =
      subst (λ (x : Bool). FirstNames g s at x only' own' p' k') a
      (subst (λ (x : Bool). FirstNames g s at none x own' p' k') b
      (subst (λ (x : Bool). FirstNames g s at none only x p' k') c
      (subst (λ (x : ℕ). FirstNames g s at none only own x k') d
      (subst (λ (x : ℕ). FirstNames g s at none only own p x) e F))))

  module _ (plain : (k : ℕ) → k < arity_of s at →
      Plain g.named.now.n g.kept.now.firsts g.kept.now.nexts (arg_of s at k))
      (bytes : (k : ℕ) → k < arity_of s at → arg_of s at k < byte_values) where
    plain-firsts : (k : ℕ) → k ≤ arity_of s at →
        FirstNames g s at false true (eqb k 0) (digits (arg_of s at) 0 k 0) k
    plain-firsts zero h = firsts-start g s at
    plain-firsts (suc k) h =
        let q = arg_of s at k in
        let p = plain k (omega arith) in
        same (ne_eqb q 0 (omega (arith, p.some))) (eq-eqb _ 0 p.last)
        (ap (λ (b : Bool). eqb k 0 && b) (le-ltb g.named.now.n q p.state) ∙ and-false (eqb k 0)
        ∙ sym (ne_eqb (suc k) 0 (omega arith)))
        (digit-after (arg_of s at) k ∙ ap (λ (j : ℕ). digits (arg_of s at) 0 j 0) (add-one k)) (add-one k)
        (firsts-next g s at q (plain-firsts k (omega arith)) (omega arith) (sym p.first)
        (bytes k (omega arith)))

    pub plain-chosen : 1 ≤ arity_of s at → Padded s at →
        choices_at g s at ≡ entry_of (meta_at s at) (packed_at s at) (out_of s at)
    unfolding packed_at
    plain-chosen some padded =
        (firsts-end g s at (plain-firsts (arity_of s at) (omega arith)) refl).1.1 refl refl
        ∙ ap (λ (b : Bool). finished_in g s at b (digits (arg_of s at) 0 (arity_of s at) 0))
        (ne_eqb (arity_of s at) 0 (omega arith))
        ∙ ap (λ (key : ℕ). entry_of (meta_at s at) key (out_of s at))
        (pad-digits (arg_of s at) (arity_of s at) padded.narrow padded.rest)

-- ---- marks

-- all are marked
pub odd-start : (n : ℕ) (firsts nexts : List ℕ) → OddMarked n firsts nexts (replicate byte_values 1)
odd-start n firsts nexts q h e =
    absurd (false≢true (sym e ∙ ap nonzero (get_or-replicate byte_values q 1 0 h)))

-- the mark of q is taken off
pub odd-next : {n : ℕ} {firsts nexts : List ℕ} (odd : List ℕ) {q : ℕ} → OddMarked n firsts nexts odd →
    Plain n firsts nexts q → OddMarked n firsts nexts (set odd q 0)
odd-next {n} {firsts} {nexts} odd {q} O P p h e = go (eqb p q) refl
  where
    go : (b : Bool) → eqb p q ≡ b → Plain n firsts nexts p
    go true t = subst (Plain n firsts nexts) (sym (eqb-true p q t)) P
    go false t =
        O p h (ap nonzero (sym (get_or-set_other odd q p 0 0 (eqb-false p q t))) ∙ e)

-- an argument of a transition without marked arguments is not marked
pub unmarked-arg : (s : List ℕ) (at : ℕ) (odd : List ℕ) → any (marked odd) (transition_at s at).args ≡ false → (k : ℕ) →
    k < arity_of s at → marked odd (arg_of s at k) ≡ false
unmarked-arg s at odd e k h = go (marked odd (arg_of s at k)) refl
  where
    go : (b : Bool) → marked odd (arg_of s at k) ≡ b → marked odd (arg_of s at k) ≡ false
    go false t = t
    go true t =
        absurd (false≢true (sym e ∙ in-any (marked odd) (transition_at s at).args (arg_of s at k)
        (in-tabulated (arg_of s at) 0 (arity_of s at) k (omega arith) (omega arith)) t))

-- the one entry of a transition without a marked argument
pub plain_entry : (g : Names) (s : List ℕ) (at : ℕ) (odd : List ℕ) → OddIn g odd →
    ((i : ℕ) → get_or s i 0 < byte_values) → Padded s at → 1 ≤ arity_of s at →
    any (marked odd) (transition_at s at).args ≡ false → {meta key out : ℕ} →
    meta ≡ meta_at s at → key ≡ packed_at s at → out ≡ out_of s at →
    choices_at g s at ≡ entry_of meta key out
plain_entry g s at odd O bytes padded some none {meta} {key} e f h =
    plain-chosen g s at
    (λ k l. O (arg_of s at k) (bytes (at + 3 + k)) (unmarked-arg s at odd none k l))
    (λ k l. bytes (at + 3 + k)) some padded
    ∙ sym (ap₂ (λ (x y : ℕ). entry_of x y (out_of s at)) e f)
    ∙ ap (λ (o : ℕ). entry_of meta key o) (sym h)

-- The bytes of one transition, and an entry with other names.
use mathlib.Core.Bool.{Bool, false, true}
use mathlib.Core.List.{List}
use mathlib.Core.Path.{◌∙◌, ◌≡◌, ap, ap₂, refl, sym}
use Prim.Native.Nat.{◌+◌, ◌-◌, ◌<◌, ◌≤◌, ℕ}
use native.Mathlib.Omega.{arith}
use lib.Dec.{ltb}
use lib.ListN.{get_or-eq_default, get_or, length, length-map, take}
use lib.Seq.{get_or-take}
use borrow.Author.Count.{below_more}
use borrow.Author.Tests.{ltb-false, ltb-true}
use Rattle.automata.specs.Automaton.{Transition}
use Rattle.automata.specs.Renumber.{renumber_by}
use Rattle.fields.specs.Entries.{HasFields, no_arg, put_at}
use Rattle.format.specs.Format.{args_at, label_bytes, label_from, label_written, max_arity, out_at, transition_bytes}
use Rattle.minimize.specs.Renaming.{entry_of, name_in}
use Rattle.table.specs.Layout.{arg_of, arity_of, label_of, out_of, transition_at, transition_byte}
use Rattle.fields.proofs.Entries.{put_other, put_same}
use Rattle.fields.proofs.Transitions.{arg-at, args-length}
use Rattle.format.proofs.Labels.{from-written}
use Rattle.lists.proofs.Intervals.{get_d_map, get_d-tabulated, tabulated}
use Rattle.table.proofs.Bytes.{cond-is, transition_byte-arg}

-- the entry of the transition at a byte before its label is put: the first k arguments have their names, the others
-- are 0
pub record Renaming (run : List ℕ) (at : ℕ) (names entry : List ℕ) (k : ℕ) : Type 0 where
  pub size : length entry ≡ transition_bytes
  pub within : k ≤ arity_of run at
  pub arity : arity_of entry 0 ≡ arity_of run at
  pub out : out_of entry 0 ≡ name_in names (out_of run at)
  pub args : (j : ℕ) → j < k → arg_of entry 0 j ≡ name_in names (arg_of run at j)
  pub rest : (j : ℕ) → k ≤ j → j < max_arity → arg_of entry 0 j ≡ 0

pub renaming-start : (run : List ℕ) (at : ℕ) (names : List ℕ) {entry : List ℕ} {a x : ℕ} →
    HasFields entry a (arity_of run at) no_arg x → x ≡ name_in names (out_of run at) →
    Renaming run at names entry 0
renaming-start run at names is e = record {
  size = is.size;
  within = omega arith;
  arity = is.arity;
  out = is.out ∙ e;
  args = λ j h. absurd (omega arith);
  rest = λ j h l. is.arg j l;
}

module _ {run : List ℕ} {at : ℕ} {names entry : List ℕ} {k : ℕ} (inv : Renaming run at names entry k)
    (narrow : arity_of run at ≤ max_arity) where
  pub renaming-next : k < arity_of run at → {x : ℕ} → x ≡ name_in names (arg_of run at k) → {put : List ℕ} →
      HasFields put (label_of entry 0) (arity_of entry 0) (put_at (arg_of entry 0) k x) (out_of entry 0) →
      Renaming run at names put (k + 1)
  renaming-next h {x} e {put} is = record {
    size = is.size;
    within = omega arith;
    arity = is.arity ∙ inv.arity;
    out = is.out ∙ inv.out;
    args = below_more (λ j. arg_of put 0 j ≡ name_in names (arg_of run at j)) k
        (λ j l. kept j (omega arith) (λ z. omega arith) ∙ inv.args j l)
        (is.arg k (omega arith) ∙ put_same (arg_of entry 0) k x ∙ e);
    rest = λ j l m. kept j m (λ z. omega arith) ∙ inv.rest j (omega arith) m;
  }
    where
      kept : (j : ℕ) → j < max_arity → (j ≡ k → ⊥) → arg_of put 0 j ≡ arg_of entry 0 j
      kept j l d = is.arg j l ∙ put_other (arg_of entry 0) k x j d

  -- the label is put
  pub renaming-end : arity_of run at ≤ k → {a : ℕ} → a ≡ label_of run at → {e : List ℕ} →
      HasFields e a (arity_of entry 0) (arg_of entry 0) (out_of entry 0) → take label_bytes e ≡ label_written a →
      e ≡ entry_of (renumber_by (name_in names) (transition_at run at))
  unfolding entry_of
  renaming-end h {a} own {e} is bytes =
      sym (tabulated (transition_byte τ) 0 transition_bytes 0 e is.size (λ j l. byte j l))
    where
      τ : Transition
      τ = renumber_by (name_in names) (transition_at run at)

      arg : (j : ℕ) → j < max_arity → (b : Bool) → ltb j (arity_of run at) ≡ b →
          get_or τ.args j 0 ≡ get_or e (args_at + j) 0
      arg j l true t =
          let m = ltb-true j (arity_of run at) t in
          get_d_map (name_in names) (transition_at run at).args j 0 0 (omega (arith, args-length run at))
          ∙ ap (name_in names) (arg-at run at j m) ∙ sym (is.arg j l ∙ inv.args j (omega arith))
      arg j l false t =
          let m = ltb-false j (arity_of run at) t in
          get_or-eq_default τ.args 0
          (omega (arith, length-map (transition_at run at).args (name_in names), args-length run at))
          ∙ sym (is.arg j l ∙ inv.rest j (omega (arith, inv.within)) l)

      same : (i j : ℕ) → i ≡ j → get_or e i 0 ≡ get_or e j 0
      same i j d = ap (λ x. get_or e x 0) d

      byte : (j : ℕ) → j < transition_bytes → transition_byte τ (0 + j) ≡ get_or e j 0
      byte j l =
          let z : 0 + j ≡ j = omega arith in
          ap (transition_byte τ) z ∙
          cond-is (ltb j label_bytes)
          (λ t. ap (λ b. get_or (label_written b) j 0) (sym own) ∙ ap (λ w. get_or w j 0) (sym bytes)
          ∙ get_or-take label_bytes e j 0 (ltb-true j label_bytes t))
          (λ t. cond-is (ltb j args_at)
          (λ u. length-map (transition_at run at).args (name_in names) ∙ args-length run at ∙ sym (is.arity ∙ inv.arity) ∙ same label_bytes j (omega (arith, ltb-false j label_bytes t, ltb-true j args_at u)))
          (λ u. cond-is (ltb j out_at)
          (λ v. arg (j - args_at) (omega (arith, ltb-true j out_at v)) (ltb (j - args_at) (arity_of run at)) refl
          ∙ same (args_at + (j - args_at)) j (omega (arith, ltb-false j args_at u)))
          (λ v. sym (is.out ∙ inv.out) ∙ same out_at j (omega (arith, ltb-false j out_at v)))))

-- ---- the bytes of an entry

module _ (τ : Transition) where
  pub entry-byte : (j : ℕ) → j < transition_bytes → get_or (entry_of τ) j 0 ≡ transition_byte τ j
  unfolding entry_of
  entry-byte j h =
      let e : 0 + j ≡ j = omega arith in
      get_d-tabulated (transition_byte τ) 0 transition_bytes j 0 h ∙ ap (transition_byte τ) e

  pub entry-arity : arity_of (entry_of τ) 0 ≡ length τ.args
  entry-arity = entry-byte label_bytes (omega arith)

  pub entry-transition : length τ.args ≤ max_arity → transition_at (entry_of τ) 0 ≡ τ
  entry-transition h =
      let label = ap₂ label_from (entry-byte 0 (omega arith)) (entry-byte 1 (omega arith)) ∙ from-written τ.label in
      let out = entry-byte out_at (omega arith) in
      let args =
      tabulated (arg_of (entry_of τ) 0) 0 (arity_of (entry_of τ) 0) 0 τ.args (sym entry-arity)
      (λ k l.
      let z : args_at + (0 + k) ≡ args_at + k = omega arith in
      ap (λ i. get_or (entry_of τ) i 0) z ∙
      entry-byte (args_at + k) (omega (arith, entry-arity)) ∙
      transition_byte-arg τ k (omega (arith, entry-arity))) in
      λ i. record { label = label i; args = args i; out = out i }

-- Entries appended to two arrays: those made, and those left to make.
use mathlib.Core.List.{List, [], ◌++◌, ◌∷◌, append_assoc, append-nil, map, map-append}
use mathlib.Core.Path.{◌∙◌, ◌≡◌, ap, refl, subst, sym}
use Prim.Native.Nat.{◌+◌, ◌≤◌, ℕ}
use native.Mathlib.Numerals.{add-one}
use native.Mathlib.Omega.{arith}
use lib.ListN.{length, length-append, length-set, set, take}
use lib.Seq.{take-suc-set}
use Rattle.automata.specs.Product.{fst, snd}
use Rattle.lists.specs.Positions.{Pair}
use Rattle.quotient.specs.Entries.{AppendedTo, RoomFor, SameArrays}
use Rattle.quotient.specs.Making.{Appended, Room}
use Rattle.quotient.specs.declared.entries.Entries.{Entries}

pub appended-none : {h a : List ℕ} {n : ℕ} → Appended h a n [] h a n
appended-none {h} {a} {n} = record {
  heads-size = refl;
  args-size = refl;
  count = omega arith;
  heads = sym (append-nil (take n h));
  args = sym (append-nil (take n a));
}

pub appended_one : {h a : List ℕ} {n : ℕ} (x y : ℕ) → Room h a (n + 1) →
    Appended h a n ((x, y) ∷ []) (set h n x) (set a n y) (n + 1)
appended_one {h} {a} {n} x y R = record {
  heads-size = length-set h n x;
  args-size = length-set a n y;
  count = refl;
  heads = rw (add-one n) (take-suc-set h n x (omega (arith, R.within)));
  args = rw (add-one n) (take-suc-set a n y (omega (arith, R.args-size, R.within)));
}

pub appended-same : {h a h' a' : List ℕ} {n n' : ℕ} {ps qs : List Pair} → ps ≡ qs → Appended h a n ps h' a' n' →
    Appended h a n qs h' a' n'
appended-same {h} {a} {h'} {a'} {n} {n'} e X = subst (λ (l : List Pair). Appended h a n l h' a' n') e X

pub room-same : {h a : List ℕ} (n : ℕ) {ps qs : List Pair} → ps ≡ qs → Room h a (n + length ps) →
    Room h a (n + length qs)
room-same {h} {a} n e R = subst (λ (l : List Pair). Room h a (n + length l)) e R

-- one list of entries after another
pub appended_then : {h a h' a' h'' a'' : List ℕ} {n n' n'' : ℕ} {ps qs : List Pair} → Appended h a n ps h' a' n' →
    Appended h' a' n' qs h'' a'' n'' → Appended h a n (ps ++ qs) h'' a'' n''
appended_then {h} {a} {h'} {a'} {h''} {a''} {n} {n'} {n''} {ps} {qs} X Y = record {
  heads-size = Y.heads-size ∙ X.heads-size;
  args-size = Y.args-size ∙ X.args-size;
  count = omega (arith, X.count, Y.count, length-append ps qs);
  heads =
      Y.heads ∙ ap (λ (l : List ℕ). l ++ map fst qs) X.heads
      ∙ append_assoc (take n h) (map fst ps) (map fst qs)
      ∙ ap (λ (l : List ℕ). take n h ++ l) (sym (map-append fst ps qs));
  args =
      Y.args ∙ ap (λ (l : List ℕ). l ++ map snd qs) X.args
      ∙ append_assoc (take n a) (map snd ps) (map snd qs)
      ∙ ap (λ (l : List ℕ). take n a ++ l) (sym (map-append snd ps qs));
}

-- the room is the same afterwards
pub appended-room : {h a h' a' : List ℕ} {n n' k j : ℕ} {ps : List Pair} → Appended h a n ps h' a' n' → Room h a k →
    j ≤ length h → Room h' a' j
appended-room X R l = record {
  few = omega (arith, X.heads-size, R.few);
  args-size = X.args-size ∙ R.args-size ∙ sym X.heads-size;
  within = omega (arith, X.heads-size);
}

-- all entries are those made and `rest`, those left
pub record Making (l : Entries) (all rest : List Pair) (l' : Entries) : Type 0 where
  pub done : List Pair
  pub appended : AppendedTo l done l'
  pub same : SameArrays l l'
  pub left : done ++ rest ≡ all

module _ {l : Entries} {all : List Pair} where
  pub making-start : {rest : List Pair} → rest ≡ all → Making l all rest l
  making-start e = record { done = []; appended = appended-none; same = (refl, refl); left = e }

  pub making-next : {rest ps : List Pair} (rest' : List Pair) {l' l'' : Entries} → Making l all rest l' →
      rest ≡ ps ++ rest' → AppendedTo l' ps l'' → SameArrays l' l'' → Making l all rest' l''
  making-next {rest} {ps} rest' M e X s = record {
    done = M.done ++ ps;
    appended = appended_then M.appended X;
    same = (s.0 ∙ M.same.0, s.1 ∙ M.same.1);
    left = append_assoc M.done ps rest' ∙ ap (λ (ps : List Pair). M.done ++ ps) (sym e) ∙ M.left;
  }

  pub making-end : {rest : List Pair} {l' : Entries} → Making l all rest l' → rest ≡ [] → AppendedTo l all l'
  making-end {rest} {l'} M e =
      subst (λ (ps : List Pair). AppendedTo l ps l')
      (sym (append-nil M.done) ∙ ap (λ (ps : List Pair). M.done ++ ps) (sym e) ∙ M.left) M.appended

  -- there is room for the next entries
  pub making-room : {rest : List Pair} (ps rest' : List Pair) {l' : Entries} → Making l all rest l' →
      rest ≡ ps ++ rest' → RoomFor l (length all) → RoomFor l' (length ps)
  making-room {rest} ps rest' M e R =
      appended-room M.appended R
      (omega (
        arith,
        R.within,
        M.appended.count,
        ap length (sym M.left),
        length-append M.done rest,
        ap length e,
        length-append ps rest',
      ))

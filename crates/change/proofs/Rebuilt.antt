-- The new table, by guessed numbers or through the scratch.
use Rattle.subtrees.specs.declared.Subtrees.{Subtrees}
use mathlib.Core.Bool.{Bool, cond, false}
use mathlib.Core.List.{List}
use mathlib.Core.Path.{◌∙◌, ◌≡◌, ap, refl, subst, sym}
use Prim.Native.Nat.{◌+◌, ℕ}
use Rattle.automata.specs.Automaton.{Automaton, accepting}
use Rattle.automata.specs.NamedChange.{changed_automaton}
use Rattle.automata.specs.Renumber.{renumbered}
use Rattle.change.specs.Between.{Packed, Run}
use Rattle.change.specs.Given.{Fitting, SomeFitting}
use Rattle.fields.specs.View.{viewed}
use Rattle.minimize.specs.Made.{renumbered_in, written_to}
use Rattle.packed.specs.Heads.{packed_in}
use Rattle.table.specs.Layout.{class_at, decode, encode}
use Rattle.trees.specs.Tree.{Tree}
use Rattle.change.proofs.Results.{fitting-changed}
use Rattle.fields.proofs.Views.{viewed-class}

pub left_alone : (r : Bool) (x b : List ℕ) {b' : List ℕ} → b' ≡ cond r x b → r ≡ false → b' ≡ b
left_alone r x b e h = e ∙ ap (λ (c : Bool). cond c x b) h

module _ {inserting : Bool} {t : Tree} {b : List ℕ} {k n : ℕ} {r : Subtrees} {o names firsts nexts cl : List ℕ}
    (F : Fitting inserting t b k n r o names firsts nexts cl) where
  pub rebuilt : {hs us : List ℕ} {c : ℕ} → Packed t b names hs us c → (f : Bool) {b' : List ℕ} →
      b' ≡ cond f (encode (renumbered (class_at cl) (packed_in hs us c))) b →
      b' ≡ cond f (encode (changed_automaton inserting t (decode b))) b
  rebuilt K f e =
      e ∙ ap (λ (X : Automaton). cond f (encode X) b)
      (ap (renumbered (class_at cl)) K.list ∙ fitting-changed F (class_at cl) (λ x h l. refl))

  pub written : {s : List ℕ} {c : ℕ} → Run t b names s c (n + r.count) → {b' : List ℕ} →
      b' ≡ written_to (renumbered_in cl s (n + r.count) c) b → b' ≡ encode (changed_automaton inserting t (decode b))
  written {s} {c} R {b'} e =
      let f = accepting (viewed cl s (n + r.count) c) in
      e ∙ ap (λ (X : Automaton). written_to X b)
      (ap (renumbered f) R.list ∙ fitting-changed F f (λ x h l. viewed-class cl s (n + r.count) c x h l))
      ∙ ap (λ (x : Bool). cond x (encode (changed_automaton inserting t (decode b))) b) F.fits

-- `Fitting` holds of an unchanged table
pub fitting-same : {inserting : Bool} {t : Tree} {b b' : List ℕ} {k n : ℕ} {r : Subtrees}
    {o names firsts nexts cl : List ℕ} → b' ≡ b → Fitting inserting t b k n r o names firsts nexts cl →
    Fitting inserting t b' k n r o names firsts nexts cl
fitting-same {inserting} {t} {b} {b'} {k} {n} {r} {o} {names} {firsts} {nexts} {cl} e F =
    subst (λ (x : List ℕ). Fitting inserting t x k n r o names firsts nexts cl) (sym e) F

pub some_same : {b b' : List ℕ} {k n : ℕ} {r : Subtrees} {names firsts nexts : List ℕ} {limit : ℕ} → b' ≡ b →
    SomeFitting b k n r names firsts nexts limit → SomeFitting b' k n r names firsts nexts limit
some_same {b} {b'} {k} {n} {r} {names} {firsts} {nexts} {limit} e F =
    subst (λ (x : List ℕ). SomeFitting x k n r names firsts nexts limit) (sym e) F

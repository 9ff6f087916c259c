-- A table that passed intake is 0 after its transitions.
use Rattle.subtrees.specs.declared.Subtrees.{Subtrees}
use mathlib.Core.Bool.{Bool, false, true}
use mathlib.Core.List.{List}
use mathlib.Core.Path.{◌∙◌, ◌≡◌, ap, refl, sym}
use Prim.Native.Nat.{◌+◌, ◌-◌, ◌≤◌, ℕ}
use native.Mathlib.Omega.{arith}
use lib.Dec.{ltb}
use lib.ListN.{get_or-eq_default, get_or}
use lib.Seq.{get_or-drop}
use borrow.Author.Tests.{ltb-false, ltb-true}
use Rattle.change.specs.Given.{Given}
use Rattle.format.specs.Format.{head_bytes, max_transitions, table_bytes}
use Rattle.numbering.specs.Tables.{BlankAfter}
use Rattle.trees.specs.Tree.{Tree}
use Rattle.change.proofs.Inputs.{given-layout, given-size}
use Rattle.table.proofs.Laid.{Laid, layout-laid}

module _ {t : Tree} {b : List ℕ} {k n : ℕ} {r : Subtrees} (g : Given t b k n r) where
  laid : Laid b
  laid = layout-laid b (given-layout g)

  pub given-old : k ≤ max_transitions
  given-old = omega (arith, g.count, laid.count)

  pub given-blank : BlankAfter b k
  given-blank i h = go (ltb i table_bytes) refl
    where
      at : head_bytes + (i - head_bytes) ≡ i
      at = omega arith

      go : (c : Bool) → ltb i table_bytes ≡ c → get_or b i 0 ≡ 0
      go true e =
          let l = ltb-true i table_bytes e in
          sym (get_or-drop head_bytes b (i - head_bytes) 0 ∙ ap (λ j. get_or b j 0) at)
          ∙ laid.zeros (i - head_bytes) (omega (arith, g.count)) (omega arith)
      go false e = get_or-eq_default b 0 (omega (arith, ltb-false i table_bytes e, given-size g))

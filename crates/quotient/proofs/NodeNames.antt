-- The two numbers of each subtree, and the search for the subtree that has them. In the loop the result for the rest
-- is the result for the whole.
use mathlib.Core.Bool.{Bool, false, true}
use mathlib.Core.List.{List}
use mathlib.Core.Path.{◌∙◌, ◌≡◌, ap, refl, sym}
use Prim.Native.Nat.{◌+◌, ◌-◌, ◌<◌, ◌≤◌, ℕ}
use native.Mathlib.Omega.{arith}
use lib.Dec.{eqb}
use lib.ListN.{get_or, length, length-set, set}
use lib.Seq.{get_or-set_other, get_or-set_same}
use borrow.Author.Tests.{eqb-false, eqb-true}
use Rattle.format.specs.Format.{max_nodes}
use Rattle.lists.specs.Positions.{up_from}
use Rattle.lists.proofs.Loops.{up_from-next, up_from-none, up_from-whole}
use Rattle.quotient.specs.Nodes.{EachNode, is_node_at, named_by}

pub record NamedFrom (metas keys v : List ℕ) (a x o m j : ℕ) : Type 0 where
  pub within : j ≤ m
  pub left : named_by metas keys v a x o (up_from 0 m) ≡ named_by metas keys v a x o (up_from j (m - j))

module _ {metas keys v : List ℕ} {a x o m : ℕ} where
  pub named_start : NamedFrom metas keys v a x o m 0
  named_start = record {
    within = omega arith;
    left = ap (named_by metas keys v a x o) (up_from-whole 0 m m (omega arith));
  }

  pub named-next : {j : ℕ} → NamedFrom metas keys v a x o m j → j < m → is_node_at metas keys a x j ≡ false →
      NamedFrom metas keys v a x o m (j + 1)
  named-next {j} I h e = record {
    within = omega arith;
    left = I.left ∙ ap (named_by metas keys v a x o) (up_from-next j m h) ∙ rw e;
  }

  pub named-found : {j : ℕ} → NamedFrom metas keys v a x o m j → j < m → is_node_at metas keys a x j ≡ true →
      get_or v j 0 ≡ named_by metas keys v a x o (up_from 0 m)
  named-found {j} I h e = sym (I.left ∙ ap (named_by metas keys v a x o) (up_from-next j m h) ∙ rw e)

  pub named_end : {j : ℕ} → NamedFrom metas keys v a x o m j → m ≤ j → o ≡ named_by metas keys v a x o (up_from 0 m)
  named_end {j} I h = sym (I.left ∙ ap (named_by metas keys v a x o) (up_from-none j m h))

-- ---- a number for each subtree, one after another

pub each_start : {f : ℕ → ℕ} {ks : List ℕ} → length ks ≡ max_nodes → EachNode f 0 ks
each_start e = record { size = e; each = λ j h. absurd (omega arith) }

pub each_next : {f : ℕ → ℕ} {j x : ℕ} {ks : List ℕ} → EachNode f j ks → j < max_nodes → x ≡ f j →
    EachNode f (j + 1) (set ks j x)
each_next {f} {j} {x} {ks} E h e = record {
  size = length-set ks j x ∙ E.size;
  each = λ i l. go i l (eqb i j) refl;
}
  where
    go : (i : ℕ) → i < j + 1 → (b : Bool) → eqb i j ≡ b → get_or (set ks j x) i 0 ≡ f i
    go i l true d =
        let g = eqb-true i j d in
        ap (λ (y : ℕ). get_or (set ks j x) y 0) g ∙ get_or-set_same ks j x 0 (omega (arith, E.size)) ∙ e ∙ ap f (sym g)
    go i l false d =
        let g = eqb-false i j d in get_or-set_other ks j i x 0 g ∙ E.each i (omega arith)

pub each-end : {f : ℕ → ℕ} {j m : ℕ} {ks : List ℕ} → EachNode f j ks → m ≤ j → EachNode f m ks
each-end E h = record { size = E.size; each = λ i l. E.each i (omega arith) }

-- A table that passed its check and has fewer accepted trees than the limit: the numbers of its states are exact, and
-- what code finds from them is what the definitions say.
use mathlib.Core.Bool.{Bool, cond, true}
use mathlib.Core.List.{List, []}
use mathlib.Core.Path.{◌∙◌, ◌≡◌, ap, ap₂, refl, subst, sym}
use Prim.Native.Nat.{◌+◌, ◌-◌, ◌<◌, ◌≤◌, ℕ}
use native.Mathlib.Omega.{arith}
use Rattle.std.specs.declared.option.Option.{Option}
use Rattle.std.specs.declared.option.Option.TheVariants.{Some}
use Rattle.automata.specs.Automaton.{Automaton, IsState, Transition, accepting, accepts, run, states}
use Rattle.automata.specs.Ranks.{Chosen, rank, rank_in, state_of, transition_of, tree_of, unrank}
use Rattle.automata.specs.Totals.{sum_accepting, sum_into, total, trees_of}
use Rattle.automata.proofs.RankBounds.{acyclic-state-below}
use Rattle.automata.proofs.RankChoices.{transition-chosen}
use Rattle.automata.proofs.RankFinite.{acyclic-finite, finite-accepted}
use Rattle.automata.proofs.RankTrees.{tree_of-step}
use Rattle.automata.proofs.Ranks.{accepting-many, acyclic-rank-less}
use Rattle.automata.proofs.Totals.{acyclic-sum}
use Rattle.fields.specs.View.{viewed}
use Rattle.fields.proofs.Transitions.{part_body}
use Rattle.fields.proofs.Views.{viewed-class, viewed-states}
use Rattle.format.specs.Format.{head_bytes, number_limit}
use Rattle.lists.specs.Positions.{up_from}
use Rattle.lists.specs.Tests.{◌∈◌}
use Rattle.lists.proofs.Parts.{part}
use Rattle.lists.proofs.Positions.{up_from-in}
use Rattle.table.specs.Intake.{table_refusal}
use Rattle.table.specs.Layout.{body, class_at, decode, state_count, transition_count, transitions_in}
use Rattle.table.proofs.Intake.{Passes, unrefused-passes}
use Rattle.totals.specs.Limited.{limit, total_of, worth}
use Rattle.totals.specs.Numbers.{NumbersOf, number_in}
use Rattle.totals.proofs.Limits.{total-number, total-plus}
use Rattle.trees.specs.Tree.{Tree, node}
use Rattle.ranks.specs.Steps.{Grows, Lawful, Listed, StateChosen, grown_at}
use Rattle.ranks.specs.declared.choosing.Choice.{Choice}
use Rattle.ranks.proofs.Agreeing.{accepting-same, children-same, into-all-same, rank_same, state-same}
use Rattle.ranks.proofs.Agreeing.{transition-same}

module _ (b : List ℕ) where
  pub decoded-states : states (decode b) ≡ state_count b
  unfolding decode
  decoded-states = viewed-states b (body b) (state_count b) (transition_count b)

  decoded-class : (q : ℕ) → 1 ≤ q → q ≤ state_count b → accepting (decode b) q ≡ class_at b q
  unfolding decode
  decoded-class = viewed-class b (body b) (state_count b) (transition_count b)

  pub decoded-transitions : (decode b).transitions ≡ transitions_in (body b) (transition_count b)
  unfolding decode
  decoded-transitions = refl

module _ (b : List ℕ) (passed : table_refusal b ≡ 0) {m : List (Option ℕ)} (x : NumbersOf (decode b) m)
    (small : total (decode b) < number_limit) where
  abbrev A : Automaton
  A = decode b

  abbrev v : ℕ → ℕ
  v = trees_of (decode b)

  abbrev w : ℕ → ℕ
  w = number_in m

  p : Passes b
  p = unrefused-passes b passed

  exact : (q : ℕ) → IsState A q → w q ≡ v q
  exact q s =
      omega (
        arith,
        x.each q s.0 s.1,
        acyclic-state-below A p.valid.ranged p.valid.rises p.acyclic p.valid.reached
            p.valid.used q s,
        small,
      )

  -- the first n states, as code sees them
  seen : (n : ℕ) → n ≤ state_count b → (q : ℕ) → q ∈ up_from 1 n →
      cond (accepting (viewed b [] n 0) q) (w q) 0 ≡ cond (accepting A q) (v q) 0
  seen n h q i =
      let r = up_from-in 1 n q i in
      let l : q ≤ n = omega arith in
      ap₂ (λ (c : Bool) (k : ℕ). cond c k 0)
      (viewed-class b [] n 0 q r.0 l ∙ sym (decoded-class b q r.0 (omega arith)))
      (exact q (r.0, omega (arith, decoded-states b)))

  -- ---- the number of a tree

  pub seen-sum : (n : ℕ) → n ≤ state_count b →
      sum_accepting (viewed b [] n 0) w (up_from 1 n) ≡ sum_accepting A v (up_from 1 n)
  seen-sum n h = accepting-same (viewed b [] n 0) A w v (up_from 1 n) (seen n h)

  module _ (t : Tree) (e : accepts A t ≡ true) where
    rank-small : rank A t < limit
    rank-small = omega (arith, acyclic-rank-less A p.valid.ranged p.valid.rises p.acyclic t e, small)

    root : IsState A (run A t)
    root = (finite-accepted A p.valid.ranged
        (accepting-many A p.valid.ranged p.valid.rises p.acyclic) t e).state

    pub root-some : 1 ≤ run A t
    root-some = root.0

    pub root-state : run A t ≤ state_count b
    root-state = omega (arith, root.1, decoded-states b)

    module _ {q : ℕ} {before within sum : Option ℕ} (d : q ≡ run A t)
        (f : before ≡ total_of (sum_accepting (viewed b [] (q - 1) 0) w (up_from 1 (q - 1))))
        (g : within ≡ total_of (rank_in A w t)) (h : sum ≡ total_of (worth before + worth within)) where
      summed : sum ≡ total_of (rank A t)
      unfolding rank
      summed =
          h ∙ total-plus (sum_accepting (viewed b [] (q - 1) 0) w (up_from 1 (q - 1))) (rank_in A w t) f g
          ∙ ap total_of (ap₂ ◌+◌
          (seen-sum (q - 1) (omega (arith, root-state)) ∙ ap (λ (n : ℕ). sum_accepting A v (up_from 1 (n - 1))) d)
          (rank_same A p.valid.ranged w v exact t (finite-accepted A p.valid.ranged
          (accepting-many A p.valid.ranged p.valid.rises p.acyclic) t e)))

      pub rank-fits : sum ≡ Some (rank A t)
      rank-fits = summed ∙ sym (total-number rank-small)

  -- ---- the tree of a number

  pub total-seen : (k : ℕ) → k < total A → k < sum_accepting (viewed b [] (state_count b) 0) w (up_from 1 (state_count b))
  unfolding total
  total-seen k h =
      omega (
        arith,
        h,
        seen-sum (state_count b) (omega arith),
        ap (λ (n : ℕ). sum_accepting A v (up_from 1 n)) (decoded-states b),
      )

  lawful-state : (q : ℕ) → IsState A q → w q ≡ sum_into w q A.transitions
  lawful-state q s =
      exact q s ∙ acyclic-sum A p.valid.ranged p.valid.rises p.acyclic q s
      ∙ sym (into-all-same A p.valid.ranged w v exact q)

  pub numbers-lawful : Lawful w (body b) (transition_count b) (state_count b)
  numbers-lawful = record {
    sums = λ q h l.
        lawful-state q (h, omega (arith, decoded-states b)) ∙ ap (sum_into w q) (decoded-transitions b);
  }

  abbrev T : ℕ → ℕ → Tree
  T = tree_of A v (states A)

  grown : (q k : ℕ) → IsState A q → k < w q → T q k ≡ grown_at T w (transition_of w q k A.transitions)
  grown q k s h =
      let ranged = p.valid.ranged in
      let h' : k < v q = omega (arith, exact q s) in
      let c = transition-chosen w q A.transitions k (omega (arith, lawful-state q s)) in
      let τ = transition_of w q k A.transitions in
      tree_of-step A ranged p.valid.rises q (acyclic-finite A ranged p.acyclic q s) k h'
      ∙ ap (grown_at T v) (sym (transition-same A ranged w v exact q k))
      ∙ ap (node τ.what.label) (sym (children-same A ranged w v exact T τ.what c.member τ.left))

  pub trees-grow : Grows w (body b) (transition_count b) (state_count b) T
  trees-grow = record {
    grown = λ q k h l d.
        grown q k (h, omega (arith, decoded-states b)) d
        ∙ ap (λ (τs : List Transition). grown_at T w (transition_of w q k τs)) (decoded-transitions b);
  }

  pub unrank-tree : {k : ℕ} {c : Choice} → StateChosen (viewed b [] (state_count b) 0) w (state_count b) k c →
      T c.place c.left ≡ unrank A k
  unfolding unrank
  unrank-tree {k} {c} y =
      ap (λ (z : Chosen ℕ). T z.what z.left)
      (sym y.chosen ∙ state-same (viewed b [] (state_count b) 0) A w v (up_from 1 (state_count b)) k
      (seen (state_count b) (omega arith))
      ∙ ap (λ (n : ℕ). state_of A v k (up_from 1 n)) (sym (decoded-states b)))

  -- what code lists is the tree of the number
  pub table-listed : {n c k : ℕ} {y : Choice} {r : Bool} {bytes : List ℕ} → c ≡ transition_count b → n ≡ state_count b →
      StateChosen (viewed b [] n 0) w n k y →
      ((F : ℕ → ℕ → Tree) → Grows w (part b head_bytes) c n F → Listed (F y.place y.left) r bytes) →
      Listed (unrank A k) r bytes
  table-listed {n} {c} {k} {y} {r} {bytes} count many chosen lists =
      subst (λ (t : Tree). Listed t r bytes)
      (unrank-tree (subst (λ (i : ℕ). StateChosen (viewed b [] i 0) w i k y) many chosen))
      (lists T (rw (part_body b, count, many) trees-grow))

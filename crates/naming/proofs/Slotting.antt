-- The states in a slot tried one after another. Every state that the subtree is like is among them.
use mathlib.Core.Bool.{Bool, false, true, true≢false}
use mathlib.Core.List.{List}
use mathlib.Core.Path.{◌∙◌, ◌≡◌, ap, refl, sym}
use Prim.Native.Nat.{◌*◌, ◌+◌, ◌-◌, ◌<◌, ◌≤◌, ℕ}
use native.Mathlib.Omega.{arith}
use lib.Dec.{eqb, ltb}
use borrow.Author.Tests.{eqb-false, eqb-true, ltb-false, ltb-true}
use Rattle.alike.specs.Agreeing.{named_like_state}
use Rattle.alike.specs.Known.{NamedAbove}
use Rattle.alike.specs.Slots.{SlotOf}
use Rattle.automata.specs.Alike.{frames_of, like_state, uses_agree}
use Rattle.automata.specs.Automaton.{Automaton, run}
use Rattle.automata.specs.Searched.{Free}
use Rattle.fields.specs.Fields.{HoldsTransitionsOver}
use Rattle.format.specs.Format.{max_arity, transition_bytes}
use Rattle.packed.specs.Packed.{Searchable}
use Rattle.packed.specs.Slots.{InSlot, SlotTakes}
use Rattle.packed.specs.declared.slots.Slot.{Slot}
use Rattle.pairs.specs.Counts.{Open}
use Rattle.subtrees.specs.Store.{tree_numbered}
use Rattle.table.specs.Layout.{arg_of, arity_of}
use Rattle.trees.specs.Tree.{Tree}
use Rattle.uses.specs.Uses.{Holds}
use Rattle.naming.specs.Choice.{NoState, StateTried, StatesSlotted}
use Rattle.alike.specs.Settings.{NamesKnown}
use Rattle.naming.specs.Settings.{KnownIn}
use Rattle.uses.specs.declared.setting.Setting.{Setting}
use Rattle.alike.proofs.Carried.{holds-subtrees}
use Rattle.alike.proofs.Criterion.{like-state-parts}
use Rattle.lists.proofs.Tests.{and_right}
use Rattle.std.specs.Option.{ForSome, unwrap_or}
use Rattle.std.specs.Prelude.{None, Option, Some}
use Rattle.naming.proofs.Parentage.{refuted}

-- a place of a transition has a state, or 0 beyond its arguments
pub place-state : {s : List ℕ} {c n : ℕ} → Searchable s c → HoldsTransitionsOver s c n → (i k : ℕ) → i < c →
    k < max_arity → arg_of s (transition_bytes * i) k ≤ n
place-state {s} {c} {n} sorted over i k h g = go (ltb k (arity_of s (transition_bytes * i))) refl
  where
    go : (b : Bool) → ltb k (arity_of s (transition_bytes * i)) ≡ b → arg_of s (transition_bytes * i) k ≤ n
    go true e = over.arg-state i k h (ltb-true k (arity_of s (transition_bytes * i)) e)
    go false e =
        omega (arith, (sorted.padded.each i h).rest k (ltb-false k (arity_of s (transition_bytes * i)) e) g)

-- subtree j is like no free state that a transition of the slot before index i has
pub record NoneSlotted (A : Automaton) (t : Tree) (S : Tree → Bool) (ts : List Tree) (s : List ℕ) (N : Tree → ℕ)
    (j : ℕ) (z : Slot) (i : ℕ) : Type 0 where
  pub each : (x : ℕ) → x < i → InSlot s z x → Free A t (arg_of s (transition_bytes * x) z.place) →
      like_state A t S N (tree_numbered ts j) (arg_of s (transition_bytes * x) z.place) ≡ false

module _ {A : Automaton} {t : Tree} {S : Tree → Bool} {ts : List Tree} {s : List ℕ} {N : Tree → ℕ} {j : ℕ} {z : Slot}
  where
    pub none_first : {i : ℕ} → ((x : ℕ) → x < i → InSlot s z x → ⊥) → NoneSlotted A t S ts s N j z i
    none_first out = record { each = λ x h d. absurd (out x h d) }

    -- the same up to index l, the next in the slot, if the subtree is not like the state at index i
    pub none-next : {i l q : ℕ} → NoneSlotted A t S ts s N j z i → q ≡ arg_of s (transition_bytes * i) z.place →
        StateTried A t S ts N j q false → ((x : ℕ) → i + 1 ≤ x → x < l → InSlot s z x → ⊥) →
        NoneSlotted A t S ts s N j z l
    none-next {i} {l} {q} before e tried out = record { each = λ x h d f. go x h d f (ltb x i) refl (eqb x i) refl }
      where
        go : (x : ℕ) → x < l → InSlot s z x → Free A t (arg_of s (transition_bytes * x) z.place) → (a : Bool) →
            ltb x i ≡ a → (b : Bool) → eqb x i ≡ b →
            like_state A t S N (tree_numbered ts j) (arg_of s (transition_bytes * x) z.place) ≡ false
        go x h d f true u b v = before.each x (ltb-true x i u) d f
        go x h d f false u true v =
            rw (eqb-true x i v, sym e) (tried.no refl (rw (eqb-true x i v, sym e) at f))
        go x h d f false u false v =
            let low = ltb-false x i u in
            let other = eqb-false x i v in
            absurd (out x (omega arith) h d)

    -- all in the slot were tried
    pub none_left : {c i p : ℕ} → StatesSlotted A t S ts s c N j z → NoneSlotted A t S ts s N j z i → c ≤ i →
        NoState A t S ts N j p
    none_left {c} {i} slotted before end =
        record { each = λ q h f. refuted (like_state A t S N (tree_numbered ts j) q) (λ e. no q f e) }
      where
        no : (q : ℕ) → Free A t q → like_state A t S N (tree_numbered ts j) q ≡ true → ⊥
        no q f e =
            let (x, h, d, own) = slotted.each q e in
            true≢false (sym e ∙ rw own at (before.each x (omega arith) d (rw own f)))

-- ---- the loop

-- the states in the slot before the next transition in it were tried
pub record SlotTried (b : List ℕ) (g : Setting) (o names : List ℕ) (j : ℕ) (z : Slot) (next : Option ℕ) : Type 0 where
  pub here : ForSome next (λ i. i < g.count)
  pub each : (A : Automaton) (t : Tree) (ts : List Tree) (S : Tree → Bool) (N : Tree → ℕ) →
      KnownIn A t ts S b g → Open A t o → NamesKnown A t ts g.subtrees.now j names N →
      NoneSlotted A t S ts g.transitions.now N j z (unwrap_or next g.count)

-- less of the run is left after the next transition than after transition i
pub later-less : {n i : ℕ} {now next : Option ℕ} → i < n → now ≡ Some i → ForSome next (λ j. i + 1 ≤ j) →
    n - unwrap_or next n < n - unwrap_or now n
later-less {n} {i} {now} {next} h e f = go next f
  where
    here : unwrap_or now n ≡ i
    here = ap (λ (o : Option ℕ). unwrap_or o n) e

    go : (o : Option ℕ) → ForSome o (λ j. i + 1 ≤ j) → n - unwrap_or o n < n - unwrap_or now n
    go None f = omega (arith, here)
    go (Some j) f = let l = f j refl in omega (arith, here)

-- ---- slots that take every state that a subtree is like

module _ {A : Automaton} {t : Tree} {ts : List Tree} {S : Tree → Bool} {N : Tree → ℕ} {s : List ℕ} {count n m j : ℕ}
    {l r c q w : List ℕ} {z : Slot} (holds : Holds A t ts s count n l r c q w m) where
  pub frame-slotted : {names : List ℕ} → Searchable s count → NamedAbove A t ts m j names N →
      SlotOf m j l r c q names z → StatesSlotted A t S ts s count N j z
  frame-slotted sorted X slot = record {
    each = λ p e. slot.takes s count A t ts S N sorted holds.transitions (holds-subtrees holds) X p e;
  }

  -- a state that the subtree is like is used like the subtree's own state
  pub use-slotted : ((p : ℕ) →
      uses_agree A t (frames_of t (tree_numbered ts j)) (run A (tree_numbered ts j)) p ≡ true → SlotTakes s count z p) →
      StatesSlotted A t S ts s count N j z
  use-slotted takes = record {
    each = λ p e. takes p (and_right (named_like_state A t S N (tree_numbered ts j) p) _
        (like-state-parts A t S N (tree_numbered ts j) p ∙ e));
  }

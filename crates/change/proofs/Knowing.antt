-- What a change hands to the search for names.
use mathlib.Core.Bool.{Bool, cond, true}
use mathlib.Core.List.{List}
use mathlib.Core.Path.{◌∙◌, ◌≡◌, ap, subst, sym}
use Prim.Native.Nat.{◌*◌, ◌+◌, ◌<◌, ℕ}
use native.Mathlib.Omega.{arith}
use Rattle.alike.specs.Known.{Holds}
use Rattle.uses.specs.Frames.{Shaped}
use Rattle.automata.specs.Automaton.{Automaton, Transition, accepts}
use Rattle.automata.specs.NamedChange.{changed_set}
use Rattle.automata.specs.Order.{rising}
use Rattle.change.specs.Given.{Given}
use Rattle.format.specs.Format.{AllBytes, head_bytes, transition_bytes}
use Rattle.naming.specs.Classes.{Changed, Classed, ClassesIn, Rooted}
use Rattle.naming.specs.Known.{Known}
use Rattle.packed.specs.Packed.{Padded, Searchable}
use Rattle.pairs.specs.Counts.{PairsCounted}
use Rattle.subtrees.specs.Store.{bottom_up}
use Rattle.subtrees.specs.declared.Subtrees.{Subtrees}
use Rattle.table.specs.Layout.{decode}
use Rattle.trees.specs.Tree.{Tree}
use Rattle.change.proofs.Inputs.{given-fits, given-layout, given-over, given-setting}
use Rattle.change.proofs.Inputs.{given-states}
use Rattle.change.proofs.NameClasses.{chosen}
use Rattle.automata.proofs.NamedChange.{changed-agree}
use Rattle.fields.proofs.Transitions.{part_body}
use Rattle.lists.proofs.Parts.{part, part-drop}
use lib.Seq.{get_or-drop}
use Rattle.table.proofs.Decoded.{decoded-class, decoded-states}
use Rattle.table.proofs.Laid.{layout-laid}
use Rattle.trees.proofs.Trees.{eq_tree-same}

module _ {t : Tree} {b : List ℕ} {k n : ℕ} {r : Subtrees} (g : Given t b k n r) where
  given-padded : (i : ℕ) → i < k → Padded (part b head_bytes) (transition_bytes * i)
  given-padded i h =
      let l = (layout-laid b (given-layout g)).transitions i (omega (arith, g.count)) in
      subst (λ (s : List ℕ). Padded s (transition_bytes * i)) (sym (part_body b))
      record { narrow = l.arity; rest = l.rest }

  pub given-searchable : Searchable (part b head_bytes) k
  given-searchable = record {
    padded = record { runs = (given-over g).runs; each = given-padded };
    rises = subst (λ (τs : List Transition). rising τs ≡ true) (given-setting g).transitions (given-setting g).rises;
  }

  -- the transitions are bytes of the table
  pub given-bytes : AllBytes (part b head_bytes)
  given-bytes i = rw (part-drop b head_bytes, get_or-drop head_bytes b i 0) (g.bytes (head_bytes + i))

  pub given-shaped : Shaped r.count r.arities r.children
  given-shaped = record {
    few = g.lists.few;
    narrow = g.lists.stored.narrow;
    child-some = g.lists.stored.child-some;
    child-before = g.lists.stored.child-before;
  }

  pub given-held : Holds (decode b) t (bottom_up t) r.count r.labels r.arities r.children r.states
  given-held = record {
    stored = g.lists.stored;
    subtree = g.lists.subtree;
    every-subtree = g.lists.every-subtree;
  }

  pub given-classes : ClassesIn (decode b) b
  given-classes = record {
    fits = given-fits g;
    each = λ q h. decoded-class b q h.0 (omega (arith, h.1, decoded-states b));
  }

  pub given-rooted : Rooted t (bottom_up t) r.count r.count
  given-rooted = record { some = g.lists.some; known = omega arith; whole = g.lists.last }

  pub given-known : {S : Tree → Bool} {f : Bool} {o w cl : List ℕ} → PairsCounted (decode b) t f o w →
      Classed S (bottom_up t) r.count cl →
      Known (decode b) t (bottom_up t) S b (part b head_bytes) k n r.count r.labels r.arities r.children
      r.states w cl
  given-known P C = record {
    holds = record {
      transitions = (given-setting g).transitions;
      stored = g.lists.stored;
      subtree = g.lists.subtree;
      every-subtree = g.lists.every-subtree;
      weights = λ q h l. P.weights q (h, omega (arith, given-states g));
    };
    size = given-states g;
    classes = given-classes;
    classed = C;
  }

-- the set after the change
pub set-changed : (inserting : Bool) (A : Automaton) (t : Tree) → Changed inserting A t (changed_set inserting A t)
set-changed inserting A t = record {
  own = chosen inserting A t t ∙ ap (λ (c : Bool). cond c inserting (accepts A t)) (eq_tree-same t);
  others = changed-agree inserting A t;
}

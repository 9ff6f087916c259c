-- Samples of order 12, as rows of one table with one test: automata with loops, their sizes and their changes.
use Rattle.std.specs.Prelude.{Bool, ◌&&◌, false, not, true, List, [], ◌∷◌, map, ◌-◌, ◌^◌, suc, zero, ℕ, eqb, length, replicate}
use Rattle.std.specs.Bool.{beq}
use Rattle.automata.specs.Accessible.{all_accessible}
use Rattle.automata.specs.Automaton.{Automaton, Transition, accepting, empty_automaton, run, states}
use Rattle.automata.specs.Change.{delete_tree, insert_tree}
use Rattle.automata.specs.Coaccessible.{all_coaccessible}
use Rattle.automata.specs.Distinguishable.{all_distinguishable}
use Rattle.automata.specs.Example.{leaf, transition}
use Rattle.automata.specs.Numbered.{numbered}
use Rattle.automata.specs.Order.{rising}
use Rattle.automata.specs.Others.{chains, p6_automaton}
use Rattle.automata.specs.Sizes.{Size, below_size, endless, finite, fits_size, size_of}
use Rattle.automata.specs.TotalSamples.{eight_children}
use Rattle.automata.specs.Totals.{trees_of}
use Rattle.lists.specs.Conditions.{Condition, condition}
use Rattle.lists.specs.Tests.{bit, filter, same_list}
use Rattle.trees.specs.Tree.{Tree, cons, nil, node}

-- what a row says
pub data LoopSample : Type 0 where
  -- the automaton has so many states and transitions
  counted : Automaton → ℕ → ℕ → LoopSample
  -- its set has this size
  measured : Automaton → Size → LoopSample
  -- a state of it has so many trees
  many : Automaton → ℕ → ℕ → LoopSample
  -- the tree runs to a state of it, which is accepting or not
  runs_to : Automaton → Tree → Bool → LoopSample
  -- the two automata are equal
  equal : Automaton → Automaton → LoopSample
  -- of conditions 8 to 10, 12 and 13, exactly these are broken
  broken : Automaton → List ℕ → LoopSample
  -- the size is a number that fits in 64 bits, or it is not
  fitting : Size → Bool → LoopSample
  -- the number is below the size, or it is not
  below : ℕ → Size → Bool → LoopSample

-- the two sizes are equal
abbrev pub same_size : Size → Size → Bool
same_size (finite m) (finite n) = eqb m n
same_size (finite m) endless = false
same_size endless (finite n) = false
same_size endless endless = true

-- the two lists of transitions are equal
abbrev pub same_transitions : List Transition → List Transition → Bool
same_transitions [] [] = true
same_transitions [] (τ ∷ τs) = false
same_transitions (σ ∷ σs) [] = false
same_transitions (σ ∷ σs) (τ ∷ τs) =
    eqb σ.label τ.label && same_list σ.args τ.args && eqb σ.out τ.out && same_transitions σs τs

-- the two automata are equal, class by class and transition by transition
abbrev pub same_automaton : Automaton → Automaton → Bool
same_automaton A B =
    same_list (map bit A.classes) (map bit B.classes) && same_transitions A.transitions B.transitions

-- conditions 8 to 10, 12 and 13
abbrev pub conditions_of : Automaton → List Condition
conditions_of A =
    condition 8 (rising A.transitions) ∷ condition 9 (all_accessible A) ∷ condition 10 (all_coaccessible A) ∷
    condition 12 (all_distinguishable A) ∷ condition 13 (numbered A) ∷ []

-- the numbers of those that do not hold
abbrev pub broken_of : List Condition → List ℕ
broken_of cs = map (λ c. c.refusal) (filter (λ c. not c.holds) cs)

abbrev pub loop_holds : LoopSample → Bool
loop_holds (counted A n m) = eqb (states A) n && eqb (length A.transitions) m
loop_holds (measured A z) = same_size (size_of A) z
loop_holds (many A q n) = eqb (trees_of A q) n
loop_holds (runs_to A t b) = let q = run A t in not (eqb q 0) && beq (accepting A q) b
loop_holds (equal A B) = same_automaton A B
loop_holds (broken A ks) = same_list (broken_of (conditions_of A)) ks
loop_holds (fitting z b) = beq (fits_size z) b
loop_holds (below k z b) = beq (below_size k z) b

-- ---- automata

-- the chain of n + 1 boxes, each of label 5
abbrev pub boxes : ℕ → Tree
boxes zero = leaf 5
boxes (suc n) = node 5 (cons (boxes n) nil)

-- all chains of boxes but this one
abbrev pub without : ℕ → Automaton
without n = delete_tree (boxes n) chains

-- all chains of boxes, and (6 (5 (5)))
abbrev pub with_six : Automaton
with_six = insert_tree (node 6 (cons (boxes 1) nil)) chains

-- (1) runs to 1, and label 5 goes round three states, of which the last is accepting
abbrev pub ring : Automaton
ring = record {
  classes = false ∷ false ∷ true ∷ [];
  transitions =
      transition 1 [] 1 ∷ transition 5 (1 ∷ []) 2 ∷ transition 5 (2 ∷ []) 3 ∷ transition 5 (3 ∷ []) 1 ∷ [];
}

-- two states go round and are both accepting: no context separates them
abbrev pub alike_round : Automaton
alike_round = record {
  classes = true ∷ true ∷ [];
  transitions = transition 1 [] 1 ∷ transition 2 (1 ∷ []) 2 ∷ transition 2 (2 ∷ []) 1 ∷ [];
}

-- state 2 is an argument, but only of a transition to itself, and it is not accepting
abbrev pub used_by_self : Automaton
used_by_self = record {
  classes = true ∷ false ∷ [];
  transitions = transition 1 [] 1 ∷ transition 2 (1 ∷ []) 2 ∷ transition 2 (2 ∷ []) 2 ∷ [];
}

-- two rings whose states are alike only together: 1 and 2 if 3 and 4 are, and 3 and 4 if 1 and 2 are
abbrev pub two_rings : Automaton
two_rings = record {
  classes = false ∷ false ∷ true ∷ true ∷ [];
  transitions =
      transition 1 [] 1 ∷ transition 2 [] 2 ∷ transition 3 (1 ∷ []) 3 ∷ transition 3 (2 ∷ []) 4 ∷
      transition 3 (3 ∷ []) 1 ∷ transition 3 (4 ∷ []) 2 ∷ [];
}

-- (1) and (2) run to 1, label 1 over eight of a state to the next; label 3 loops above state 3, which has 2^64 trees
abbrev pub loop_above : Automaton
loop_above = record {
  classes = false ∷ false ∷ false ∷ true ∷ [];
  transitions =
      transition 1 [] 1 ∷ transition 2 [] 1 ∷ transition 3 (3 ∷ []) 4 ∷ transition 3 (4 ∷ []) 4 ∷
      transition 1 (replicate 8 1) 2 ∷ transition 1 (replicate 8 2) 3 ∷ [];
}

-- ---- the table

abbrev pub loop_samples : List LoopSample
loop_samples =
    -- all chains of boxes
    counted chains 1 2 ∷ measured chains endless ∷ broken chains [] ∷ runs_to chains (boxes 2) true ∷
    -- one taken out, and put in again
    counted (without 0) 2 3 ∷ measured (without 0) endless ∷ counted (without 2) 4 5 ∷
    measured (without 2) endless ∷ runs_to (without 2) (boxes 2) false ∷ runs_to (without 2) (boxes 3) true ∷
    equal (insert_tree (boxes 2) (without 2)) chains ∷
    -- another tree put in
    counted with_six 4 5 ∷ measured with_six endless ∷
    -- loops that pass and loops that do not
    broken ring [] ∷ measured ring endless ∷ broken alike_round (12 ∷ []) ∷ broken used_by_self (10 ∷ []) ∷
    broken two_rings (12 ∷ []) ∷
    -- endless goes before over
    broken loop_above [] ∷ many loop_above 3 (2 ^ 64) ∷ measured loop_above endless ∷
    -- finite sets
    measured empty_automaton (finite 0) ∷ measured p6_automaton (finite 4) ∷ measured eight_children (finite 256) ∷
    -- sizes at their borders
    fitting (finite (2 ^ 64 - 1)) true ∷ fitting (finite (2 ^ 64)) false ∷ fitting endless false ∷
    below 4 (finite 5) true ∷ below 5 (finite 5) false ∷ below 0 (finite 0) false ∷ below (2 ^ 64) endless true ∷ []

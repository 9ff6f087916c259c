-- Samples of the local criterion, as rows of two tables: which slots are covered, and what a subtree can stand for.
use Rattle.std.specs.Prelude.{Bool, false, true, List, [], ◌∷◌, ◌-◌, ℕ, get_or}
use Rattle.std.specs.Bool.{beq}
use Rattle.automata.specs.Alike.{covered, frames_of, like_state, like_subtree}
use Rattle.automata.specs.Automaton.{Automaton}
use Rattle.automata.specs.Change.{subtree_number, subtrees}
use Rattle.automata.specs.Distinguishable.{Slot}
use Rattle.automata.specs.Example.{example, fork, leaf, transition}
use Rattle.automata.specs.NamedChange.{changed_set}
use Rattle.automata.specs.SubtreeNames.{name_of}
use Rattle.lists.specs.Tests.{every}
use Rattle.trees.specs.Tree.{Tree, cons, nil, node}

-- a tree is put into an automaton's set or taken out; the names of its distinct subtrees, in the order of `subtrees`
pub record SampleChange : Type 0 where
  pub automaton : Automaton
  pub tree : Tree
  pub put : Bool
  pub names : List ℕ

-- the changed set
abbrev pub sample_set : SampleChange → Tree → Bool
sample_set c = changed_set c.put c.automaton c.tree

-- the names of the subtrees
abbrev pub given_names : SampleChange → Tree → ℕ
given_names c u = get_or c.names (subtree_number (subtrees c.tree) u - 1) 0

-- the names of all trees
abbrev pub sample_names : SampleChange → Tree → ℕ
sample_names c = name_of c.automaton c.tree (given_names c)

-- what a subtree is compared with
pub data Candidate : Type 0 where
  state : ℕ → Candidate
  other : Tree → Candidate

-- the subtree can stand for the candidate, or it cannot
pub record AlikeSample : Type 0 where
  pub change : SampleChange
  pub subtree : Tree
  pub candidate : Candidate
  pub answer : Bool

-- a row of the table
abbrev pub compared : SampleChange → Tree → Candidate → Bool → AlikeSample
compared c u k b = record { change = c; subtree = u; candidate = k; answer = b }

-- the criterion of a subtree and a candidate
abbrev pub criterion : SampleChange → Tree → Candidate → Bool
criterion c u (state q) = like_state c.automaton c.tree (sample_set c) (sample_names c) u q
criterion c u (other v) = like_subtree c.automaton c.tree (sample_set c) (sample_names c) u v

-- a slot is covered by the frames of a subtree, or it is not
pub record CoveredSample : Type 0 where
  pub change : SampleChange
  pub slot : Slot
  pub subtree : Tree
  pub answer : Bool

-- a row of the table
abbrev pub covering : SampleChange → ℕ → List ℕ → List ℕ → Tree → Bool → CoveredSample
covering c a l r u b =
    record { change = c; slot = record { label = a; before = l; after = r }; subtree = u; answer = b }

-- the paper's example: (1) and (2) run to 1, label 1 over 1 and 1 to 2; (2 (1) (2)) is put in and takes the name 2
abbrev pub paper : SampleChange
paper = record {
  automaton = record {
    classes = false ∷ true ∷ [];
    transitions = transition 1 [] 1 ∷ transition 2 [] 1 ∷ transition 1 (1 ∷ 1 ∷ []) 2 ∷ [];
  };
  tree = fork 2 1 2;
  put = true;
  names = 2 ∷ 4 ∷ 5 ∷ [];
}

-- the same tree taken out of the example's five: (1) and (2) can stand for each other again
abbrev pub undone : SampleChange
undone = record { automaton = example; tree = fork 2 1 2; put = false; names = 0 ∷ 6 ∷ 6 ∷ [] }

-- one argument state twice: (1) and (2) run to 1, label 5 over 1 and 1 to 2; (5 (1) (1)) is taken out
abbrev pub twice : SampleChange
twice = record {
  automaton = record {
    classes = false ∷ true ∷ [];
    transitions = transition 1 [] 1 ∷ transition 2 [] 1 ∷ transition 5 (1 ∷ 1 ∷ []) 2 ∷ [];
  };
  tree = fork 5 1 1;
  put = false;
  names = 0 ∷ 4 ∷ [];
}

-- the tree holds all trees of states 1 to 3: (1) and (2) run to 1, (3) to 2, label 5 over 2 and 1 to 3, label 6 over 3
-- and 3 to 4; (6 (5 (3) (1)) (5 (3) (2))) is taken out
abbrev pub whole : SampleChange
whole = record {
  automaton = record {
    classes = false ∷ false ∷ false ∷ true ∷ [];
    transitions =
        transition 1 [] 1 ∷ transition 2 [] 1 ∷ transition 3 [] 2 ∷ transition 5 (2 ∷ 1 ∷ []) 3 ∷
        transition 6 (3 ∷ 3 ∷ []) 4 ∷ [];
  };
  tree = node 6 (cons (fork 5 3 1) (cons (fork 5 3 2) nil));
  put = false;
  names = 0 ∷ 6 ∷ 7 ∷ 8 ∷ 9 ∷ 10 ∷ [];
}

-- a single use, and it is the tree's: label 5 over 1 to 2; (5 (1)) is taken out
abbrev pub single : SampleChange
single = record {
  automaton = record {
    classes = false ∷ true ∷ [];
    transitions = transition 1 [] 1 ∷ transition 5 (1 ∷ []) 2 ∷ [];
  };
  tree = node 5 (cons (leaf 1) nil);
  put = false;
  names = 0 ∷ 0 ∷ [];
}

-- a transition over one state twice has two slots, and a tree of that state that is no subtree leaves both uncovered
abbrev pub covered_samples : List CoveredSample
covered_samples =
    covering twice 5 [] (1 ∷ []) (leaf 1) false ∷ covering twice 5 (1 ∷ []) [] (leaf 1) false ∷
    covering whole 5 [] (1 ∷ []) (leaf 3) true ∷ covering whole 5 (2 ∷ []) [] (leaf 1) true ∷
    covering whole 5 [] (1 ∷ []) (leaf 1) false ∷ covering whole 6 [] (3 ∷ []) (fork 5 3 1) false ∷
    covering single 5 [] [] (leaf 1) true ∷ []

-- each subtree with the states and the subtrees that it is compared with
abbrev pub alike_samples : List AlikeSample
alike_samples =
    compared paper (fork 2 1 2) (state 2) true ∷ compared paper (fork 2 1 2) (state 0) false ∷
    compared paper (leaf 1) (other (leaf 2)) false ∷ compared paper (leaf 1) (state 2) false ∷
    compared paper (leaf 2) (state 0) false ∷ compared undone (fork 2 1 2) (state 0) true ∷
    compared undone (leaf 1) (other (leaf 2)) true ∷ compared undone (leaf 1) (state 0) false ∷
    compared twice (fork 5 1 1) (state 0) true ∷
    compared twice (leaf 1) (state 1) false ∷ compared twice (leaf 1) (state 0) false ∷
    compared whole (fork 5 3 1) (other (fork 5 3 2)) false ∷ compared whole (leaf 1) (other (leaf 2)) false ∷
    compared whole (leaf 3) (state 0) false ∷ compared single (leaf 1) (state 0) true ∷ []

-- what a row says
abbrev pub covered_holds : CoveredSample → Bool
covered_holds s =
    beq (covered s.change.automaton s.change.tree s.slot (frames_of s.change.tree s.subtree))
    s.answer

abbrev pub alike_holds : AlikeSample → Bool
alike_holds s = beq (criterion s.change s.subtree s.candidate) s.answer

-- every row holds
abbrev pub covered_all : Bool
covered_all = every covered_holds covered_samples

abbrev pub alike_all : Bool
alike_all = every alike_holds alike_samples

-- The definitions of this crate at the arguments of its functions.
use Rattle.std.specs.Prelude.{Bool, List, true, ◌*◌, ℕ}
use Rattle.format.specs.Format.{transition_bytes}
use Rattle.lists.specs.Positions.{Pair, up_from}
use Rattle.quotient.specs.Kept.{OddMarked}
use Rattle.quotient.specs.Making.{chosen_from, chosen_in, finished, new_entry, new_in}
use Rattle.quotient.specs.Nodes.{children_own_at, gone_at, new_at, named_by}
use Rattle.quotient.specs.Setting.{Changed, Chosen, FewChosen}
use Rattle.quotient.specs.declared.named.KeptNames.{KeptNames}
use Rattle.quotient.specs.declared.named.NamedSubtrees.{NamedSubtrees}
use Rattle.quotient.specs.declared.named.Names.{Names}
use Rattle.automata.specs.Automaton.{Automaton}
use Rattle.trees.specs.Tree.{Tree}

-- ---- subtrees with names

-- the subtree at index j adds a transition, or takes one away
abbrev pub adds : NamedSubtrees → ℕ → Bool
adds g = new_at g.n g.subtrees.now.arities g.subtrees.now.children g.subtrees.now.states g.names.now

abbrev pub takes_away : NamedSubtrees → ℕ → Bool
takes_away g = gone_at g.n g.subtrees.now.arities g.subtrees.now.children g.subtrees.now.states g.names.now

-- the children of the subtree at index j all have their own names
abbrev pub has_own_children : NamedSubtrees → ℕ → Bool
has_own_children g = children_own_at g.n g.subtrees.now.arities g.subtrees.now.children g.names.now

-- the arrays hold the automaton A with the subtrees of t and their names by ν, and o marks the open states
abbrev pub ChangedIn : Automaton → Tree → (Tree → ℕ) → List ℕ → ℕ → List ℕ → NamedSubtrees → Type 0
ChangedIn A t ν s count o g =
    Changed A t ν s count g.n g.subtrees.now.count o g.subtrees.now.labels g.subtrees.now.arities
    g.subtrees.now.children g.subtrees.now.states g.names.now

-- the same, with the kept names as chains
abbrev pub ChosenIn : Automaton → Tree → (Tree → ℕ) → List ℕ → ℕ → List ℕ → NamedSubtrees → KeptNames → Type 0
ChosenIn A t ν s count o g k =
    Chosen A t ν s count g.n g.subtrees.now.count o g.subtrees.now.labels g.subtrees.now.arities
    g.subtrees.now.children g.subtrees.now.states g.names.now k.firsts k.nexts

-- there are at most `limit` transitions between names
abbrev pub FewChosenIn : List ℕ → ℕ → NamedSubtrees → KeptNames → ℕ → Type 0
FewChosenIn s count g k limit =
    FewChosen s count g.n g.subtrees.now.count g.subtrees.now.labels g.subtrees.now.arities g.subtrees.now.children
    g.subtrees.now.states g.names.now k.firsts k.nexts limit

-- ---- transitions between names

-- every state that does not keep its name, or has another, is marked
abbrev pub OddIn : Names → List ℕ → Type 0
OddIn g odd = OddMarked g.named.now.n g.kept.now.firsts g.kept.now.nexts odd

-- the name of the subtree with these two numbers; o if there is none
abbrev pub named_in : Names → ℕ → ℕ → ℕ → ℕ
named_in g meta key o =
    named_by g.metas.now g.keys.now g.named.now.names.now meta key o (up_from 0 g.named.now.subtrees.now.count)

-- the entry of the transition that starts at a byte, over the names packed in `prefix`
abbrev pub finished_in : Names → List ℕ → ℕ → Bool → ℕ → List Pair
finished_in g s at =
    finished s at g.metas.now g.keys.now g.named.now.names.now g.named.now.subtrees.now.count

-- the entries of all choices from place k on, after the names packed in `prefix`
abbrev pub choices_from : Names → List ℕ → ℕ → ℕ → Bool → ℕ → List Pair
choices_from g s at k =
    chosen_from s at k g.kept.now.firsts g.kept.now.nexts g.named.now.n g.named.now.subtrees.now.count g.metas.now
    g.keys.now g.named.now.names.now

-- the same from the first place on
abbrev pub choices_at : Names → List ℕ → ℕ → List Pair
choices_at g s at = choices_from g s at 0 true 0

-- the entries of transition i, and those of the first `count` transitions
abbrev pub nth_choices : Names → List ℕ → ℕ → List Pair
nth_choices g s i = choices_at g s (transition_bytes * i)

abbrev pub choices_in : Names → List ℕ → ℕ → List Pair
choices_in g s count =
    chosen_in s count g.kept.now.firsts g.kept.now.nexts g.named.now.n g.named.now.subtrees.now.count g.metas.now
    g.keys.now g.named.now.names.now

-- the entry of the subtree at index j, if it adds a transition, and those of all subtrees
abbrev pub added_at : Names → ℕ → List Pair
added_at g =
    new_entry g.named.now.n g.named.now.subtrees.now.arities g.named.now.subtrees.now.children
    g.named.now.subtrees.now.states g.named.now.names.now g.metas.now g.keys.now

abbrev pub added_in : Names → List Pair
added_in g =
    new_in g.named.now.n g.named.now.subtrees.now.count g.named.now.subtrees.now.arities
    g.named.now.subtrees.now.children g.named.now.subtrees.now.states g.named.now.names.now g.metas.now g.keys.now

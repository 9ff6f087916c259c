-- The facts about a setting that the contracts of this crate speak of.
use Rattle.std.specs.Prelude.{Bool, List, ℕ}
use Rattle.automata.specs.Automaton.{Automaton}
use Rattle.naming.specs.Classes.{Classed}
use Rattle.naming.specs.declared.parents.Parents.{Parents}
use Rattle.naming.specs.Known.{Known}
use Rattle.naming.specs.Parents.{ParentsNoted, SpansOf, anchors, raises}
use Rattle.subtrees.specs.declared.Subtrees.{Subtrees}
use Rattle.trees.specs.Tree.{Tree}
use Rattle.uses.specs.declared.setting.Setting.{Setting}

-- the table b has the states of A, and the setting its transitions and the subtrees of t with their classes in S
abbrev pub KnownIn : Automaton → Tree → List Tree → (Tree → Bool) → List ℕ → Setting → Type 0
KnownIn A t ts S b g =
    Known A t ts S b g.transitions.now g.count g.n g.subtrees.now.count g.subtrees.now.labels g.subtrees.now.arities
    g.subtrees.now.children g.subtrees.now.states g.weights.now g.classes.now

-- the setting has the classes of the subtrees in S
abbrev pub ClassedIn : (Tree → Bool) → List Tree → Setting → Type 0
ClassedIn S ts g = Classed S ts g.subtrees.now.count g.classes.now

-- the bounds of the parents of each subtree
abbrev pub SpansIn : Subtrees → Parents → Type 0
SpansIn s p = SpansOf s.count s.arities s.children p.froms p.tos

abbrev pub NotedIn : Subtrees → ℕ → ℕ → Parents → Type 0
NotedIn s most p parents = ParentsNoted s.arities s.children most p parents.froms parents.tos

-- subtree i is a parent of subtree j, and its name is its own alone, or some subtree's own
abbrev pub anchors_in : Setting → List ℕ → List ℕ → ℕ → ℕ → Bool
anchors_in g names shared j i = anchors g.n g.subtrees.now.arities g.subtrees.now.children names shared j i

abbrev pub raises_in : Setting → List ℕ → ℕ → ℕ → Bool
raises_in g names j i = raises g.n g.subtrees.now.arities g.subtrees.now.children names j i

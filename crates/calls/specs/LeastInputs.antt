-- The least input that meets each refusal, through the call's own definition, and what the call leaves: rows of one
-- table. 16 and 17 take thousands of transitions and are met in the differential runs.
use Rattle.std.specs.Prelude.{false, true, List, [], ◌++◌, ◌∷◌, map, ◌≡◌, suc, zero, ℕ, replicate}
use Rattle.automata.specs.Automaton.{Automaton, Transition}
use Rattle.automata.specs.Example.{leaf, transition}
use Rattle.calls.specs.Series.{Call, add, ask, intake, perform, query, rank, remove, total, unrank}
use Rattle.calls.specs.declared.Answer.{Answer}
use Rattle.calls.specs.declared.Answer.TheVariants.{Accepted, Approved, Done, Finished, NotAt, Over}
use Rattle.calls.specs.declared.Answer.TheVariants.{Refused, Serial, Total}
use Rattle.lists.specs.Positions.{up_from}
use Rattle.table.specs.Layout.{encode}
use Rattle.trees.specs.Listing.{listing}
use Rattle.trees.specs.Tree.{Forest, Tree, cons, nil, node}

-- a call on a table, its answer, and what it leaves in the buffer that it was lent and in the table
pub record Row : Type 0 where
  pub table : List ℕ
  pub call : Call
  pub answer : Answer
  pub lent : List ℕ
  pub next : List ℕ

abbrev pub gives : List ℕ → Call → Answer → List ℕ → List ℕ → Row
gives b c a l n = record { table = b; call = c; answer = a; lent = l; next = n }

-- the buffer that a call brings
abbrev pub brought : Call → List ℕ
brought (query (ask s)) = []
brought (query (rank s)) = []
brought (query intake) = []
brought (query total) = []
brought (query (unrank k l)) = l
brought (add s w) = w
brought (remove s w) = w

-- a call that is refused by this number and leaves everything as it was
abbrev pub refuses : List ℕ → Call → ℕ → Row
refuses b c r = gives b c (Refused r) (brought c) b

-- a call that only reads, has no buffer and answers so
abbrev pub says : List ℕ → Call → Answer → Row
says b c a = gives b c a [] b

abbrev pub Does : Row → Type 0
Does x =
    perform x.table x.call ≡
    record { response = record { answer = x.answer; lent = x.lent }; next = x.next }

abbrev pub AllDo : List Row → Type 0
AllDo [] = Unit {0}
AllDo (x ∷ xs) = Does x × AllDo xs

-- ---- tables

-- the table of the empty set
unfoldable pub zeros : List ℕ
zeros = replicate 12491 0

-- so many bytes 7: memory that was used before
unfoldable pub sevens : ℕ → List ℕ
sevens n = replicate n 7

-- the set of (1)
abbrev pub single : Automaton
single = record { classes = true ∷ []; transitions = transition 1 [] 1 ∷ [] }

-- 8: (2) before (1)
abbrev pub falling : Automaton
falling = record { classes = true ∷ []; transitions = transition 2 [] 1 ∷ transition 1 [] 1 ∷ [] }

-- 9: no tree runs to the state
abbrev pub unreached : Automaton
unreached = record { classes = true ∷ []; transitions = [] }

-- 10: nothing is accepted
abbrev pub unused : Automaton
unused = record { classes = false ∷ []; transitions = transition 1 [] 1 ∷ [] }

-- 11: the state leads to itself
abbrev pub looped : Automaton
looped = record { classes = true ∷ []; transitions = transition 1 [] 1 ∷ transition 1 (1 ∷ []) 1 ∷ [] }

-- 12: (1) and (2) are interchangeable
abbrev pub twofold : Automaton
twofold = record { classes = true ∷ true ∷ []; transitions = transition 1 [] 1 ∷ transition 2 [] 2 ∷ [] }

-- 13: the leaf does not have the first number
abbrev pub misnumbered : Automaton
misnumbered = record { classes = true ∷ false ∷ []; transitions = transition 1 [] 2 ∷ transition 1 (2 ∷ []) 1 ∷ [] }

-- 18: (1) to (16), eight of these under label 1, and two such trees under label 1 again: 2^64 trees
abbrev pub leaf_of : ℕ → Transition
leaf_of a = transition a [] 1

abbrev pub many : Automaton
many = record {
  classes = false ∷ false ∷ true ∷ [];
  transitions =
      map leaf_of (up_from 1 16) ++
      (transition 1 (2 ∷ 2 ∷ []) 3 ∷ transition 1 (replicate 8 1) 2 ∷ []);
}

-- a tree of these
abbrev pub leaves : ℕ → Forest
leaves zero = nil
leaves (suc n) = cons (leaf 1) (leaves n)

abbrev pub one_of_many : Tree
one_of_many = node 1 (cons (node 1 (leaves 8)) (cons (node 1 (leaves 8)) nil))

-- 20: the only tree has 73 nodes
abbrev pub tall : Automaton
tall = record {
  classes = false ∷ false ∷ true ∷ [];
  transitions = transition 1 [] 1 ∷ transition 1 (replicate 8 1) 2 ∷ transition 1 (replicate 8 2) 3 ∷ [];
}

-- ---- the rows

-- the listing of (1)
abbrev pub one : List ℕ
one = 0 ∷ 1 ∷ 0 ∷ []

-- a buffer and a scratch of the right length
abbrev pub buffer : List ℕ
buffer = sevens 144

abbrev pub scratch : List ℕ
scratch = sevens 36864

-- 1 to 7
abbrev pub early : List Row
early =
    refuses [] (query (ask [])) 1 ∷ refuses [] (query (ask (0 ∷ 0 ∷ 0 ∷ []))) 2 ∷
    refuses [] (query (ask (0 ∷ 1 ∷ 9 ∷ []))) 3 ∷ refuses [] (query (ask (0 ∷ 1 ∷ 1 ∷ []))) 4 ∷
    refuses [] (query (ask one)) 5 ∷ refuses [] (query intake) 5 ∷ refuses [] (query (unrank 0 [])) 5 ∷
    refuses [] (add one []) 5 ∷ refuses (201 ∷ replicate 12490 0) (query intake) 7 ∷ []

-- 6: one byte short, one too long
abbrev pub buffers : List Row
buffers =
    refuses zeros (query (unrank 0 (sevens 143))) 6 ∷ refuses zeros (query (unrank 0 (sevens 145))) 6 ∷
    refuses zeros (add one (sevens 36863)) 6 ∷ refuses zeros (remove one (sevens 36865)) 6 ∷ []

-- 8 to 13
abbrev pub contents : List Row
contents =
    refuses (encode falling) (query intake) 8 ∷ refuses (encode unreached) (query intake) 9 ∷
    refuses (encode unused) (query intake) 10 ∷ refuses (encode looped) (query intake) 11 ∷
    refuses (encode twofold) (query intake) 12 ∷ refuses (encode misnumbered) (query intake) 13 ∷ []

-- 14, 15 and 18 to 20
abbrev pub late : List Row
late =
    refuses (encode single) (add one scratch) 14 ∷ refuses zeros (remove one scratch) 15 ∷
    refuses (encode many) (query (rank (listing one_of_many))) 18 ∷ refuses (encode many) (query (unrank 0 buffer)) 18 ∷
    refuses (encode many) (query (unrank 18446744073709551616 buffer)) 18 ∷
    refuses zeros (query (unrank 0 buffer)) 19 ∷ refuses (encode single) (query (unrank 1 buffer)) 19 ∷
    refuses (encode tall) (query (unrank 0 buffer)) 20 ∷ []

-- nothing is refused
abbrev pub answered : List Row
answered =
    says zeros (query (ask one)) (NotAt 1) ∷ says (encode single) (query (ask one)) Approved ∷
    says (encode single) (query intake) (Accepted 1 1) ∷ says (encode single) (query total) (Total 1) ∷
    says (encode many) (query total) Over ∷ says (encode single) (query (rank one)) (Serial 0) ∷
    gives (encode single) (query (unrank 0 buffer)) Finished (0 ∷ 1 ∷ 0 ∷ replicate 141 0) (encode single) ∷
    gives zeros (add one scratch) (Done 1 1) (replicate 36864 0) (encode single) ∷
    gives (encode single) (remove one scratch) (Done 0 0) (replicate 36864 0) zeros ∷ []

-- every row of the five tables holds
abbrev pub RowsHold : Type 0
RowsHold = AllDo early × AllDo buffers × AllDo contents × AllDo late × AllDo answered

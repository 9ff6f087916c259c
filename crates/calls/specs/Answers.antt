-- The answers that each kind of call can give, and the numbers that a C host gets for each.
use Rattle.std.specs.Prelude.{◌⊎◌, ◌≡◌, ◌*◌, ◌+◌, ◌<◌, ◌≤◌, ℕ}
use Rattle.calls.specs.declared.Answer.{Answer}
use Rattle.calls.specs.declared.Answer.TheVariants.{Accepted, Approved, Done, Finished, NotAt, NotPart, Over}
use Rattle.calls.specs.declared.Answer.TheVariants.{Refused, Serial, Total}
use Rattle.format.specs.Format.{max_nodes, max_states, max_transitions, number_limit}

-- ask, intake, the two calls that change the set, the total, tree to number and number to tree
pub data CallKind : Type 0 where
  asking taking changing totalling ranking unranking : CallKind

-- 01 numbers refusals from 1 to 17, and 02's order 4 goes on to 20
abbrev pub RefusalNumber : ℕ → Type 0
RefusalNumber k = (1 ≤ k) × (k ≤ 20)

-- a refusal, by its number
pub record Refusal (a : Answer) : Type 0 where
  pub number : ℕ
  pub within : RefusalNumber number
  pub answer : a ≡ Refused number

-- not approved, with a place of a listing
pub record Stopped (a : Answer) : Type 0 where
  pub place : ℕ
  pub within : (1 ≤ place) × (place ≤ max_nodes)
  pub answer : a ≡ NotAt place

-- accepted or done, with numbers of states and of transitions that a table can hold
pub record Counted (answer-of : ℕ → ℕ → Answer) (a : Answer) : Type 0 where
  pub states : ℕ
  pub transitions : ℕ
  pub within : (states ≤ max_states) × (transitions ≤ max_transitions)
  pub answer : a ≡ answer-of states transitions

-- a total, or the number of a tree, that fits 64 bits
pub record Numbered (answer-of : ℕ → Answer) (a : Answer) : Type 0 where
  pub number : ℕ
  pub within : number < number_limit
  pub answer : a ≡ answer-of number

-- the answers of each kind of call
abbrev pub Gives : CallKind → Answer → Type 0
Gives asking a = (a ≡ Approved) ⊎ ((a ≡ NotPart) ⊎ (Stopped a ⊎ Refusal a))
Gives taking a = Counted Accepted a ⊎ Refusal a
Gives changing a = Counted Done a ⊎ Refusal a
Gives totalling a = Numbered Total a ⊎ ((a ≡ Over) ⊎ Refusal a)
Gives ranking a = Numbered Serial a ⊎ ((a ≡ NotPart) ⊎ (Stopped a ⊎ Refusal a))
Gives unranking a = (a ≡ Finished) ⊎ Refusal a

-- the numbers of states and of transitions in one number
abbrev pub counts_number : ℕ → ℕ → ℕ
counts_number n m = 65536 * n + 4294967296 * m

-- refusal + 256 kind + 65,536 first + 4,294,967,296 second
abbrev pub answer_number : Answer → ℕ
answer_number Approved = 256
answer_number NotPart = 512
answer_number (NotAt k) = 65536 * k
answer_number (Accepted n m) = counts_number n m
answer_number (Done n m) = counts_number n m
answer_number (Total n) = 0
answer_number Over = 256
answer_number (Serial n) = 256
answer_number Finished = 0
answer_number (Refused k) = k

-- what a C host then has in the number that it lent: the total, the tree's number, or what was there
abbrev pub number_after : Answer → ℕ → ℕ
number_after Approved old = old
number_after NotPart old = old
number_after (NotAt k) old = old
number_after (Accepted n m) old = old
number_after (Done n m) old = old
number_after (Total n) old = n
number_after Over old = old
number_after (Serial n) old = n
number_after Finished old = old
number_after (Refused k) old = old

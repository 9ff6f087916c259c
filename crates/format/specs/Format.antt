-- The widths and limits of document 01, each stated once. The constants of src/lib.rt are the same numbers.
use Rattle.std.specs.Prelude.{◌%◌, ◌*◌, ◌+◌, ◌-◌, ◌/◌, ◌<◌, ◌^◌, ℕ, List, [], ◌∷◌, get_or}

-- the values of a byte: a list with an entry for each has every byte, and so every state, as a position
abbrev pub byte_values : ℕ
byte_values = 256

-- the same for two bytes
abbrev pub byte_pairs : ℕ
byte_pairs = byte_values * byte_values

-- a label has two bytes, high byte first; it is 1 to 65,535
abbrev pub label_bytes : ℕ
label_bytes = 2

abbrev pub max_label : ℕ
max_label = byte_pairs - 1

-- the labels from here to the greatest are summing boxes (02, order 7)
abbrev pub first_box : ℕ
first_box = 61440

-- the label that two bytes make
abbrev pub label_from : ℕ → ℕ → ℕ
label_from high low = byte_values * high + low

-- the label that starts at a byte
abbrev pub label_in : List ℕ → ℕ → ℕ
label_in s at = label_from (get_or s at 0) (get_or s (at + 1) 0)

-- the bytes of a label
abbrev pub label_written : ℕ → List ℕ
label_written a = a / byte_values ∷ a % byte_values ∷ []

-- the children of a node, and the arguments of a transition
abbrev pub max_arity : ℕ
max_arity = 8

-- a listing has the label and one byte of child count a node, for at most 48 nodes
abbrev pub node_bytes : ℕ
node_bytes = label_bytes + 1

abbrev pub max_nodes : ℕ
max_nodes = 48

abbrev pub max_listing : ℕ
max_listing = node_bytes * max_nodes

-- a table has a byte for the number of states, one for each state's class, and two for the number of
-- transitions, high byte first
abbrev pub max_states : ℕ
max_states = 200

abbrev pub max_transitions : ℕ
max_transitions = 1024

abbrev pub count_at : ℕ
count_at = max_states + 1

abbrev pub head_bytes : ℕ
head_bytes = max_states + 3

-- a transition has its label, the number of its arguments, the arguments and its output
abbrev pub arity_at : ℕ
arity_at = label_bytes

abbrev pub args_at : ℕ
args_at = arity_at + 1

abbrev pub out_at : ℕ
out_at = args_at + max_arity

abbrev pub transition_bytes : ℕ
transition_bytes = out_at + 1

abbrev pub table_bytes : ℕ
table_bytes = head_bytes + transition_bytes * max_transitions

-- the scratch has room for the transitions of a product
abbrev pub max_product : ℕ
max_product = 3072

abbrev pub scratch_bytes : ℕ
scratch_bytes = transition_bytes * max_product

-- a line of text that is read has at most so many bytes, and a tree of at most so many nodes (01: the bench program)
abbrev pub max_line : ℕ
max_line = 512

abbrev pub max_line_nodes : ℕ
max_line_nodes = 126

-- the bytes lent for the listing of a line's tree
abbrev pub listing_bytes : ℕ
listing_bytes = node_bytes * max_line_nodes

-- the least number that does not fit 64 bits
abbrev pub number_limit : ℕ
number_limit = 2 ^ 64

-- what a slice of bytes holds
abbrev pub AllBytes : List ℕ → Type 0
AllBytes s = (i : ℕ) → get_or s i 0 < byte_values

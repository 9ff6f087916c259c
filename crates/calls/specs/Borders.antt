-- What 01 and 02 print, as rows: every width and limit as its number, the number of each answer, what is left in a
-- scratch, and each limit at its border. A definition and code that are off by one alike agree with each other, but not
-- with a row.
use Rattle.std.specs.Prelude.{Bool, ◌&&◌, not, List, [], ◌∷◌, ℕ, eqb}
use Rattle.calls.specs.Answers.{answer_number, number_after}
use Rattle.calls.specs.Calls.{fits_listing, scratch_after, totalled}
use Rattle.calls.specs.Samples.{chain}
use Rattle.calls.specs.declared.Answer.{Answer}
use Rattle.calls.specs.declared.Answer.TheVariants.{Accepted, Approved, Done, Finished, NotAt, NotPart, Over}
use Rattle.calls.specs.declared.Answer.TheVariants.{Refused, Serial, Total}
use Rattle.format.specs.Format.{args_at, arity_at, byte_values, count_at, head_bytes, label_bytes, listing_bytes, max_arity}
use Rattle.format.specs.Format.{max_label, max_line, max_line_nodes, max_listing, max_nodes, max_product, max_states}
use Rattle.format.specs.Format.{max_transitions, node_bytes, number_limit, out_at, scratch_bytes, table_bytes, transition_bytes}
use Rattle.lists.specs.Decimal.{decimal}
use Rattle.lists.specs.Positions.{Pair}
use Rattle.lists.specs.Tests.{every, same_list}

-- a width or limit, and the number that is printed for it
abbrev pub widths : List Pair
widths =
    (byte_values, 256) ∷ (label_bytes, 2) ∷ (max_label, 65535) ∷ (max_arity, 8) ∷ (node_bytes, 3) ∷ (max_nodes, 48) ∷
    (max_listing, 144) ∷ (max_states, 200) ∷ (max_transitions, 1024) ∷ (count_at, 201) ∷ (head_bytes, 203) ∷ (arity_at, 2) ∷
    (args_at, 3) ∷ (out_at, 11) ∷ (transition_bytes, 12) ∷ (table_bytes, 12491) ∷ (max_product, 3072) ∷
    (scratch_bytes, 36864) ∷ (max_line, 512) ∷ (max_line_nodes, 126) ∷ (listing_bytes, 378) ∷
    (number_limit, 18446744073709551616) ∷ []

-- an answer, the number that a C host gets for it, and what it then has in a number that was 7
pub record Numbers : Type 0 where
  pub answer : Answer
  pub returned : ℕ
  pub left : ℕ

abbrev pub returns : Answer → ℕ → ℕ → Numbers
returns a n k = record { answer = a; returned = n; left = k }

abbrev pub answers : List Numbers
answers =
    returns Approved 256 7 ∷ returns NotPart 512 7 ∷ returns (NotAt 1) 65536 7 ∷ returns (NotAt 48) 3145728 7 ∷
    returns (Accepted 1 0) 65536 7 ∷ returns (Accepted 0 1) 4294967296 7 ∷ returns (Done 1 0) 65536 7 ∷
    returns (Done 0 1) 4294967296 7 ∷ returns (Total 5) 0 5 ∷ returns Over 256 7 ∷ returns (Serial 5) 256 5 ∷
    returns Finished 0 7 ∷ returns (Refused 1) 1 7 ∷ returns (Refused 20) 20 7 ∷ []

abbrev pub numbered : Numbers → Bool
numbered x = eqb (answer_number x.answer) x.returned && eqb (number_after x.answer 7) x.left

-- what a scratch that holds 7 7 holds after a call that this number refuses, 0 for done
pub record Left : Type 0 where
  pub refusal : ℕ
  pub scratch : List ℕ

abbrev pub leaves : ℕ → List ℕ → Left
leaves r w = record { refusal = r; scratch = w }

abbrev pub scratches : List Left
scratches =
    leaves 0 (0 ∷ 0 ∷ []) ∷ leaves 1 (7 ∷ 7 ∷ []) ∷ leaves 15 (7 ∷ 7 ∷ []) ∷ leaves 16 (0 ∷ 0 ∷ []) ∷
    leaves 17 (0 ∷ 0 ∷ []) ∷ []

abbrev pub left : Left → Bool
left x = same_list (scratch_after x.refusal (7 ∷ 7 ∷ [])) x.scratch

-- each limit at its border, and numbers in decimal as text
abbrev pub borders : List Bool
borders =
    fits_listing (chain 47) ∷ not (fits_listing (chain 48)) ∷
    eqb (answer_number (totalled 18446744073709551615)) 0 ∷ eqb (answer_number (totalled 18446744073709551616)) 256 ∷
    same_list (decimal 0) (48 ∷ []) ∷ same_list (decimal 9) (57 ∷ []) ∷ same_list (decimal 10) (49 ∷ 48 ∷ []) ∷
    same_list (decimal 65535) (54 ∷ 53 ∷ 53 ∷ 51 ∷ 53 ∷ []) ∷ []

-- every row of the four tables holds
abbrev pub borders_hold : Bool
borders_hold =
    every (λ (p : Pair). eqb p.0 p.1) widths && every numbered answers && every left scratches &&
    every (λ (b : Bool). b) borders

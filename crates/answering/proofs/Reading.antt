-- Ask and intake: what a refusal number says, and what the calls know if nothing is refused.
use mathlib.Core.Bool.{false, true}
use mathlib.Core.List.{List, ◌∷◌}
use mathlib.Core.Logic.{◌≢◌}
use mathlib.Core.Path.{◌∙◌, ◌≡◌, ap, ap₂, sym}
use Prim.Native.Nat.{ℕ}
use borrow.Author.Tests.{eq-eqb, ne_eqb}
use Rattle.automata.specs.Automaton.{Automaton, accepts, run}
use Rattle.automata.specs.Stops.{stop_place}
use Rattle.calls.specs.Calls.{ask_answer, ask_refusal, asked, intake_answer, refused_or}
use Rattle.calls.specs.declared.Answer.{Answer}
use Rattle.calls.specs.declared.Answer.TheVariants.{Accepted, Approved, NotAt, NotPart, Refused}
use Rattle.table.specs.Intake.{content_conditions, length_condition, table_refusal}
use Rattle.table.specs.Layout.{decode, state_count, transition_count}
use Rattle.trees.specs.Listing.{listing_conditions, listing_refusal, read_tree}
use Rattle.trees.specs.Tree.{Tree}
use Rattle.lists.proofs.Conditions.{append-broken, append-unbroken}
use Rattle.table.proofs.Decoded.{decoded-count, decoded-states}
use Rattle.trees.proofs.ListingRefusal.{listing-from-one}

-- the listing is refused, or what the table's check says
pub listing-refused : (s b : List ℕ) {r : ℕ} → r ≡ listing_refusal s → r ≢ 0 → r ≡ ask_refusal s b
unfolding ask_refusal listing_refusal
listing-refused s b e n =
    append-broken (listing_conditions s) (length_condition b ∷ content_conditions b) (listing-from-one s) e n

pub listing-passed : (s b : List ℕ) {r q : ℕ} → r ≡ listing_refusal s → r ≡ 0 → q ≡ table_refusal b → q ≡ ask_refusal s b
unfolding ask_refusal listing_refusal table_refusal
listing-passed s b e z f =
    append-unbroken (listing_conditions s) (length_condition b ∷ content_conditions b) (listing-from-one s) e z f

-- ---- the answers

pub refused-or : (n : ℕ) (a : Answer) → n ≢ 0 → refused_or n a ≡ Refused n
refused-or n a h = rw (ne_eqb n 0 h)

pub ask-refused : (s b : List ℕ) {r : ℕ} → r ≡ ask_refusal s b → r ≢ 0 → Refused r ≡ ask_answer s b
unfolding ask_answer
ask-refused s b {r} e n = ap Refused e ∙ sym (refused-or (ask_refusal s b) _ (λ d. n (e ∙ d)))

-- nothing is refused
pub ask-answered : (s b : List ℕ) {r : ℕ} → r ≡ ask_refusal s b → r ≡ 0 → {a : Answer} →
    a ≡ asked (decode b) (read_tree s) → a ≡ ask_answer s b
unfolding ask_answer
ask-answered s b e z d = d ∙ sym (rw (eq-eqb (ask_refusal s b) 0 (sym e ∙ z)))

module _ (A : Automaton) (t : Tree) where
  pub asked-stopped : run A t ≡ 0 → {k : ℕ} → k ≡ stop_place A t → NotAt k ≡ asked A t
  unfolding asked
  asked-stopped n d = rw d (sym (rw n))

  pub asked-approved : accepts A t ≡ true → Approved ≡ asked A t
  unfolding asked
  asked-approved a = sym (rw a)

  pub asked-part : run A t ≢ 0 → accepts A t ≡ false → NotPart ≡ asked A t
  unfolding asked
  asked-part n a = sym (rw (a, ne_eqb (run A t) 0 n))

pub take-refused : (b : List ℕ) {r : ℕ} → r ≡ table_refusal b → r ≢ 0 → Refused r ≡ intake_answer b
unfolding intake_answer
take-refused b {r} e n = ap Refused e ∙ sym (refused-or (table_refusal b) _ (λ d. n (e ∙ d)))

pub take-answered : (b : List ℕ) {r n m : ℕ} → r ≡ table_refusal b → r ≡ 0 → n ≡ state_count b →
    m ≡ transition_count b → Accepted n m ≡ intake_answer b
unfolding intake_answer
take-answered b e z d f =
    rw (eq-eqb (table_refusal b) 0 (sym e ∙ z))
    (ap₂ (λ (x y : ℕ). Accepted x y) (d ∙ sym (decoded-states b)) (f ∙ sym (decoded-count b)))

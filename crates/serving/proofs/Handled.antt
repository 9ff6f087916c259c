-- What a line's reading makes of it: a command with the listing that the lent bytes start with, or no call at all.
use mathlib.Core.List.{List}
use mathlib.Core.Path.{◌∙◌, ◌≡◌, ap, ap₂, refl, subst, sym}
use Prim.Native.Nat.{◌-◌, ◌≤◌, ℕ}
use native.Mathlib.Omega.{arith}
use lib.ListN.{drop, length, length-append, replicate, take}
use Rattle.format.specs.Format.{listing_bytes}
use Rattle.calls.specs.Calls.{Result, intake_answer, total_answer}
use Rattle.calls.specs.declared.Answer.{Answer}
use Rattle.calls.specs.declared.Answer.TheVariants.{Accepted, Approved, Done, Finished, NotAt, NotPart, Over, Refused}
use Rattle.calls.specs.declared.Answer.TheVariants.{Serial, Total as Counted}
use Rattle.report.specs.Printing.{Printed}
use Rattle.report.specs.Report.{end_text, line_text}
use Rattle.text.proofs.Lines.{padded-listing}
use Rattle.text.specs.Grammar.{Command, to_add, to_ask, to_drop}
use Rattle.text.specs.Outcome.{listed, padded, parsed, parsed_as}
use Rattle.text.specs.Reader.{Line, form, formed, long, read_line, totalled}
use Rattle.text.specs.declared.Command as read
use Rattle.text.specs.declared.Command.TheVariants.{Add, Ask, Drop, Total}
use Rattle.text.specs.declared.Malformed.{Malformed}
use Rattle.text.specs.declared.Malformed.TheVariants.{Form, Long}
use Rattle.std.specs.Prelude.{Err, Ok}
use Rattle.std.specs.Prelude as std
use Rattle.serving.specs.Answering.{Serves, handling}
use Rattle.serving.specs.Serving.{answered, called, closing, closing_for, handled, reported, served}

-- a line is a command, with a listing of n bytes
record Commands (r : Line) (c : Command) (n : ℕ) : Type 0 where
  listing : List ℕ
  line : r ≡ formed c listing
  size : n ≡ length listing

-- what the reader's result says of its line
Says : Line → std.Result read.Command Malformed → Type 0
Says r (Ok (Add n)) = Commands r to_add n
Says r (Ok (Drop n)) = Commands r to_drop n
Says r (Ok (Ask n)) = Commands r to_ask n
Says r (Ok Total) = r ≡ totalled
Says r (Err (Form n)) = r ≡ form n
Says r (Err Long) = r ≡ long

says-itself : (r : Line) → Says r (parsed r)
unfolding Says parsed
says-itself (formed to_add l) = record { listing = l; line = refl; size = refl }
says-itself (formed to_drop l) = record { listing = l; line = refl; size = refl }
says-itself (formed to_ask l) = record { listing = l; line = refl; size = refl }
says-itself (form n) = refl
says-itself long = refl
says-itself totalled = refl

says : (r : Line) (x : std.Result read.Command Malformed) → parsed r ≡ x → Says r x
says r x e = subst (Says r) e (says-itself r)

commands : (r : Line) (c : Command) (n : ℕ) → parsed r ≡ Ok (parsed_as c n) → Commands r c n
unfolding Says
commands r to_add n e = says r (Ok (Add n)) e
commands r to_drop n e = says r (Ok (Drop n)) e
commands r to_ask n e = says r (Ok (Ask n)) e

module _ (r : Line) (c : Command) (n : ℕ) (e : parsed r ≡ Ok (parsed_as c n)) where
  -- the lent bytes have its listing
  pub listing-within : (m : List ℕ) → m ≡ listed r → n ≤ length m
  unfolding listed padded
  listing-within m p =
      let X = commands r c n e in
      let q : m ≡ padded X.listing = p ∙ ap listed X.line in
      omega (arith, X.size, ap length q, length-append X.listing (replicate (listing_bytes - length X.listing) 0))

  -- the call with what the lent bytes start with
  pub call-handled : (m : List ℕ) → m ≡ listed r → (b w : List ℕ) (x : Result) →
      x ≡ called c (take (n - 0) (drop 0 m)) b w → answered x ≡ handled r b w
  unfolding listed handled
  call-handled m p b w x h =
      let X = commands r c n e in
      let q : m ≡ padded X.listing = p ∙ ap listed X.line in
      let z : n - 0 ≡ length X.listing = omega (arith, X.size) in
      let t : take (n - 0) (drop 0 m) ≡ X.listing =
      ap₂ take z q ∙ padded-listing X.listing in
      ap answered (h ∙ ap (λ (s : List ℕ). called c s b w) t) ∙ sym (ap (λ (l : Line). handled l b w) X.line)

-- a malformed line and one that is too long change nothing
pub malformed-handled : (r : Line) (e : Malformed) → parsed r ≡ Err e → (b w : List ℕ) →
    handling (Err e) b w ≡ handled r b w
unfolding Says handled
malformed-handled r (Form n) e b w = sym (ap (λ (l : Line). handled l b w) (says r (Err (Form n)) e))
malformed-handled r Long e b w = sym (ap (λ (l : Line). handled l b w) (says r (Err Long) e))

-- the total changes nothing
pub total-handled : (r : Line) → parsed r ≡ Ok Total → (b w : List ℕ) (a : Answer) → a ≡ total_answer b →
    handling (Ok a) b w ≡ handled r b w
unfolding Says handled
total-handled r e b w a h =
    ap (λ x. handling (Ok x) b w) h ∙ sym (ap (λ (l : Line). handled l b w) (says r (Ok Total) e))

-- a line handled and its outcome printed
pub printed-served : (n : ℕ) (s b w : List ℕ) (o : std.Result Answer Malformed) (b' w' t : List ℕ) (r : ℕ) →
    handling o b' w' ≡ handled (read_line s) b w → Printed t (line_text n o) r → Serves n s b w t r b' w'
unfolding served
printed-served n s b w o b' w' t r e p = record {
  size = p.size;
  within = p.within;
  equal = (λ i. record { text = p.text i; table = b'; scratch = w' }) ∙ ap (reported n) e;
}

-- the last line, from what intake reported
pub printed-closing : (n : ℕ) (b t x : List ℕ) (r : ℕ) (a : Answer) → a ≡ intake_answer b → closing_for n a ≡ x →
    Printed t x r → Printed t (closing n b) r
unfolding closing
printed-closing n b t x r a e f p = subst (λ (y : List ℕ). Printed t y r) (sym f ∙ ap (closing_for n) e) p

-- an answer that does not accept a table has no numbers
pub other-closing : (n : ℕ) (a : Answer) → ((j k : ℕ) → a ≡ Accepted j k → ⊥) → closing_for n a ≡ end_text n 0 0
other-closing n Approved h = refl
other-closing n NotPart h = refl
other-closing n (NotAt k) h = refl
other-closing n (Accepted j k) h = absurd (h j k refl)
other-closing n (Done j k) h = refl
other-closing n (Counted k) h = refl
other-closing n Over h = refl
other-closing n (Serial k) h = refl
other-closing n Finished h = refl
other-closing n (Refused k) h = refl

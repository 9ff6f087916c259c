-- Order 4, of the calls: tree to number and number to tree undo each other.
use mathlib.Core.Bool.{Bool, cond, false, true}
use mathlib.Core.List.{List, ◌++◌, ◌∷◌}
use mathlib.Core.Path.{◌∙◌, ◌≡◌, ap, refl, sym}
use Prim.Native.Nat.{◌-◌, ◌<◌, ◌≤◌, ℕ}
use native.Mathlib.Omega.{arith}
use lib.Dec.{eqb, ltb}
use lib.ListN.{length, replicate}
use borrow.Author.Tests.{eq-eqb, eqb-true, le-leb, leb-true, lt-ltb, ltb-true}
use Rattle.automata.specs.Automaton.{Automaton, accepts, run}
use Rattle.automata.specs.Ranks.{rank, unrank}
use Rattle.automata.specs.Stops.{stop_place}
use Rattle.automata.specs.Totals.{total}
use Rattle.calls.specs.Calls.{ask_refusal, asked, buffer_condition, fits_listing, number_conditions}
use Rattle.calls.specs.Calls.{padded_listing, rank_answer, ranked, refused_or, unrank_refusal, unrank_result, written}
use Rattle.calls.specs.declared.Answer.{Answer}
use Rattle.calls.specs.declared.Answer.TheVariants.{Accepted, Approved, Done, Finished, NotAt, NotPart, Over}
use Rattle.calls.specs.declared.Answer.TheVariants.{Refused, Serial, Total}
use Rattle.format.specs.Format.{AllBytes, max_listing, max_nodes, number_limit}
use Rattle.lists.specs.Conditions.{Condition}
use Rattle.table.specs.Intake.{content_conditions, length_condition, table_refusal}
use Rattle.table.specs.Layout.{decode}
use Rattle.trees.specs.Listing.{first_listing, listing, listing_conditions, listing_refusal, read_tree}
use Rattle.trees.specs.Preorder.{preorder}
use Rattle.trees.specs.Tree.{Tree}
use Rattle.automata.proofs.Legal.{accepted-legal}
use Rattle.automata.proofs.Ranks.{acyclic-rank-unrank, acyclic-unrank-accepted, acyclic-unrank-rank}
use Rattle.calls.proofs.Conditions.{ask-passed, table-from-one}
use Rattle.calls.proofs.Numbers.{passed-rank-less}
use Rattle.lists.proofs.Conditions.{AllHold, FromOne, from-one-append, hold-append, hold-first, hold-last}
use Rattle.lists.proofs.Conditions.{hold-unbroken, unbroken-hold}
use Rattle.table.proofs.Intake.{passes-canonical, unrefused-passes}
use Rattle.trees.proofs.FirstListing.{first-listing}
use Rattle.trees.proofs.Listing.{listing-read, read-listing}
use Rattle.trees.proofs.ListingRefusal.{legal-passed, listing-from-one}
use Rattle.trees.proofs.Preorder.{passed-nodes, preorder-bytes}

-- ---- what an answer says of the conditions

-- done means that nothing was refused
unrefused : (r : ℕ) → refused_or r Finished ≡ Finished → r ≡ 0
unrefused r e = go (eqb r 0) refl e
  where
    go : (t : Bool) → eqb r 0 ≡ t → cond t Finished (Refused r) ≡ Finished → r ≡ 0
    go true z e = eqb-true r 0 z
    go false z e = let y : ◌≡◌ {A = ℕ} 0 1 = cc in absurd (omega arith)

module _ (k : ℕ) (b l : List ℕ) where
  -- 18 to 20
  abbrev of_number : List Condition
  of_number = number_conditions (total (decode b)) k (unrank (decode b) k)

  all-from-one : FromOne (length_condition b ∷ buffer_condition l ∷ (content_conditions b ++ of_number))
  all-from-one =
      let table = table-from-one b in
      (table.0, (omega arith, from-one-append (content_conditions b) of_number table.1 (omega arith)))

  -- what holds if number to tree refuses nothing
  record Listed : Type 0 where
    table : table_refusal b ≡ 0
    fits : total (decode b) < number_limit
    below : k < total (decode b)
    short : length (preorder (unrank (decode b) k)) ≤ max_nodes

  unrank-listed : unrank_refusal k b l ≡ 0 → Listed
  unfolding unrank_refusal table_refusal fits_listing
  unrank-listed e =
      let h = unbroken-hold (length_condition b ∷ buffer_condition l ∷ (content_conditions b ++ of_number)) all-from-one e in
      let (c, n) = hold-append (content_conditions b) of_number h.1.1 in
      record {
        table = hold-unbroken (length_condition b ∷ content_conditions b) (h.0, c);
        fits = ltb-true (total (decode b)) number_limit n.0;
        below = ltb-true k (total (decode b)) n.1.0;
        short = leb-true (length (preorder (unrank (decode b) k))) max_nodes n.1.1.0;
      }

-- ---- number to tree, then tree to number

-- ask refuses nothing of a listing and a table that pass
both-pass : (s b : List ℕ) → AllHold (listing_conditions s) → table_refusal b ≡ 0 → ask_refusal s b ≡ 0
unfolding ask_refusal table_refusal
both-pass s b h z =
    hold-last (listing_conditions s) (length_condition b ∷ content_conditions b)
    (unbroken-hold (length_condition b ∷ content_conditions b) (table-from-one b) z)
    ∙ hold-unbroken (listing_conditions s) h

-- the number of a tree that a table accepts
rank-serial : (s b : List ℕ) (t : Tree) (k : ℕ) → ask_refusal s b ≡ 0 → read_tree s ≡ t → accepts (decode b) t ≡ true →
    total (decode b) < number_limit → rank (decode b) t ≡ k → rank_answer s b ≡ Serial k
unfolding rank_answer ranked
rank-serial s b t k z r a f e = rw (z, r, a, lt-ltb (total (decode b)) number_limit f, e)

-- the number of the tree that number to tree listed, its zeros cut off, is that number
pub unrank-then-rank : (k : ℕ) (b l : List ℕ) → AllBytes b → (unrank_result k b l).answer ≡ Finished →
    rank_answer (first_listing (unrank_result k b l).lent) b ≡ Serial k
unfolding unrank_result written padded_listing
unrank-then-rank k b l bytes e =
    let z = unrefused (unrank_refusal k b l) e in
    let L = unrank-listed k b l z in
    let p = unrefused-passes b L.table in
    let A = decode b in
    let t = unrank A k in
    let a = acyclic-unrank-accepted A p.valid.ranged p.valid.rises p.acyclic k L.below in
    let legal = accepted-legal A (passes-canonical b bytes L.table).limits.legal t a in
    let held = legal-passed t legal (omega (arith, preorder-bytes t, L.short)) in
    rw z
    (rw (first-listing t (replicate (max_listing - length (listing t)) 0))
    (rank-serial (listing t) b t k (both-pass (listing t) b held L.table) (read-listing t) a L.fits
    (acyclic-rank-unrank A p.valid.ranged p.valid.rises p.acyclic k L.below)))

-- ---- tree to number, then number to tree

-- the number in an answer
abbrev serial_of : Answer → ℕ
serial_of (Serial n) = n
serial_of Approved = 0
serial_of NotPart = 0
serial_of (NotAt k) = 0
serial_of (Accepted n m) = 0
serial_of (Done n m) = 0
serial_of (Total n) = 0
serial_of Over = 0
serial_of Finished = 0
serial_of (Refused k) = 0

-- a number is given only if nothing is refused
serial-unrefused : (r k : ℕ) (a : Answer) → refused_or r a ≡ Serial k → (r ≡ 0) × (a ≡ Serial k)
serial-unrefused r k a e = go (eqb r 0) refl e
  where
    go : (t : Bool) → eqb r 0 ≡ t → cond t a (Refused r) ≡ Serial k → (r ≡ 0) × (a ≡ Serial k)
    go true z e = (eqb-true r 0 z, e)
    go false z e = let y : ◌≡◌ {A = ℕ} 0 1 = cc in absurd (omega arith)

-- what it says of the tree and the total
record Serialled (A : Automaton) (t : Tree) (k : ℕ) : Type 0 where
  accepted : accepts A t ≡ true
  fits : total A < number_limit
  number : rank A t ≡ k

serialled : (A : Automaton) (t : Tree) (k : ℕ) → ranked A t ≡ Serial k → Serialled A t k
unfolding ranked asked
serialled A t k e = go (accepts A t) refl (ltb (total A) number_limit) refl e
  where
    no : (c : Bool) → cond c (NotAt (stop_place A t)) NotPart ≡ Serial k → ⊥
    no true e = let y : ◌≡◌ {A = ℕ} 0 1 = cc in absurd (omega arith)
    no false e = let y : ◌≡◌ {A = ℕ} 0 1 = cc in absurd (omega arith)

    go : (x : Bool) → accepts A t ≡ x → (y : Bool) → ltb (total A) number_limit ≡ y →
        cond x (cond y (Serial (rank A t)) (Refused 18)) (cond x Approved (cond (eqb (run A t) 0) (NotAt (stop_place
        A t)) NotPart)) ≡ Serial k → Serialled A t k
    go true a true f e =
        record { accepted = a; fits = ltb-true (total A) number_limit f; number = ap serial_of e }
    go true a false f e = let y : ◌≡◌ {A = ℕ} 0 1 = cc in absurd (omega arith)
    go false a y f e = absurd (no (eqb (run A t) 0) e)

-- the tree of a number that passes every condition is listed
finished : (k : ℕ) (b l : List ℕ) (t : Tree) (s : List ℕ) → unrank (decode b) k ≡ t → listing t ≡ s →
    table_refusal b ≡ 0 → length l ≡ max_listing → total (decode b) < number_limit → k < total (decode b) →
    length (preorder t) ≤ max_nodes →
    unrank_result k b l ≡ record { answer = Finished; lent = s ++ replicate (max_listing - length s) 0 }
unfolding unrank_result unrank_refusal written padded_listing fits_listing table_refusal
finished k b l t s back listed z room fits below short =
    let h = unbroken-hold (length_condition b ∷ content_conditions b) (table-from-one b) z in
    rw (
      h.0,
      eq-eqb (length l) max_listing room,
      hold-first (content_conditions b) (of_number k b l) h.1,
      lt-ltb (total (decode b)) number_limit fits,
      lt-ltb k (total (decode b)) below,
      back,
      le-leb (length (preorder t)) max_nodes short,
      listed,
    )

-- the number that tree to number gave has the listing that it was given for, and zeros after it
pub rank-then-unrank : (s b : List ℕ) (k : ℕ) → AllBytes s → rank_answer s b ≡ Serial k → (l : List ℕ) →
    length l ≡ max_listing →
    unrank_result k b l ≡ record { answer = Finished; lent = s ++ replicate (max_listing - length s) 0 }
unfolding rank_answer listing_conditions listing_refusal
rank-then-unrank s b k bytes e l room =
    let (z, r) = serial-unrefused (ask_refusal s b) k (ranked (decode b) (read_tree s)) e in
    let (passed, table) = ask-passed s b z in
    let A = decode b in
    let S = serialled A (read_tree s) k r in
    let p = unrefused-passes b table in
    let back : unrank A k ≡ read_tree s = ap (unrank A) (sym S.number) ∙
    acyclic-unrank-rank A p.valid.ranged p.valid.rises p.acyclic (read_tree s) S.accepted in
    let below : k < total A = omega (arith, passed-rank-less b table (read_tree s) S.accepted, S.number) in
    let held = unbroken-hold (listing_conditions s) (listing-from-one s) passed in
    finished k b l (read_tree s) s back (listing-read s bytes held.1.1.1.0) table room S.fits below
    (passed-nodes s passed)

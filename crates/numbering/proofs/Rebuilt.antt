-- From the parts to the whole: transitions that were renumbered, sorted, checked and written are the automaton's
-- table.
use mathlib.Core.Bool.{Bool, cond, false, true}
use mathlib.Core.List.{List, map}
use mathlib.Core.Path.{◌∙◌, ◌≡◌, ap, ap₂, fun_ext, refl, subst, sym}
use Prim.Native.Nat.{◌%◌, ◌*◌, ◌+◌, ◌-◌, ◌/◌, ◌<◌, ◌≤◌, suc, zero, ℕ}
use native.Mathlib.Omega.{arith}
use lib.Dec.{eqb, leb, ltb}
use lib.ListN.{get_or-eq_default, get_or, length, length-map, take}
use lib.Seq.{get_or-drop, get_or-take, length-take-le}
use borrow.Author.Tests.{leb-false, leb-true, ltb-false, ltb-true}
use Rattle.automata.specs.Automaton.{Automaton, Transition, accepting}
use Rattle.automata.specs.Renumber.{number_of, renumber, renumber_by, renumbered}
use Rattle.format.specs.Format.{AllBytes, byte_values, head_bytes, max_states, transition_bytes}
use Rattle.lists.specs.Closure.{elem}
use Rattle.lists.specs.Positions.{up_from}
use Rattle.lists.specs.Tests.{◌∈◌, bit, every}
use Rattle.minimize.specs.Renaming.{name_in}
use Rattle.minimize.specs.Written.{TableWritten, class_byte}
use Rattle.sorted.specs.Sorted.{SameBytes}
use Rattle.table.specs.Layout.{arg_of, blank, body, body_byte, class_at, encode, transition_at, transition_byte}
use Rattle.packed.specs.Heads.{HoldsPacked, head_arity, head_out, nth_packed, packed_in, packed_transition, place_of}
use Rattle.numbering.specs.Picked.{Picked}
use Rattle.numbering.specs.Steps.{Numbered, Renumbered, Settled, Sound}
use Rattle.numbering.specs.Tables.{EntryAt, TablePut}
use Rattle.automata.proofs.Numbers.{number-length, number-pos}
use Rattle.automata.proofs.RuledOrder.{ruled-renumbered}
use Rattle.fields.proofs.Entries.{map-up_from}
use Rattle.format.proofs.Bytes.{drop-bytes}
use Rattle.lists.proofs.Intervals.{get_d_map, in-tabulated, tabulated-in}
use Rattle.lists.proofs.Tests.{in-every, in_map, map-in}
use Rattle.minimize.proofs.Tables.{table-encodes}
use Rattle.table.proofs.Laid.{LaidTransition}
use Rattle.table.proofs.RoundTrip.{blank-byte, transition-byte}
use Rattle.numbering.proofs.Entries.{in-packed_in, packed_in-beyond, packed_in-in, packed_in-length, packed_in-nth}
use Rattle.numbering.proofs.Numbers.{number-elem}
use Rattle.numbering.proofs.Tables.{entry-same}

-- numbers are bytes
pub numbered-bytes : {order numbers : List ℕ} {m : ℕ} → Numbered order m numbers → length order ≡ byte_values →
    m ≤ max_states → AllBytes numbers
numbered-bytes {order} {numbers} {m} numbered long few q =
    omega (
      arith,
      numbered.each.number q,
      number-length (take m order) q,
      length-take-le m order (omega arith),
    )

-- transitions picked from transitions that fit a table fit a table
pub settled-holds : {numbers hs us ts vs xs ys : List ℕ} {n : ℕ} → Renumbered numbers hs us ts vs n →
    Picked ts vs n xs ys n → HoldsPacked xs ys n
settled-holds given taken = record {
  room = taken.room;
  few = taken.few;
  each = λ i h. let (j, l, p, q) = taken.each i h in rw (p, q) (given.holds.each j l);
}

-- ---- what the check shows

module _ {hs us order numbers ts vs xs ys : List ℕ} {n m : ℕ} (long : length order ≡ byte_values) (few : m ≤ max_states)
    (numbered : Numbered order m numbers) (given : Renumbered numbers hs us ts vs n) (taken : Picked ts vs n xs ys n)
    (sound : Sound xs ys n m) where
  -- the number of a name is its place in the order
  has-name : (q : ℕ) → 1 ≤ name_in numbers q → elem eqb q (take m order) ≡ true
  has-name q h = number-elem (take m order) q (omega (arith, numbered.each.number q))

  args-named : (τ : Transition) → τ ∈ packed_in hs us n → every (λ q. elem eqb q (take m order)) τ.args ≡ true
  args-named τ i =
      let (j, h, e) = packed_in-in hs us n τ i in
      subst (λ (σ : Transition). every (λ q. elem eqb q (take m order)) σ.args ≡ true) (sym e)
      (in-every (λ q. elem eqb q (take m order)) (nth_packed hs us j).args (λ x k. named j h x k))
    where
      named : (j : ℕ) → j < n → (x : ℕ) → x ∈ (nth_packed hs us j).args → elem eqb x (take m order) ≡ true
      named j h x k =
          let (p, _, l, e) = tabulated-in (place_of (get_or us j 0)) 0 (head_arity (get_or hs j 0)) x k in
          rw e (has-name (place_of (get_or us j 0) p) ((given.has j h).args p (omega arith)))

  out-named : (τ : Transition) → τ ∈ packed_in hs us n → elem eqb τ.out (take m order) ≡ true
  out-named τ i =
      let (j, h, e) = packed_in-in hs us n τ i in
      subst (λ (σ : Transition). elem eqb σ.out (take m order) ≡ true) (sym e)
      (has-name (head_out (get_or hs j 0)) (given.has j h).out)

  below : (τ : Transition) → τ ∈ packed_in xs ys n → τ ∈ map (renumber (take m order)) (packed_in hs us n)
  below τ i =
      let (j, h, e) = packed_in-in xs ys n τ i in
      let (k, l, p, q) = taken.each j h in
      let same = e ∙ ap₂ packed_transition p q ∙ given.each k l
      ∙ ap (λ (ν : ℕ → ℕ). renumber_by ν (nth_packed hs us k)) (fun_ext numbered.each.number) in
      subst (λ (σ : Transition). σ ∈ map (renumber (take m order)) (packed_in hs us n)) (sym same)
      (in_map (renumber (take m order)) (packed_in hs us n) (nth_packed hs us k) (in-packed_in hs us n k l))

  pub settled : Settled hs us n order m xs ys
  settled = record {
    holds = settled-holds given taken;
    names = numbered.small;
    ruled = record {
      args = args-named;
      out = out-named;
      rises = sound.rises;
      below = below;
      size = packed_in-length xs ys n ∙ sym (packed_in-length hs us n);
      ruled = λ k h. sound.ruled k (omega (arith, length-take-le m order (omega arith)));
    };
  }

-- ---- the table

module _ (classes : List ℕ) {hs us order xs ys t : List ℕ} {n m : ℕ} (long : length order ≡ byte_values) (few : m ≤ max_states)
    (is : Settled hs us n order m xs ys) (put : TablePut t m (class_byte classes order m) xs ys n)
    (known : AllBytes t) where
  A : Automaton
  A = record { classes = map (class_at classes) (take m order); transitions = packed_in xs ys n }

  length-order : length (take m order) ≡ m
  length-order = length-take-le m order (omega arith)

  -- the states of a transition are numbers of the order
  Within : Transition → Type 0
  Within τ = ((q : ℕ) → q ∈ τ.args → q ≤ m) × (1 ≤ τ.out) × (τ.out ≤ m)

  within : (i : ℕ) → i < n → Within (nth_packed xs ys i)
  unfolding Within
  within i h =
      let (σ, s, e) = map-in (renumber (take m order)) (packed_in hs us n) (nth_packed xs ys i)
      (is.ruled.below (nth_packed xs ys i) (in-packed_in xs ys n i h)) in
      subst Within (sym e) (
        λ q j. let (p, _, d) = map-in (number_of (take m order)) σ.args q j in
            omega (arith, number-length (take m order) p, length-order),
        number-pos (take m order) σ.out (is.ruled.out σ s),
        omega (arith, number-length (take m order) σ.out, length-order),
      )

  entry : (i : ℕ) → i < n → EntryAt (body t) (transition_bytes * i) (get_or xs i 0) (get_or ys i 0)
  entry i h = entry-same same (put.each i h)
    where
      same : SameBytes (body t) (transition_bytes * i) t (head_bytes + transition_bytes * i)
      same = record {
        byte = λ k l.
            let e : head_bytes + (transition_bytes * i + k) ≡ head_bytes + transition_bytes * i + k = omega arith in
            get_or-drop head_bytes t (transition_bytes * i + k) 0 ∙ ap (λ j. get_or t j 0) e;
      }

  laid : (i : ℕ) → i < n → LaidTransition (body t) m (transition_bytes * i)
  unfolding Within
  laid i h =
      let e = entry i h in
      let p = is.holds.each i h in
      let w = within i h in record {
        label = omega (arith, e.label, p.label-some);
        arity = omega (arith, e.arity, p.narrow);
        args = λ k l.
            let j : k < head_arity (get_or xs i 0) = omega (arith, e.arity) in
            let v = e.arg k (omega (arith, p.narrow)) in (
              omega (arith, v, p.some k j),
              omega (
                arith,
                v,
                w.0 (place_of (get_or ys i 0) k)
                    (in-tabulated (place_of (get_or ys i 0)) 0 (head_arity (get_or xs i 0)) k (omega arith) (omega arith)),
              ),
            );
        rest = λ k l j. e.arg k j ∙ p.rest k (omega (arith, e.arity)) j;
        out = (omega (arith, e.out, w.1), omega (arith, e.out, w.2));
      }

  transition : (i : ℕ) → i < n → transition_at (body t) (transition_bytes * i) ≡ nth_packed xs ys i
  transition i h =
      let e = entry i h in
      let args = ap (λ k. map (arg_of (body t) (transition_bytes * i)) (up_from 0 k)) e.arity
      ∙ map-up_from (arg_of (body t) (transition_bytes * i)) (place_of (get_or ys i 0)) 0 (head_arity (get_or xs i 0))
      (λ k _ l. e.arg k (omega (arith, (is.holds.each i h).narrow))) in
      λ j. record { label = e.label j; args = args j; out = e.out j }

  bytes : (j : ℕ) → get_or (body t) j 0 ≡ body_byte (packed_in xs ys n) j
  bytes j = go (ltb (j / transition_bytes) n) refl
    where
      whole : transition_bytes * (j / transition_bytes) + j % transition_bytes ≡ j
      whole = omega arith

      go : (c : Bool) → ltb (j / transition_bytes) n ≡ c → get_or (body t) j 0 ≡ body_byte (packed_in xs ys n) j
      go true e =
          let h = ltb-true (j / transition_bytes) n e in
          sym (ap (λ (τ : Transition). transition_byte τ (j % transition_bytes))
          (packed_in-nth xs ys n (j / transition_bytes) blank h ∙ sym (transition (j / transition_bytes) h))
          ∙ transition-byte (body t) m (transition_bytes * (j / transition_bytes)) (drop-bytes head_bytes t known)
          (laid (j / transition_bytes) h) (j % transition_bytes) (omega arith)
          ∙ ap (λ (x : ℕ). get_or (body t) x 0) whole)
      go false e =
          let h = ltb-false (j / transition_bytes) n e in
          get_or-drop head_bytes t j 0 ∙ put.zeros (head_bytes + j) (omega arith)
          ∙ sym (ap (λ (τ : Transition). transition_byte τ (j % transition_bytes))
          (packed_in-beyond xs ys n (j / transition_bytes) blank h) ∙ blank-byte (j % transition_bytes))

  class : (q : ℕ) → 1 ≤ q → q ≤ max_states → class_byte classes order m q ≡ bit (accepting A q)
  unfolding class_byte A
  class zero h l = absurd (omega arith)
  class (suc q) h l = go (leb (suc q) m) refl
    where
      back : suc q - 1 ≡ q
      back = omega arith

      go : (b : Bool) → leb (suc q) m ≡ b →
          cond b (bit (class_at classes (name_in order (suc q - 1)))) 0 ≡
          bit (get_or (map (class_at classes) (take m order)) q false)
      go true e =
          let j = leb-true (suc q) m e in
          ap (λ i. bit (class_at classes (name_in order i))) back
          ∙ ap bit (sym (get_d_map (class_at classes) (take m order) q 0 false (omega (arith, length-order))
          ∙ ap (class_at classes) (get_or-take m order q 0 (omega arith))))
      go false e =
          let j = leb-false (suc q) m e in
          ap bit (sym (get_or-eq_default (map (class_at classes) (take m order)) false
          (omega (arith, length-map (take m order) (class_at classes), length-order))))

  written : TableWritten t m (class_byte classes order m) n (body t)
  written = record {
    size = put.size;
    states = put.states;
    class = put.class;
    high = put.high;
    low = put.low;
    body = λ i h l.
        let e : i ≡ head_bytes + (i - head_bytes) = omega arith in
        ap (λ j. get_or t j 0) e ∙ sym (get_or-drop head_bytes t (i - head_bytes) 0);
  }

  pub rebuilt : t ≡ encode (renumbered (class_at classes) (packed_in hs us n))
  unfolding A
  rebuilt =
      table-encodes A written (sym (length-map (take m order) (class_at classes) ∙ length-order))
      (sym (packed_in-length xs ys n)) class bytes
      ∙ ap encode (ruled-renumbered is.ruled (class_at classes))

-- An automaton within the limits is what its table holds, and a table in the layout is that of the automaton it
-- holds.
use mathlib.Core.Bool.{Bool, false, true}
use mathlib.Core.List.{List, [], ◌∷◌, map}
use mathlib.Core.Path.{◌∙◌, ◌≡◌, ap, refl, sym}
use Prim.Native.Nat.{◌%◌, ◌*◌, ◌+◌, ◌-◌, ◌/◌, ◌<◌, ◌≤◌, suc, zero, ℕ}
use native.Mathlib.Omega.{arith}
use lib.Dec.{eqb, leb, ltb}
use lib.ListN.{get_or, length}
use lib.Seq.{ext_get_or, get_or-drop}
use borrow.Author.Tests.{eqb-false, eqb-true, leb-false, leb-true, ltb-false, ltb-true}
use Rattle.lists.specs.Tests.{bit}
use Rattle.automata.specs.Automaton.{Automaton, Transition, accepting}
use Rattle.format.specs.Format.{AllBytes, args_at, count_at, head_bytes, label_bytes, label_written, max_arity}
use Rattle.format.specs.Format.{max_states, max_transitions, out_at, table_bytes, transition_bytes}
use Rattle.lists.specs.Positions.{up_from}
use Rattle.table.specs.Intake.{WithinLimits}
use Rattle.table.specs.Layout.{arg_of, arity_of, blank, body, body_byte, byte_at, class_at, decode, encode}
use Rattle.table.specs.Layout.{layout_fits, nth_transition, state_count, transition_at, transition_byte}
use Rattle.table.specs.Layout.{transition_count, transitions_in}
use Rattle.trees.specs.Legal.{LegalNode}
use Rattle.format.proofs.Bytes.{drop-bytes}
use Rattle.format.proofs.Labels.{written_from}
use Rattle.lists.proofs.Intervals.{get_d-in, get_d-tabulated, get_d-tabulated-beyond, length-tabulated, tabulated}
use Rattle.table.proofs.Bytes.{cond-is, encode-arg, encode-arity, encode-byte, encode-class, encode-count}
use Rattle.table.proofs.Bytes.{encode-label, encode-length, encode-out, encode-states}
use Rattle.table.proofs.Decoded.{decoded-beyond, decoded-class, decoded-class-beyond, decoded-classes}
use Rattle.table.proofs.Decoded.{decoded-count, decoded-nth, decoded-states, decoded-transitions}
use Rattle.table.proofs.Decoded.{transitions_in-is}
use Rattle.table.proofs.Laid.{Laid, LaidTransition, layout-laid}

-- ---- an encoded automaton, read back

bit_test : (t : Bool) → eqb (bit t) 1 ≡ t
bit_test true = refl
bit_test false = refl

module _ (A : Automaton) (within : WithinLimits A) where
  pub nth-legal : (i : ℕ) → i < length A.transitions →
      LegalNode (get_or A.transitions i blank).label (length (get_or A.transitions i blank).args)
  nth-legal i h = within.legal (get_or A.transitions i blank) (get_d-in A.transitions i blank h)

  pub encode-nth : (i : ℕ) → i < length A.transitions →
      nth_transition (body (encode A)) i ≡ get_or A.transitions i blank
  encode-nth i h =
      let m : i < max_transitions = omega (arith, within.transitions) in
      let τ = get_or A.transitions i blank in
      let s = body (encode A) in
      let l = encode-label A i m in
      let o = encode-out A i m in
      let a : map (arg_of s (transition_bytes * i)) (up_from 0 (arity_of s (transition_bytes * i))) ≡ τ.args =
      tabulated (arg_of s (transition_bytes * i)) 0 (arity_of s (transition_bytes * i)) 0 τ.args
      (sym (encode-arity A i m))
      (λ k j.
      let e : 0 + k ≡ k = omega arith in
      ap (arg_of s (transition_bytes * i)) e
      ∙ encode-arg A i m k (omega (arith, encode-arity A i m, (nth-legal i h).arity))) in
      λ k. record { label = l k; args = a k; out = o k }

  encode-classes : map (class_at (encode A)) (up_from 1 (state_count (encode A))) ≡ A.classes
  encode-classes =
      tabulated (class_at (encode A)) 1 (state_count (encode A)) false A.classes (sym (encode-states A))
      (λ q h.
      let e : 1 + q ≡ suc q = omega arith in
      ap (class_at (encode A)) e
      ∙ ap (λ (x : ℕ). eqb x 1)
      (encode-class A (suc q) (omega arith) (omega (arith, encode-states A, within.states)))
      ∙ bit_test (get_or A.classes q false))

  encode-transitions : transitions_in (body (encode A)) (transition_count (encode A)) ≡ A.transitions
  encode-transitions =
      transitions_in-is (body (encode A)) (transition_count (encode A)) A.transitions blank (sym (encode-count A))
      (λ i h. encode-nth i (omega (arith, encode-count A)))

  pub decode-encode : decode (encode A) ≡ A
  decode-encode =
      let c = decoded-classes (encode A) ∙ encode-classes in
      let t = decoded-transitions (encode A) ∙ encode-transitions in
      λ i. record { classes = c i; transitions = t i }

-- ---- a table in the layout, written back

bit_byte : (x : ℕ) → x ≤ 1 → bit (eqb x 1) ≡ x
bit_byte zero h = refl
bit_byte (suc zero) h = refl
bit_byte (suc (suc x)) h = absurd (omega arith)

blank-label : (r : ℕ) → get_or (label_written blank.label) r 0 ≡ 0
blank-label zero = refl
blank-label (suc zero) = refl
blank-label (suc (suc r)) = refl

pub blank-byte : (r : ℕ) → transition_byte blank r ≡ 0
blank-byte r =
    cond-is (ltb r label_bytes) (λ _. blank-label r) (λ _. cond-is (ltb r args_at) (λ _. refl)
    (λ _. cond-is (ltb r out_at) (λ _. refl) (λ _. refl)))

-- byte r of a transition is the byte that it was read from
pub transition-byte : (s : List ℕ) (n at : ℕ) → AllBytes s → LaidTransition s n at → (r : ℕ) → r < transition_bytes →
    transition_byte (transition_at s at) r ≡ get_or s (at + r) 0
transition-byte s n at bytes l r h =
    cond-is (ltb r label_bytes) (λ e.
    ap (λ w. get_or w r 0) (written_from (get_or s at 0) (get_or s (at + 1) 0) (bytes (at + 1)))
    ∙ label r (ltb-true r label_bytes e))
    (λ e. cond-is (ltb r args_at)
    (λ f. length-tabulated (arg_of s at) 0 (arity_of s at)
    ∙ same (at + label_bytes) (omega (arith, ltb-false r label_bytes e, ltb-true r args_at f)))
    (λ f. cond-is (ltb r out_at)
    (λ g. arg (r - args_at) (ltb (r - args_at) (arity_of s at)) refl (omega (arith, ltb-true r out_at g))
    ∙ same (at + args_at + (r - args_at)) (omega (arith, ltb-false r args_at f)))
    (λ g. same (at + out_at) (omega (arith, ltb-false r out_at g)))))
  where
    same : (x : ℕ) → x ≡ at + r → get_or s x 0 ≡ get_or s (at + r) 0
    same x e = ap (λ (y : ℕ). get_or s y 0) e

    label : (j : ℕ) → j < label_bytes → get_or (get_or s at 0 ∷ get_or s (at + 1) 0 ∷ []) j 0 ≡ get_or s (at + j) 0
    label zero m = let z : at + 0 ≡ at = omega arith in rw z
    label (suc zero) m = refl
    label (suc (suc j)) m = absurd (omega arith)

    arg : (k : ℕ) (t : Bool) → ltb k (arity_of s at) ≡ t → k < max_arity →
        get_or (map (arg_of s at) (up_from 0 (arity_of s at))) k 0 ≡ arg_of s at k
    arg k true e m =
        let d : 0 + k ≡ k = omega arith in
        get_d-tabulated (arg_of s at) 0 (arity_of s at) k 0 (ltb-true k (arity_of s at) e) ∙ ap (arg_of s at) d
    arg k false e m =
        let d = ltb-false k (arity_of s at) e in
        get_d-tabulated-beyond (arg_of s at) 0 (arity_of s at) k 0 d ∙ sym (l.rest k d m)

module _ (b : List ℕ) (bytes : AllBytes b) (long : length b ≡ table_bytes) (laid : Laid b) where
  byte-class : (q : ℕ) → 1 ≤ q → q ≤ max_states → bit (accepting (decode b) q) ≡ get_or b q 0
  byte-class q h l = go (leb q (state_count b)) refl
    where
      go : (t : Bool) → leb q (state_count b) ≡ t → bit (accepting (decode b) q) ≡ get_or b q 0
      go true e =
          let k = leb-true q (state_count b) e in
          ap bit (decoded-class b q h k) ∙ bit_byte (get_or b q 0) (laid.classes q h k)
      go false e =
          let k = leb-false q (state_count b) e in
          ap bit (decoded-class-beyond b q k) ∙ sym (laid.classes-rest q k l)

  byte-body : (j : ℕ) → j < transition_bytes * max_transitions → body_byte (decode b).transitions j ≡ get_or (body b) j 0
  byte-body j h = go (ltb (j / transition_bytes) (transition_count b)) refl
    where
      go : (t : Bool) → ltb (j / transition_bytes) (transition_count b) ≡ t →
          body_byte (decode b).transitions j ≡ get_or (body b) j 0
      go true e =
          let k = ltb-true (j / transition_bytes) (transition_count b) e in
          let d : transition_bytes * (j / transition_bytes) + j % transition_bytes ≡ j = omega arith in
          ap (λ (τ : Transition). transition_byte τ (j % transition_bytes))
          (decoded-nth b (j / transition_bytes) blank k)
          ∙ transition-byte (body b) (state_count b) (transition_bytes * (j / transition_bytes))
          (drop-bytes head_bytes b bytes) (laid.transitions (j / transition_bytes) k) (j % transition_bytes) (omega arith)
          ∙ ap (λ (x : ℕ). get_or (body b) x 0) d
      go false e =
          let k = ltb-false (j / transition_bytes) (transition_count b) e in
          ap (λ (τ : Transition). transition_byte τ (j % transition_bytes))
          (decoded-beyond b (j / transition_bytes) blank k) ∙ blank-byte (j % transition_bytes)
          ∙ sym (laid.zeros j (omega arith) h)

  byte_at-decoded : (i : ℕ) → i < table_bytes → byte_at (decode b) i ≡ get_or b i 0
  byte_at-decoded i h =
      cond-is (eqb i 0) (λ e. decoded-states b ∙ same 0 (sym (eqb-true i 0 e)))
      (λ e. cond-is (ltb i count_at)
      (λ f. byte-class i (omega (arith, eqb-false i 0 e)) (omega (arith, ltb-true i count_at f)))
      (λ f. cond-is (eqb i count_at) (λ g. high ∙ same count_at (sym (eqb-true i count_at g)))
      (λ g. cond-is (ltb i head_bytes)
      (λ k. low
      ∙ same (count_at + 1) (omega (arith, ltb-false i count_at f, eqb-false i count_at g, ltb-true i head_bytes k)))
      (λ k. byte-body (i - head_bytes) (omega arith) ∙ get_or-drop head_bytes b (i - head_bytes) 0
      ∙ same (head_bytes + (i - head_bytes)) (omega (arith, ltb-false i head_bytes k))))))
    where
      same : (x : ℕ) → x ≡ i → get_or b x 0 ≡ get_or b i 0
      same x e = ap (λ (y : ℕ). get_or b y 0) e

      high : length (decode b).transitions / 256 ≡ get_or b count_at 0
      high = omega (arith, decoded-count b, bytes (count_at + 1))

      low : length (decode b).transitions % 256 ≡ get_or b (count_at + 1) 0
      low = omega (arith, decoded-count b, bytes (count_at + 1))

  pub laid-encode : encode (decode b) ≡ b
  laid-encode =
      ext_get_or 0 (encode (decode b)) b (encode-length (decode b) ∙ sym long)
      (λ i h. let k : i < table_bytes = omega (arith, encode-length (decode b)) in
      encode-byte (decode b) i k ∙ byte_at-decoded i k)

pub encode-decode : (b : List ℕ) → AllBytes b → length b ≡ table_bytes → layout_fits b ≡ true → encode (decode b) ≡ b
encode-decode b bytes long fits = laid-encode b bytes long (layout-laid b fits)

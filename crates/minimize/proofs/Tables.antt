-- The bytes of a table written one after another: classes, body, and the whole.
use mathlib.Core.List.{List, ◌++◌}
use mathlib.Core.Path.{◌∙◌, ◌≡◌, ap, refl, sym}
use Prim.Native.Nat.{◌%◌, ◌+◌, ◌-◌, ◌/◌, ◌<◌, ◌≤◌, ℕ}
use native.Mathlib.Omega.{arith}
use lib.Dec.{eqb, ltb}
use lib.ListN.{get_or, get_or-append, length, length-set, set, take}
use lib.Seq.{ext_get_or, get_or-append_right, get_or-set_other, get_or-set_same, get_or-take, length-take-le}
use borrow.Author.Tests.{eq-eqb, eqb-false, eqb-true, le-leb, lt-leb, ltb-false, ltb-true, ne_eqb}
use Rattle.lists.specs.Tests.{bit}
use Rattle.automata.specs.Automaton.{Automaton, accepting, states}
use Rattle.format.specs.Format.{count_at, head_bytes, max_states, table_bytes}
use Rattle.minimize.specs.Renaming.{name_in}
use Rattle.minimize.specs.Written.{BodyWritten, ClassesWritten, TableWritten, class_byte, room_bytes}
use Rattle.table.specs.Layout.{body_byte, byte_at, encode}
use Rattle.table.proofs.Bytes.{cond-is, encode-byte, encode-length}
use Rattle.lists.proofs.Filling.{set-next-from}

-- ---- classes

module _ (classes order : List ℕ) (k q : ℕ) where
  pub class-none : k < q → 0 ≡ class_byte classes order k q
  unfolding class_byte
  class-none h = rw (lt-leb q k h)

  module _ (h : q ≤ k) {p : ℕ} (e : p ≡ name_in order (q - 1)) where
    pub class-accepting : get_or classes p 0 ≡ 1 → 1 ≡ class_byte classes order k q
    unfolding class_byte
    class-accepting c =
        rw (le-leb q k h, ← e) (ap bit (sym (eq-eqb (get_or classes p 0) 1 c)))

    pub class-rejecting : (get_or classes p 0 ≡ 1 → ⊥) → 0 ≡ class_byte classes order k q
    unfolding class_byte
    class-rejecting c =
        rw (le-leb q k h, ← e) (ap bit (sym (ne_eqb (get_or classes p 0) 1 c)))

-- classes written up to state q
pub record ClassesBelow (b t : List ℕ) (f : ℕ → ℕ) (q : ℕ) : Type 0 where
  pub some-state : 1 ≤ q
  pub size : length t ≡ length b
  pub class : (p : ℕ) → 1 ≤ p → p < q → get_or t p 0 ≡ f p
  pub first : get_or t 0 0 ≡ get_or b 0 0
  pub beyond : (i : ℕ) → q ≤ i → get_or t i 0 ≡ get_or b i 0

pub classes-start : {b : List ℕ} {f : ℕ → ℕ} → ClassesBelow b b f 1
classes-start = record {
  some-state = omega arith;
  size = refl;
  class = λ p h l. absurd (omega arith);
  first = refl;
  beyond = λ i h. refl;
}

module _ {b t : List ℕ} {f : ℕ → ℕ} {q : ℕ} (inv : ClassesBelow b t f q) where
  pub classes-next : q < length b → {x : ℕ} → x ≡ f q → ClassesBelow b (set t q x) f (q + 1)
  classes-next h {x} e = record {
    some-state = omega arith;
    size = length-set t q x ∙ inv.size;
    class = set-next-from (λ y. y) f 1 t q x (omega (arith, inv.size)) e inv.class;
    first = get_or-set_other t q 0 x 0 (λ z. omega (arith, inv.some-state)) ∙ inv.first;
    beyond = λ i l. get_or-set_other t q i x 0 (λ z. omega arith) ∙ inv.beyond i (omega arith);
  }

  pub classes-end : max_states < q → q ≤ max_states + 1 → ClassesWritten b t f
  classes-end h most = record {
    size = inv.size;
    class = λ p l m. inv.class p l (omega arith);
    first = inv.first;
    beyond = λ i l. inv.beyond i (omega arith);
  }

-- ---- body

-- the first h bytes of b, then n of made
module _ (h n : ℕ) (b made rest : List ℕ) (i : ℕ) (room : h ≤ length b) where
  joined-head : i < h → get_or (take h b ++ (take n made ++ rest)) i 0 ≡ get_or b i 0
  joined-head l =
      get_or-append (take h b) (take n made ++ rest) 0 i (omega (arith, length-take-le h b room)) ∙ get_or-take h b i 0 l

  joined-body : n ≤ length made → h ≤ i → i < h + n →
      get_or (take h b ++ (take n made ++ rest)) i 0 ≡ get_or made (i - h) 0
  joined-body few l m =
      get_or-append_right (take h b) (take n made ++ rest) i 0 (omega (arith, length-take-le h b room)) ∙
      ap (λ k. get_or (take n made ++ rest) (i - k) 0) (length-take-le h b room) ∙
      get_or-append (take n made) rest 0 (i - h) (omega (arith, length-take-le n made few)) ∙
      get_or-take n made (i - h) 0 (omega arith)

pub body-written : (b made rest : List ℕ) → length b ≡ table_bytes → length made ≡ room_bytes → {xs t : List ℕ} →
    xs ≡ take (table_bytes - head_bytes) made → t ≡ take head_bytes b ++ (xs ++ rest) → length t ≡ length b →
    BodyWritten b t made
body-written b made rest size few {xs} {t} e d long =
    let n = table_bytes - head_bytes in
    let whole : t ≡ take head_bytes b ++ (take n made ++ rest) =
    d ∙ ap (λ ys. take head_bytes b ++ (ys ++ rest)) e in
    record {
      size = long;
      head = λ i h. ap (λ ys. get_or ys i 0) whole ∙ joined-head head_bytes n b made rest i (omega arith) h;
      body = λ i h l. ap (λ ys. get_or ys i 0) whole ∙
          joined-body head_bytes n b made rest i (omega arith) (omega arith) h (omega arith);
    }

-- ---- the whole table

pub table-written : (b t : List ℕ) (n c high low : ℕ) {u made : List ℕ} {f : ℕ → ℕ} → length b ≡ table_bytes →
    ClassesWritten (set b 0 n) t f → high ≡ c / 256 → low ≡ c % 256 →
    BodyWritten (set (set t count_at high) (count_at + 1) low) u made → TableWritten u n f c made
table-written b t n c high low room classes d e rest = record {
  size = rest.size ∙ length₂ ∙ length₁;
  states = rest.head 0 (omega arith) ∙
      get_or-set_other (set t count_at high) (count_at + 1) 0 low 0 (λ z. omega arith) ∙
      get_or-set_other t count_at 0 high 0 (λ z. omega arith) ∙ classes.first ∙
      get_or-set_same b 0 n 0 (omega arith);
  class = λ q h l. rest.head q (omega arith) ∙
      get_or-set_other (set t count_at high) (count_at + 1) q low 0 (λ z. omega arith) ∙
      get_or-set_other t count_at q high 0 (λ z. omega arith) ∙ classes.class q h l;
  high = rest.head count_at (omega arith) ∙
      get_or-set_other (set t count_at high) (count_at + 1) count_at low 0 (λ z. omega arith) ∙
      get_or-set_same t count_at high 0 (omega (arith, length₁)) ∙ d;
  low = rest.head (count_at + 1) (omega arith) ∙
      get_or-set_same (set t count_at high) (count_at + 1) low 0
      (omega (arith, length-set t count_at high, length₁)) ∙ e;
  body = rest.body;
}
  where
    length₁ : length t ≡ table_bytes
    length₁ = classes.size ∙ length-set b 0 n ∙ room

    length₂ : length (set (set t count_at high) (count_at + 1) low) ≡ length t
    length₂ = length-set (set t count_at high) (count_at + 1) low ∙ length-set t count_at high

-- a table so written is that of an automaton with these states, classes and transitions
pub table-encodes : {t made : List ℕ} {n c : ℕ} {f : ℕ → ℕ} (A : Automaton) → TableWritten t n f c made →
    n ≡ states A → c ≡ length A.transitions →
    ((q : ℕ) → 1 ≤ q → q ≤ max_states → f q ≡ bit (accepting A q)) →
    ((j : ℕ) → get_or made j 0 ≡ body_byte A.transitions j) → t ≡ encode A
table-encodes {t} {made} {n} {c} {f} A w en ec class body =
    ext_get_or 0 t (encode A) (w.size ∙ sym (encode-length A))
    (λ i h. let l : i < table_bytes = omega (arith, w.size) in sym (encode-byte A i l ∙ byte i l))
  where
    same : (j i : ℕ) → j ≡ i → get_or t j 0 ≡ get_or t i 0
    same j i e = ap (λ x. get_or t x 0) e

    byte : (i : ℕ) → i < table_bytes → byte_at A i ≡ get_or t i 0
    byte i h =
        cond-is (eqb i 0) (λ z. sym (w.states ∙ en) ∙ same 0 i (sym (eqb-true i 0 z)))
        (λ z. let some-state = eqb-false i 0 z in cond-is (ltb i count_at)
        (λ y. let l = ltb-true i count_at y in
        sym (w.class i (omega arith) (omega arith) ∙ class i (omega arith) (omega arith)))
        (λ y. let l = ltb-false i count_at y in cond-is (eqb i count_at)
        (λ x. ap (λ m. m / 256) (sym ec) ∙ sym w.high ∙ same count_at i (sym (eqb-true i count_at x)))
        (λ x. let m = eqb-false i count_at x in cond-is (ltb i head_bytes)
        (λ u. ap (λ k. k % 256) (sym ec) ∙ sym w.low ∙
        same (count_at + 1) i (omega (arith, ltb-true i head_bytes u)))
        (λ u. sym (w.body i (ltb-false i head_bytes u) h ∙ body (i - head_bytes))))))

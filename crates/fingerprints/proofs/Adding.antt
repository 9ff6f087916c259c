-- What the loops that fill a table of fingerprints know: what is there and what is to come make the whole.
use Rattle.std.proofs.Common.{◌≡◌, ℕ, zero, suc, ◌+◌, ◌-◌, ◌*◌, ◌%◌, ◌^◌, ◌<◌, ◌≤◌, Bool, true, false, cond, eqb, List, [], ◌∷◌, ◌++◌, map, get_or, set, replicate, sym, refl, ap, ◌∙◌, subst, ap₂, arith, length-set, get_or-set_other, get_or-set_same, eqb-true}
use lib.Bits.{bit_xor}
use lib.ListN.{length-replicate}
use borrow.Author.Tests.{eqb-false}
use Rattle.automata.specs.Automaton.{accepting}
use Rattle.automata.specs.Distinguishable.{Slot}
use Rattle.fields.specs.View.{viewed}
use Rattle.fingerprints.specs.Fingerprints.{ClassPrints, Fingerprinted, Gained, Prints, fingerprint}
use Rattle.fingerprints.specs.Fingerprints.{gain, gains, mixed, multiplier, only, places, print_of}
use Rattle.fingerprints.specs.Fingerprints.{salted, slot_value, spread, total, value_at, xored}
use Rattle.format.specs.Format.{byte_values, transition_bytes}
use Rattle.lists.specs.Positions.{up_from}
use Rattle.lists.specs.Tests.{bit}
use Rattle.table.specs.Layout.{arg_of, arity_of, class_at, label_of, nth_transition, out_of, transition_at, transitions_in}
use Rattle.lists.proofs.Intervals.{get_d-zeros}
use Rattle.lists.proofs.Loops.{up_from-next, up_from-none}
use Rattle.fields.proofs.Views.{viewed-class, viewed-states}
use Rattle.fingerprints.proofs.Arguments.{args_from, args_from-next, args_from-none, args_to, args_to-next, without}
use Rattle.lists.proofs.Filling.{set-next-from}

-- ---- one table of fingerprints from another

set-small : (m : List ℕ) (q r : ℕ) → Prints m → q ≤ 255 → r < 2 ^ 64 → Prints (set m q r)
set-small m q r p h l = record { size = length-set m q r ∙ p.size; small = λ j. go j (eqb j q) refl }
  where
    go : (j : ℕ) (b : Bool) → eqb j q ≡ b → get_or (set m q r) j 0 < 2 ^ 64
    go j true e = rw (eqb-true j q e, get_or-set_same m q r 0 (omega (arith, p.size))) l
    go j false e = rw (get_or-set_other m q j r 0 (eqb-false j q e)) (p.small j)

pub gained-only : (m : List ℕ) (q v : ℕ) → Prints m → q ≤ 255 → {r : ℕ} → r ≡ (print_of m q + v) % 2 ^ 64 →
    Gained (only q v) m (set m q r)
gained-only m q v p h {r} e = record { prints = set-small m q r p h (omega arith); each = λ j. go j (eqb q j) refl }
  where
    go : (j : ℕ) (b : Bool) → eqb q j ≡ b → get_or (set m q r) j 0 ≡ (get_or m j 0 + cond b v 0) % 2 ^ 64
    go j true d =
        let qj = eqb-true q j d in
        subst (λ (i : ℕ). get_or (set m q r) i 0 ≡ (get_or m i 0 + v) % 2 ^ 64) qj
        (get_or-set_same m q r 0 (omega (arith, p.size)) ∙ e)
    go j false d =
        let ne = eqb-false q j d in
        get_or-set_other m q j r 0 (λ x. ne (sym x)) ∙ (let s = p.small j in omega arith)

-- m₀ with f is m with g, which is still to come
pub record Filling (f g : ℕ → ℕ) (m₀ m : List ℕ) : Type 0 where
  pub prints : Prints m
  pub left : (q : ℕ) → (print_of m q + g q) % 2 ^ 64 ≡ (print_of m₀ q + f q) % 2 ^ 64

wraps : (a u g : ℕ) → ((a + u) % 2 ^ 64 + g) % 2 ^ 64 ≡ (a + (u + g)) % 2 ^ 64
wraps a u g = omega arith

pub filling-start : {f g : ℕ → ℕ} {m : List ℕ} → Prints m → ((q : ℕ) → g q ≡ f q) → Filling f g m m
filling-start {m = m} p e = record { prints = p; left = λ q. ap (λ (x : ℕ). (print_of m q + x) % 2 ^ 64) (e q) }

pub filling-next : {f g u g' : ℕ → ℕ} {m₀ m m' : List ℕ} → Filling f g m₀ m → Gained u m m' →
    ((q : ℕ) → g q ≡ u q + g' q) → Filling f g' m₀ m'
filling-next {u = u} {g' = g'} {m = m} h t e = record {
  prints = t.prints;
  left = λ q.
      ap (λ (x : ℕ). (x + g' q) % 2 ^ 64) (t.each q) ∙ wraps (print_of m q) (u q) (g' q)
      ∙ ap (λ (x : ℕ). (print_of m q + x) % 2 ^ 64) (sym (e q)) ∙ h.left q;
}

pub filling-end : {f g : ℕ → ℕ} {m₀ m : List ℕ} → Filling f g m₀ m → ((q : ℕ) → g q ≡ 0) → Gained f m₀ m
filling-end {g = g} {m = m} h e = record { prints = h.prints; each = λ q. kept q ∙ h.left q }
  where
    kept : (q : ℕ) → print_of m q ≡ (print_of m q + g q) % 2 ^ 64
    kept q = let s = h.prints.small q in let z = e q in omega arith

-- ---- the uses in one transition

module _ (s : List ℕ) (at : ℕ) where
  -- what q gains from place k on
  abbrev pub gain_from : ℕ → ℕ → ℕ → ℕ
  gain_from x k q = total (places (args_from s at k) (args_to s at k) (label_of s at) q) (value_at x)

  pub gain-start : (x q : ℕ) → gain_from x 0 q ≡ gain (transition_at s at) x q
  gain-start x q =
      let e : arity_of s at - 0 ≡ arity_of s at = omega arith in
      ap (λ (n : ℕ). total (places (map (arg_of s at) (up_from 0 n)) [] (label_of s at) q) (value_at x)) e

  pub gain-end : (x k q : ℕ) → arity_of s at ≤ k → gain_from x k q ≡ 0
  gain-end x k q h =
      ap (λ (r : List ℕ). total (places r (args_to s at k) (label_of s at) q) (value_at x)) (args_from-none s at k h)

  -- the slot of place k
  abbrev slot_of : ℕ → Slot
  slot_of k = record { label = label_of s at; before = args_to s at k; after = args_from s at (k + 1) }

  gain-next : (x k q : ℕ) → k < arity_of s at →
      gain_from x k q ≡ only (arg_of s at k) (value_at x (slot_of k)) q + gain_from x (k + 1) q
  gain-next x k q h =
      ap (λ (r : List ℕ). total (places r (args_to s at k) (label_of s at) q) (value_at x)) (args_from-next s at k h)
      ∙ go (eqb (arg_of s at k) q)
      ∙ ap (λ (l : List ℕ). only (arg_of s at k) (value_at x (slot_of k)) q +
      total (places (args_from s at (k + 1)) l (label_of s at) q) (value_at x)) (sym (args_to-next s at k))
    where
      rest : List Slot
      rest = places (args_from s at (k + 1)) (args_to s at k ++ (arg_of s at k ∷ [])) (label_of s at) q

      go : (b : Bool) → total (cond b (slot_of k ∷ rest) rest) (value_at x) ≡
          cond b (value_at x (slot_of k)) 0 + total rest (value_at x)
      go true = refl
      go false = omega arith

  value-is : (x k : ℕ) {a y m v : ℕ} → k < arity_of s at → a ≡ arg_of s at k →
      y ≡ xored (transition_at s at).args 0 (salted (label_of s at) x) → m ≡ a * multiplier k →
      v ≡ mixed (bit_xor y m) → v ≡ value_at x (slot_of k)
  unfolding slot_value
  value-is x k h d e f g =
      g ∙ ap mixed (ap₂ bit_xor e (f ∙ ap (λ (b : ℕ). b * multiplier k) d) ∙ without s at k (salted (label_of s at) x) h)

  -- a is argument k, and y and m are what its slot's value v is made of
  pub gain-step : (x k : ℕ) {a y m v : ℕ} → k < arity_of s at → a ≡ arg_of s at k →
      y ≡ xored (transition_at s at).args 0 (salted (label_of s at) x) → m ≡ a * multiplier k →
      v ≡ mixed (bit_xor y m) → (q : ℕ) → gain_from x k q ≡ only a v q + gain_from x (k + 1) q
  gain-step x k h d e f g q =
      gain-next x k q h
      ∙ ap₂ (λ (a v : ℕ). only a v q + gain_from x (k + 1) q) (sym d) (sym (value-is x k h d e f g))

-- ---- the transitions of a run

-- what q gains from transition i on
abbrev pub gains_from : List ℕ → ℕ → ℕ → ℕ → ℕ
gains_from s c i q = gains (map (nth_transition s) (up_from i (c - i))) q

module _ (s : List ℕ) (c : ℕ) where
  pub gains-start : (q : ℕ) → gains_from s c 0 q ≡ gains (transitions_in s c) q
  unfolding transitions_in
  gains-start q =
      let e : c - 0 ≡ c = omega arith in ap (λ (n : ℕ). gains (map (nth_transition s) (up_from 0 n)) q) e

  -- the output's number is o, and x stands for it
  pub gains-next : (i : ℕ) → i < c → {o x : ℕ} → o ≡ out_of s (transition_bytes * i) → x ≡ spread o → (q : ℕ) →
      gains_from s c i q ≡ gain (nth_transition s i) x q + gains_from s c (i + 1) q
  gains-next i l e f q =
      ap (λ (js : List ℕ). gains (map (nth_transition s) js) q) (up_from-next i c l)
      ∙ ap (λ (y : ℕ). gain (nth_transition s i) y q + gains_from s c (i + 1) q) (sym (f ∙ ap spread e))

  pub gains-end : (i : ℕ) → c ≤ i → (q : ℕ) → gains_from s c i q ≡ 0
  gains-end i l q = ap (λ (js : List ℕ). gains (map (nth_transition s) js) q) (up_from-none i c l)

-- ---- classes

pub record ClassBelow (cl : List ℕ) (q : ℕ) (m : List ℕ) : Type 0 where
  pub prints : Prints m
  pub none : print_of m 0 ≡ 0
  pub each : (p : ℕ) → 1 ≤ p → p < q → print_of m p ≡ bit (class_at cl p)

pub class-start : (cl : List ℕ) → ClassBelow cl 1 (replicate byte_values 0)
class-start cl = record {
  prints = record { size = length-replicate {A = ℕ} byte_values 0; small = λ q. omega (arith, get_d-zeros byte_values q) };
  none = refl;
  each = λ p h l. absurd (omega arith);
}

class-small : (b : Bool) → bit b < 2 ^ 64
class-small true = omega arith
class-small false = omega arith

pub class-next : {cl : List ℕ} {q : ℕ} {m : List ℕ} {r : ℕ} → ClassBelow cl q m → 1 ≤ q → q ≤ 255 →
    r ≡ bit (class_at cl q) → ClassBelow cl (q + 1) (set m q r)
class-next {cl} {q} {m} {r} c a h e = record {
  prints = set-small m q r c.prints h (subst (λ (x : ℕ). x < 2 ^ 64) (sym e) (class-small (class_at cl q)));
  none = get_or-set_other m q 0 r 0 (λ z. omega arith) ∙ c.none;
  each = set-next-from (λ x. x) (λ p. bit (class_at cl p)) 1 m q r (omega (arith, c.prints.size)) e c.each;
}

pub class-end : {cl : List ℕ} {q n : ℕ} {m : List ℕ} → ClassBelow cl q m → n < q → ClassPrints cl n m
class-end c h = record { prints = c.prints; none = c.none; each = λ p a b. c.each p a (omega arith) }

-- ---- the class and the uses

module _ (cl s : List ℕ) (n c : ℕ) {m : List ℕ} (k : ClassPrints cl n m) where
  class : (q : ℕ) → q ≤ n → print_of m q ≡ bit (accepting (viewed cl s n c) q)
  class zero l = k.none
  class (suc q) l = k.each (suc q) (omega arith) l ∙ ap bit (sym (viewed-class cl s n c (suc q) (omega arith) l))

  pub fingerprinted : {m' : List ℕ} → Gained (gains (transitions_in s c)) m m' → Fingerprinted (viewed cl s n c) m'
  unfolding fingerprint
  fingerprinted g = record {
    each = λ q b. g.each q ∙ ap (λ (x : ℕ). (x + gains (transitions_in s c) q) % 2 ^ 64)
        (class q (omega (arith, viewed-states cl s n c)));
  }

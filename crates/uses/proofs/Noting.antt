-- A use that is noted lies between the bounds of its state.
use mathlib.Core.Bool.{Bool, false, true}
use mathlib.Core.List.{List}
use mathlib.Core.Path.{◌∙◌, ◌≡◌, ap, refl, subst, sym}
use Prim.Native.Nat.{◌*◌, ◌+◌, ◌<◌, ◌≤◌, ℕ}
use native.Mathlib.Omega.{arith}
use lib.Dec.{eqb}
use lib.ListN.{get_or, length, length-replicate, length-set, replicate, set}
use lib.Seq.{get_or-set_other, get_or-set_same}
use borrow.Author.Tests.{eqb-false, eqb-true}
use Rattle.format.specs.Format.{byte_values, transition_bytes}
use Rattle.lists.proofs.Intervals.{get_d-zeros}
use Rattle.table.specs.Layout.{arg_of, arity_of}
use Rattle.uses.specs.Spans.{Noted, NotedTo}

pub noted-none : (s : List ℕ) {lows : List ℕ} → length lows ≡ byte_values → Noted s 0 lows (replicate byte_values 0)
noted-none s size = record {
  spans = record {
    lows-size = size;
    lasts-size = length-replicate {A = ℕ} byte_values 0;
    ordered = λ q h. absurd (omega (arith, get_d-zeros byte_values q));
  };
  within = record {
    above = λ i k h l. absurd (omega arith);
    below = λ i k h l. absurd (omega arith);
    known = λ q. omega (arith, get_d-zeros byte_values q);
  };
}

pub noted-start : {s : List ℕ} {c : ℕ} {lows lasts : List ℕ} → Noted s c lows lasts → NotedTo s c 0 lows lasts
noted-start n = record {
  spans = n.spans;
  above = n.within.above;
  below = n.within.below;
  above-here = λ k h. absurd (omega arith);
  below-here = λ k h. absurd (omega arith);
  known = λ q. omega (arith, n.within.known q);
}

pub noted-end : {s : List ℕ} {c n : ℕ} {lows lasts : List ℕ} → NotedTo s c n lows lasts →
    arity_of s (transition_bytes * c) ≤ n → Noted s (c + 1) lows lasts
noted-end {s} {c} {n} {lows} {lasts} t full = record {
  spans = t.spans;
  within = record {
    above = λ i k h l. above i k h l (eqb i c) refl;
    below = λ i k h l. below i k h l (eqb i c) refl;
    known = t.known;
  };
}
  where
    above : (i k : ℕ) → i < c + 1 → k < arity_of s (transition_bytes * i) → (b : Bool) → eqb i c ≡ b →
        get_or lows (arg_of s (transition_bytes * i) k) 0 ≤ i
    above i k h l true e =
        subst (λ (x : ℕ). k < arity_of s (transition_bytes * x) → get_or lows (arg_of s (transition_bytes * x) k) 0 ≤ x)
        (sym (eqb-true i c e)) (λ z. t.above-here k (omega arith)) l
    above i k h l false e = let d = eqb-false i c e in t.above i k (omega arith) l

    below : (i k : ℕ) → i < c + 1 → k < arity_of s (transition_bytes * i) → (b : Bool) → eqb i c ≡ b →
        i < get_or lasts (arg_of s (transition_bytes * i) k) 0
    below i k h l true e =
        subst (λ (x : ℕ). k < arity_of s (transition_bytes * x) → x < get_or lasts (arg_of s (transition_bytes * x) k) 0)
        (sym (eqb-true i c e)) (λ z. t.below-here k (omega arith)) l
    below i k h l false e = let d = eqb-false i c e in t.below i k (omega arith) l

-- an entry of a list with one entry changed
entry_set : (P : ℕ → Type 0) (xs : List ℕ) (q x : ℕ) → q < length xs → P x → (y : ℕ) → P (get_or xs y 0) →
    P (get_or (set xs q x) y 0)
entry_set P xs q x h new y old = go (eqb y q) refl
  where
    go : (b : Bool) → eqb y q ≡ b → P (get_or (set xs q x) y 0)
    go true e =
        subst P (sym (ap (λ (z : ℕ). get_or (set xs q x) z 0) (eqb-true y q e) ∙ get_or-set_same xs q x 0 h)) new
    go false e = subst P (sym (get_or-set_other xs q y x 0 (eqb-false y q e))) old

module _ {s : List ℕ} {c n : ℕ} {lows lasts : List ℕ} (t : NotedTo s c n lows lasts) {q : ℕ} (byte : q < byte_values)
    (arg : q ≡ arg_of s (transition_bytes * c) n) where
  -- one more argument is noted, if the first uses of states that had uses stay
  noted-next : {firsts : List ℕ} → length firsts ≡ byte_values →
      ((y : ℕ) → 1 ≤ get_or lasts y 0 → get_or firsts y 0 ≡ get_or lows y 0) → get_or firsts q 0 ≤ c →
      NotedTo s c (n + 1) firsts (set lasts q (c + 1))
  noted-next {firsts} size kept here = record {
    spans = record {
      lows-size = size;
      lasts-size = length-set lasts q (c + 1) ∙ t.spans.lasts-size;
      ordered = λ y. ordered y (eqb y q) refl;
    };
    above = λ i k h l. let d = t.below i k h l in let e = t.above i k h l in
        omega (arith, kept (arg_of s (transition_bytes * i) k) (omega arith));
    below = λ i k h l. entry_set (λ (x : ℕ). i < x) lasts q (c + 1) inside (omega arith)
        (arg_of s (transition_bytes * i) k) (t.below i k h l);
    above-here = λ k h. above k h (eqb k n) refl;
    below-here = λ k h. below k h (eqb k n) refl;
    known = λ y. entry_set (λ (x : ℕ). x ≤ c + 1) lasts q (c + 1) inside (omega arith) y (t.known y);
  }
    where
      inside : q < length lasts
      inside = omega (arith, t.spans.lasts-size)

      ordered : (y : ℕ) (b : Bool) → eqb y q ≡ b → 1 ≤ get_or (set lasts q (c + 1)) y 0 →
          get_or firsts y 0 < get_or (set lasts q (c + 1)) y 0
      ordered y true e h =
          let d = eqb-true y q e in
          subst (λ (z : ℕ). get_or firsts z 0 < get_or (set lasts q (c + 1)) z 0) (sym d)
          (omega (arith, get_or-set_same lasts q (c + 1) 0 inside))
      ordered y false e h =
          let d = get_or-set_other lasts q y (c + 1) 0 (eqb-false y q e) in
          let some : 1 ≤ get_or lasts y 0 = omega arith in
          omega (arith, kept y some, t.spans.ordered y some)

      above : (k : ℕ) → k < n + 1 → (b : Bool) → eqb k n ≡ b → get_or firsts (arg_of s (transition_bytes * c) k) 0 ≤ c
      above k h true e =
          subst (λ (x : ℕ). get_or firsts x 0 ≤ c)
          (arg ∙ ap (arg_of s (transition_bytes * c)) (sym (eqb-true k n e))) here
      above k h false e =
          let d = eqb-false k n e in
          let o = t.below-here k (omega arith) in
          omega (arith, kept (arg_of s (transition_bytes * c) k) (omega arith), t.above-here k (omega arith))

      below : (k : ℕ) → k < n + 1 → (b : Bool) → eqb k n ≡ b →
          c < get_or (set lasts q (c + 1)) (arg_of s (transition_bytes * c) k) 0
      below k h true e =
          subst (λ (x : ℕ). c < get_or (set lasts q (c + 1)) x 0)
          (arg ∙ ap (arg_of s (transition_bytes * c)) (sym (eqb-true k n e)))
          (omega (arith, get_or-set_same lasts q (c + 1) 0 inside))
      below k h false e =
          let d = eqb-false k n e in
          entry_set (λ (x : ℕ). c < x) lasts q (c + 1) inside (omega arith) (arg_of s (transition_bytes * c) k)
          (t.below-here k (omega arith))

  pub noted-first : get_or lasts q 0 ≡ 0 → NotedTo s c (n + 1) (set lows q c) (set lasts q (c + 1))
  noted-first none =
      noted-next (length-set lows q c ∙ t.spans.lows-size)
      (λ y h. get_or-set_other lows q y c 0 (λ e. absurd (other y e h)))
      (omega (arith, get_or-set_same lows q c 0 (omega (arith, t.spans.lows-size))))
    where
      other : (y : ℕ) → y ≡ q → 1 ≤ get_or lasts y 0 → ⊥
      other y e h = omega (arith, ap (λ (z : ℕ). get_or lasts z 0) e)

  pub noted-again : (get_or lasts q 0 ≡ 0 → ⊥) → NotedTo s c (n + 1) lows (set lasts q (c + 1))
  noted-again some =
      noted-next t.spans.lows-size (λ y h. refl)
      (omega (arith, t.spans.ordered q (omega arith), t.known q))

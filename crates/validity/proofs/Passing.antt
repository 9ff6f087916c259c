-- The pass of condition 13 over a run: what reading one transition gives, and what the whole pass says.
use Rattle.std.proofs.Common.{◌≡◌, ℕ, zero, suc, ◌+◌, ◌-◌, ◌*◌, ◌<◌, ◌≤◌, Bool, true, false, ◌&&◌, eqb, leb, ◌≢◌, List, [], ◌∷◌, ◌++◌, length, get_or, set, replicate, sym, refl, ap, ◌∙◌, true≢false, add-one, arith, length-set, get_or-set_other, get_or-set_same, eqb-true, leb-false, leb-true}
use mathlib.Core.Bool.{false≢true}
use borrow.Author.Tests.{eqb-false}
use Rattle.automata.specs.Automaton.{Transition}
use Rattle.automata.specs.Numbered.{Passed, first_open, numbered, top}
use Rattle.fields.specs.Fields.{HoldsTransitionsOver}
use Rattle.fields.specs.View.{viewed}
use Rattle.format.specs.Format.{byte_values, transition_bytes}
use Rattle.lists.specs.Positions.{up_from}
use Rattle.lists.specs.Tests.{every}
use Rattle.marking.specs.Marks.{marked}
use Rattle.table.specs.Layout.{nth_transition, out_of, transitions_in}
use Rattle.validity.specs.Rules.{NumbersRead, Spans}
use Rattle.automata.proofs.NumberedPass.{broken-numbered, first_open-kept, passed-broken, passed-low, passed-next}
use Rattle.automata.proofs.NumberedPass.{passed_none, passed-numbered}
use Rattle.fields.proofs.Transitions.{transitions_in-suc}
use Rattle.lists.proofs.Intervals.{every-at}
use Rattle.marking.proofs.Sweeps.{nonzero-true}
use Rattle.marking.proofs.Spreading.{unmarked}
use Rattle.fields.proofs.Views.{viewed-states}

-- a test of an interval that fails, fails at a number
pub every-fails : (p : ℕ → Bool) (k n : ℕ) → every p (up_from k n) ≡ false →
    (i : ℕ) × (k ≤ i) × (i < k + n) × (p i ≡ false)
every-fails p k zero e = absurd (true≢false e)
every-fails p k (suc n) e = go (every-fails p (suc k) n) (p k) refl e
  where
    go : (every p (up_from (suc k) n) ≡ false → (i : ℕ) × (suc k ≤ i) × (i < suc k + n) × (p i ≡ false)) → (b : Bool) →
        p k ≡ b → (b && every p (up_from (suc k) n)) ≡ false → (i : ℕ) × (k ≤ i) × (i < k + suc n) × (p i ≡ false)
    go ih true d e = let (i, h, l, f) = ih e in (i, omega arith, omega arith, f)
    go ih false d e = (k, omega arith, omega arith, d)

-- and one that fails at a number, fails
pub every-missed : (p : ℕ → Bool) (k n i : ℕ) → k ≤ i → i < k + n → p i ≡ false → false ≡ every p (up_from k n)
every-missed p k n i h l e = go (every p (up_from k n)) refl
  where
    go : (b : Bool) → every p (up_from k n) ≡ b → false ≡ b
    go true d = sym e ∙ every-at p k n d i h l
    go false d = refl

-- ---- marks that lead over all states that they say have been seen

-- a mark that is not 0
seen_here : (m : List ℕ) (i x : ℕ) → i < length m → marked (set m i (x + 1)) i ≡ true
seen_here m i x h = rw (get_or-set_same m i (x + 1) 0 h) (nonzero-true (x + 1) (λ e. omega arith))

seen-there : (m : List ℕ) (i j x : ℕ) → j ≢ i → marked (set m i x) j ≡ marked m j
seen-there m i j x n = rw (get_or-set_other m i j x 0 n)

pub spans-none : Spans (replicate byte_values 0)
spans-none = record {
  down = λ q. rw (none byte_values q) (omega arith);
  each = λ q p e. absurd (false≢true (sym (unmarked byte_values q) ∙ e));
}
  where
    none : (n q : ℕ) → get_or {A = ℕ} (replicate n 0) q 0 ≡ 0
    none zero q = refl
    none (suc n) zero = refl
    none (suc n) (suc q) = none n q

-- all from q on are marked, and so is the interval that the mark before q skips
pub spanned : {m : List ℕ} → Spans m → (q e : ℕ) → 0 < q → get_or m (q - 1) 0 ≢ 0 →
    ((p : ℕ) → q ≤ p → p < e → marked m p ≡ true) → (p : ℕ) → get_or m (q - 1) 0 ≤ p → p < e → marked m p ≡ true
spanned {m} spans q e h n old p a b = go (leb q p) refl
  where
    go : (c : Bool) → leb q p ≡ c → marked m p ≡ true
    go true d = old p (leb-true q p d) b
    go false d = spans.each (q - 1) p (nonzero-true _ n) a (omega (arith, leb-false q p d))

pub spans-next : (m : List ℕ) (t o : ℕ) → length m ≡ byte_values → o < byte_values → t < o →
    every (marked m) (up_from (t + 1) (o - (t + 1))) ≡ true → Spans m → Spans (set m o (t + 1))
spans-next m t o size l h e old = record {
  down = λ q. below q (eqb q o) refl;
  each = λ q p d a b. marks q p d a b (eqb p o) refl (eqb q o) refl;
}
  where
    here : get_or (set m o (t + 1)) o 0 ≡ t + 1
    here = get_or-set_same m o (t + 1) 0 (omega arith)

    there : (q : ℕ) → q ≢ o → get_or (set m o (t + 1)) q 0 ≡ get_or m q 0
    there q n = get_or-set_other m o q (t + 1) 0 n

    below : (q : ℕ) (b : Bool) → eqb q o ≡ b → get_or (set m o (t + 1)) q 0 ≤ q
    below q true d = rw (eqb-true q o d, here) (omega arith)
    below q false d = rw (there q (eqb-false q o d)) (old.down q)

    marks : (q p : ℕ) → marked (set m o (t + 1)) q ≡ true → get_or (set m o (t + 1)) q 0 ≤ p → p ≤ q → (b : Bool) →
        eqb p o ≡ b → (c : Bool) → eqb q o ≡ c → marked (set m o (t + 1)) p ≡ true
    marks q p d a k true x c y = rw (eqb-true p o x) (seen_here m o t (omega arith))
    marks q p d a k false x true y =
        let n = eqb-false p o x in
        let f = eqb-true q o y in
        let v : get_or (set m o (t + 1)) q 0 ≡ t + 1 = ap (λ j. get_or (set m o (t + 1)) j 0) f ∙ here in
        seen-there m o p (t + 1) n ∙ every-at (marked m) (t + 1) (o - (t + 1)) e p (omega arith) (omega arith)
    marks q p d a k false x false y =
        let n = eqb-false q o y in
        seen-there m o p (t + 1) (eqb-false p o x)
        ∙ old.each q p (sym (seen-there m o q (t + 1) n) ∙ d) (omega (arith, there q n)) k

-- ---- reading one transition

module _ (s : List ℕ) (i : ℕ) where
  abbrev τ : Transition
  τ = nth_transition s i

  one_more : transitions_in s (i + 1) ≡ transitions_in s i ++ (τ ∷ [])
  one_more = ap (transitions_in s) (add-one i) ∙ transitions_in-suc s i

  module _ (m : List ℕ) (size : length m ≡ byte_values) (passed : Passed (transitions_in s i) (marked m)) where
    -- a transition that gives no number
    pub read_low : τ.out ≤ top τ.args → NumbersRead s i m true
    read_low h = record {
      size = size;
      passed = λ e. rw one_more (passed-low passed τ h);
      broken = λ e. absurd (true≢false e);
    }

    -- its output gets a number: all between have theirs
    pub read_next : top τ.args < τ.out → τ.out < byte_values →
        every (marked m) (up_from (top τ.args + 1) (τ.out - (top τ.args + 1))) ≡ true →
        NumbersRead s i (set m τ.out (top τ.args + 1)) true
    read_next h l e = record {
      size = length-set m τ.out (top τ.args + 1) ∙ size;
      passed = λ _. rw one_more
          (passed-next passed τ (marked (set m τ.out (top τ.args + 1))) h
          (λ j a b. every-at (marked m) (top τ.args + 1) (τ.out - (top τ.args + 1)) e j
          (omega arith) (omega arith))
          (seen_here m τ.out (top τ.args) (omega arith)) (λ j n. seen-there m τ.out j _ n));
      broken = λ d. absurd (true≢false d);
    }

    -- its output has one, and all between have theirs
    pub read_known : Spans m → top τ.args < τ.out → 1 ≤ get_or m τ.out 0 →
        get_or m τ.out 0 ≤ top τ.args + 1 → NumbersRead s i m true
    read_known spans h l k = record {
      size = size;
      passed = λ _. rw one_more
          (passed-next passed τ (marked m) h (λ j a b. spans.each τ.out j seen (omega arith) (omega arith)) seen
          (λ j n. refl));
      broken = λ d. absurd (true≢false d);
    }
      where
        seen : marked m τ.out ≡ true
        seen = nonzero-true (get_or m τ.out 0) (λ z. absurd (omega (arith, z, l)))

    -- a state between has no number
    pub read-broken : every (marked m) (up_from (top τ.args + 1) (τ.out - (top τ.args + 1))) ≡ false →
        NumbersRead s i m false
    read-broken e = record {
      size = size;
      passed = λ d. absurd (false≢true d);
      broken = λ _. go (every-fails (marked m) (top τ.args + 1) (τ.out - (top τ.args + 1)) e);
    }
      where
        go : (j : ℕ) × (top τ.args + 1 ≤ j) × (j < top τ.args + 1 + (τ.out - (top τ.args + 1))) ×
            (marked m j ≡ false) →
            (k : ℕ) × (suc k < τ.out) × (first_open k (transitions_in s (i + 1)) ≡ τ.out)
        go (zero, h, l, f) = absurd (omega arith)
        go (suc k, h, l, f) =
            (k, omega arith, rw one_more (passed-broken passed τ k (omega arith) (omega arith) f))

pub pass-start : (s : List ℕ) → Passed (transitions_in s 0) (marked (replicate byte_values 0))
unfolding transitions_in
pass-start s = passed_none (marked (replicate byte_values 0)) (unmarked byte_values)

-- a number that the first i transitions give, all give
first_open-later : (s : List ℕ) (k j i c : ℕ) → i ≤ c → first_open k (transitions_in s i) ≡ suc j →
    first_open k (transitions_in s c) ≡ suc j
first_open-later s k j i zero h e = let z : i ≡ 0 = omega arith in rw z at e
first_open-later s k j i (suc c) h e = go (λ l. first_open-later s k j i c l e) (eqb i (suc c)) refl
  where
    go : (i ≤ c → first_open k (transitions_in s c) ≡ suc j) → (b : Bool) → eqb i (suc c) ≡ b →
        first_open k (transitions_in s (suc c)) ≡ suc j
    go ih true d = rw (eqb-true i (suc c) d) at e
    go ih false d = let ne = eqb-false i (suc c) d in
        rw (transitions_in-suc s c)
        (first_open-kept k j (transitions_in s c) (nth_transition s c ∷ []) (ih (omega arith)))

module _ (cl s : List ℕ) (n c : ℕ) where
  -- a transition that breaks the rule
  pub pass-broken : HoldsTransitionsOver s c n → (i : ℕ) {m : List ℕ} → i < c → NumbersRead s i m false →
      false ≡ numbered (viewed cl s n c)
  pass-broken over i h r = go (r.broken refl)
    where
      go : (k : ℕ) × (suc k < out_of s (transition_bytes * i)) ×
          (first_open k (transitions_in s (i + 1)) ≡ out_of s (transition_bytes * i)) → false ≡ numbered (viewed cl s n c)
      go (k, l, e) = last (out_of s (transition_bytes * i)) refl
        where
          last : (o : ℕ) → out_of s (transition_bytes * i) ≡ o → false ≡ numbered (viewed cl s n c)
          last zero d = absurd (omega arith)
          last (suc j) d =
              let f = first_open-later s k j (i + 1) c (omega arith) (e ∙ d) in
              sym (broken-numbered (viewed cl s n c) k
              (omega (arith, viewed-states cl s n c, over.out-state i h)) (omega arith))

  -- all were read
  pub pass-end : (m : List ℕ) → Passed (transitions_in s c) (marked m) →
      every (marked m) (up_from 1 n) ≡ numbered (viewed cl s n c)
  pass-end m passed =
      ap (λ k. every (marked m) (up_from 1 k)) (sym (viewed-states cl s n c))
      ∙ passed-numbered (viewed cl s n c) (marked m) passed

-- Languages of lines: of two languages together, the first byte that no line has there is the later of the two.
use Rattle.std.proofs.Common.{◌≡◌, ℕ, ◌≤◌, max, true, false, leb, ◌⊎◌, List, ◌++◌, length, take, drop, subst, inl, inr, append_assoc, arith, take-append-drop, take-take, leb-false, leb-true}
use Rattle.text.specs.Grammar.{Begins, FirstBad}
use Rattle.lists.proofs.Tests.{test}

-- the lines of either language
abbrev pub Either : (List ℕ → Type 0) → (List ℕ → Type 0) → List ℕ → Type 0
Either P Q s = P s ⊎ Q s

-- no line goes on after its first bad byte
none-later : {P : List ℕ → Type 0} {s : List ℕ} {k m : ℕ} → FirstBad P s k → k ≤ m → m ≤ length s →
    Begins P (take m s) → ⊥
none-later {P} {s} {k} {m} x h l g =
    let e : take m s ++ g.rest ≡ take k s ++ (drop k (take m s) ++ g.rest) =
    rw (← append_assoc (take k s) (drop k (take m s)) g.rest, ← take-take k m s h, take-append-drop k (take m s)) in
    x.there (omega arith) (record { rest = drop k (take m s) ++ g.rest; line = subst P e g.line })

-- R has the lines of P and those of Q
module _ {P Q R : List ℕ → Type 0} (into : (x : List ℕ) → Q x → R x) (out : (x : List ℕ) → R x → P x ⊎ Q x) where
  later-bad : {s : List ℕ} {m n : ℕ} → FirstBad P s m → FirstBad Q s n → m ≤ n → FirstBad R s n
  later-bad {s} {m} {n} x y h =
      let b = y.before in
      record {
        within = y.within;
        before = record { rest = b.rest; line = into _ b.line };
        there = λ l g. begun l g.rest (out _ g.line);
        malformed = λ r. line (out s r);
      }
    where
      begun : n ≤ length s → (r : List ℕ) → P (take n s ++ r) ⊎ Q (take n s ++ r) → ⊥
      begun l r (inl p) = none-later x h l (record { rest = r; line = p })
      begun l r (inr q) = y.there l (record { rest = r; line = q })

      line : P s ⊎ Q s → ⊥
      line (inl p) = x.malformed p
      line (inr q) = y.malformed q

pub either-bad : {P Q : List ℕ → Type 0} {s : List ℕ} {m n : ℕ} → FirstBad P s m → FirstBad Q s n →
    FirstBad (Either P Q) s (max m n)
either-bad {P} {Q} {s} {m} {n} x y = go (test (leb m n))
  where
    swap : (z : List ℕ) → P z ⊎ Q z → Q z ⊎ P z
    swap z (inl p) = inr p
    swap z (inr q) = inl q

    go : (leb m n ≡ true) ⊎ (leb m n ≡ false) → FirstBad (Either P Q) s (max m n)
    go (inl h) =
        let l = leb-true m n h in
        let e : max m n ≡ n = omega arith in
        rw e (later-bad (λ z q. inr q) (λ z r. r) x y l)
    go (inr h) =
        let l = leb-false m n h in
        let e : max m n ≡ m = omega arith in
        rw e (later-bad (λ z p. inl p) swap y x (omega arith))

-- the same language in other words
pub same-bad : {P Q : List ℕ → Type 0} {s : List ℕ} {m : ℕ} → ((x : List ℕ) → P x → Q x) →
    ((x : List ℕ) → Q x → P x) → FirstBad P s m → FirstBad Q s m
same-bad f g x = later-bad f (λ z q. inr (g z q)) x x (omega arith)

-- What the sweeps do with one transition or one entry.
use Rattle.std.proofs.Common.{◌≡◌, ℕ, zero, suc, ◌+◌, ◌<◌, ◌≤◌, Bool, true, false, ltb, List, length, set, sym, refl, ap, ◌∙◌, arith, get_or-set_other, ltb-false, ltb-true}
use Rattle.automata.specs.Automaton.{Automaton, accepting}
use Rattle.lists.specs.Tests.{bit, every}
use Rattle.marking.specs.Marks.{marked, nonzero}
use Rattle.table.specs.Layout.{arg_of, out_of, transition_at}
use Rattle.marking.specs.Spread.{Has, Spread}
use Rattle.validity.specs.Rules.{DownTo, Up}
use Rattle.validity.specs.Spread.{Exactly}
use Rattle.lists.proofs.Tests.{every_in, in-every}
use Rattle.marking.proofs.Spreading.{spread-if, spread-mark}
use Rattle.marking.proofs.Sweeps.{nonzero-bit}
use Rattle.format.specs.Format.{byte_values}
use Rattle.lists.proofs.Filling.{set-next-from}

-- an implied test
pub every-implied : {A : Type 0} (p q : A → Bool) (xs : List A) → ((x : A) → p x ≡ true → q x ≡ true) →
    every p xs ≡ true → every q xs ≡ true
every-implied p q xs f e = in-every q xs (λ x i. f x (every_in p xs e x i))

-- marks that cover the output's arguments give the output
pub spread-up : (s : List ℕ) (at : ℕ) (m : List ℕ) → length m ≡ byte_values → out_of s at < byte_values →
    marked m (out_of s at) ≡ false → every (marked m) (transition_at s at).args ≡ true →
    Spread (Up s at) m (set m (out_of s at) 1) true
spread-up s at m size h e f =
    spread-mark (out_of s at) (omega arith) e (λ p up w. up (every-implied (marked m) p (transition_at s at).args w f))

-- an argument is marked if the output is
pub spread-down : (s : List ℕ) (at k : ℕ) {m m' : List ℕ} {r : Bool} → marked m (out_of s at) ≡ true →
    Spread (Has (arg_of s at k)) m m' r → Spread (DownTo s at k) m m' r
spread-down s at k e t = spread-if (λ p w d. d (w (out_of s at) e)) (λ h _. h) t

-- entries up to q are as a test says
pub filled_next : (f : ℕ → Bool) (m : List ℕ) (q v : ℕ) → q < length m → v ≡ bit (f q) →
    ((j : ℕ) → j < q → marked m j ≡ f j) → (j : ℕ) → j < q + 1 → marked (set m q v) j ≡ f j
filled_next f m q v h e below j l =
    set-next-from nonzero f 0 m q v h (ap nonzero e ∙ nonzero-bit (f q)) (λ i _ k. below i k) j (omega arith) l

-- the entry of no state, which is not accepting
pub filled-start : (A : Automaton) (m : List ℕ) → marked m 0 ≡ false → (j : ℕ) → j < 1 → marked m j ≡ accepting A j
filled-start A m e zero h = e
filled-start A m e (suc j) h = absurd (omega arith)

-- and none from there on, as the test says
pub filled-all : {f : ℕ → Bool} {m : List ℕ} → length m ≡ byte_values → (k : ℕ) →
    ((j : ℕ) → j < k → marked m j ≡ f j) → ((j : ℕ) → k ≤ j → marked m j ≡ false) →
    ((j : ℕ) → k ≤ j → f j ≡ false) → Exactly f m
filled-all {f} {m} size k below above beyond = record { size = size; each = λ j. go j (ltb j k) refl }
  where
    go : (j : ℕ) (b : Bool) → ltb j k ≡ b → marked m j ≡ f j
    go j true d = below j (ltb-true j k d)
    go j false d = let l = ltb-false j k d in above j l ∙ sym (beyond j l)

-- an entry leaves those above it as they are
pub filled-above : (m : List ℕ) (q v : ℕ) → ((j : ℕ) → q ≤ j → marked m j ≡ false) → (j : ℕ) → q + 1 ≤ j →
    marked (set m q v) j ≡ false
filled-above m q v above j l =
    ap nonzero (get_or-set_other m q j v 0 (λ e. omega arith)) ∙ above j (omega arith)

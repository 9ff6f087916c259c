-- The last 16 bits of a fingerprint: the class, and before it the number of uses, as long as that has 15 bits.
use Rattle.std.proofs.Common.{◌≡◌, ℕ, ◌+◌, ◌-◌, ◌*◌, ◌%◌, ◌^◌, ◌≤◌, Bool, true, false, List, [], ◌∷◌, length, refl, arith, length-append}
use Rattle.automata.specs.Automaton.{Automaton, Transition, accepting, states}
use Rattle.automata.specs.Distinguishable.{Slot}
use Rattle.fingerprints.specs.Fingerprints.{Fingerprinted, fingerprint, gains, mixed, places, print_of}
use Rattle.fingerprints.specs.Fingerprints.{slot_value, spread, total, value_at}
use Rattle.lists.specs.Tests.{bit}
use Rattle.fingerprints.proofs.Uses.{uses}

two : (g : ℕ) → (g - g % 65536 + 2) % 65536 ≡ 2
two g = omega arith

value-counts : (z : Slot) (x : ℕ) → slot_value z x % 65536 ≡ 2
unfolding slot_value mixed
value-counts z x = two _

total-counts : (zs : List Slot) (x : ℕ) → total zs (value_at x) % 65536 ≡ (2 * length zs) % 65536
total-counts [] x = refl
total-counts (z ∷ zs) x = omega (arith, value-counts z x, total-counts zs x)

gains-count : (τs : List Transition) (q : ℕ) → gains τs q % 65536 ≡ (2 * length (uses τs q)) % 65536
gains-count [] q = refl
gains-count (τ ∷ τs) q =
    omega (
      arith,
      total-counts (places τ.args [] τ.label q) (spread τ.out),
      gains-count τs q,
      length-append (places τ.args [] τ.label q) (uses τs q),
    )

counted : (c g k : ℕ) {x : ℕ} → x ≡ (c + g) % 2 ^ 64 → c ≤ 1 → g % 65536 ≡ (2 * k) % 65536 → k ≤ 32767 →
    x % 65536 ≡ c + 2 * k
counted c g k e l f h = omega arith

small : (b : Bool) → bit b ≤ 1
small true = omega arith
small false = omega arith

pub print-counts : (A : Automaton) (m : List ℕ) → Fingerprinted A m → (q : ℕ) → q ≤ states A →
    length (uses A.transitions q) ≤ 32767 →
    print_of m q % 65536 ≡ bit (accepting A q) + 2 * length (uses A.transitions q)
unfolding fingerprint
print-counts A m first q b few =
    counted (bit (accepting A q)) (gains A.transitions q) (length (uses A.transitions q))
    (first.each q b) (small (accepting A q)) (gains-count A.transitions q) few

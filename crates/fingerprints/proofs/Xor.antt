-- Exclusive or does not depend on order, and what was put in twice is out again.
use Rattle.std.proofs.Common.{◌≡◌, ℕ, zero, suc, ◌+◌, ◌*◌, ◌/◌, ◌%◌, ◌<◌, List, [], ◌∷◌, ◌++◌, length, sym, refl, ap, ◌∙◌, ap₂, arith}
use lib.Arith.{bin_ind}
use lib.Bits.{bit_xor, differ, xor_comm, xor_self, xor_step, xor_zero_r}
use Rattle.fingerprints.specs.Fingerprints.{multiplier, xored}

-- ---- digits

differ-small : (x y : ℕ) → x < 2 → y < 2 → differ x y < 2
differ-small zero y h l = l
differ-small (suc x) zero h l = h
differ-small (suc zero) (suc zero) h l = omega arith
differ-small (suc zero) (suc (suc y)) h l = absurd (omega arith)
differ-small (suc (suc x)) (suc y) h l = absurd (omega arith)

differ-assoc : (x y z : ℕ) → x < 2 → y < 2 → z < 2 → differ (differ x y) z ≡ differ x (differ y z)
differ-assoc zero y z a b c = refl
differ-assoc (suc zero) zero z a b c = refl
differ-assoc (suc zero) (suc zero) zero a b c = refl
differ-assoc (suc zero) (suc zero) (suc zero) a b c = refl
differ-assoc (suc zero) (suc zero) (suc (suc z)) a b c = absurd (omega arith)
differ-assoc (suc zero) (suc (suc y)) z a b c = absurd (omega arith)
differ-assoc (suc (suc x)) y z a b c = absurd (omega arith)

half : (x u d : ℕ) → x ≡ u * 2 + d → d < 2 → x / 2 ≡ u
half x u d e h = omega arith

odd : (x u d : ℕ) → x ≡ u * 2 + d → d < 2 → x % 2 ≡ d
odd x u d e h = omega arith

bit-small : (x : ℕ) → x % 2 < 2
bit-small x = omega arith

xor-half : (a b : ℕ) → bit_xor a b / 2 ≡ bit_xor (a / 2) (b / 2)
xor-half a b =
    half (bit_xor a b) (bit_xor (a / 2) (b / 2)) (differ (a % 2) (b % 2)) (xor_step a b)
    (differ-small (a % 2) (b % 2) (bit-small a) (bit-small b))

xor-odd : (a b : ℕ) → bit_xor a b % 2 ≡ differ (a % 2) (b % 2)
xor-odd a b =
    odd (bit_xor a b) (bit_xor (a / 2) (b / 2)) (differ (a % 2) (b % 2)) (xor_step a b)
    (differ-small (a % 2) (b % 2) (bit-small a) (bit-small b))

-- ---- numbers

xor_assoc : (a b c : ℕ) → bit_xor (bit_xor a b) c ≡ bit_xor a (bit_xor b c)
xor_assoc a =
    bin_ind (λ (n : ℕ). (b c : ℕ) → bit_xor (bit_xor n b) c ≡ bit_xor n (bit_xor b c)) (λ b c. refl)
    (λ n ih b c. xor_step (bit_xor n b) c
    ∙ ap₂ (λ (x y : ℕ). bit_xor x (c / 2) * 2 + differ y (c % 2)) (xor-half n b) (xor-odd n b)
    ∙ ap₂ (λ (x y : ℕ). x * 2 + y) (ih (b / 2) (c / 2))
    (differ-assoc (n % 2) (b % 2) (c % 2) (bit-small n) (bit-small b) (bit-small c))
    ∙ sym (ap₂ (λ (x y : ℕ). bit_xor (n / 2) x * 2 + differ (n % 2) y) (xor-half b c) (xor-odd b c))
    ∙ sym (xor_step n (bit_xor b c))) a

xor-swap : (a b c : ℕ) → bit_xor (bit_xor a b) c ≡ bit_xor (bit_xor a c) b
xor-swap a b c = xor_assoc a b c ∙ ap (bit_xor a) (xor_comm b c) ∙ sym (xor_assoc a c b)

pub xor-twice : (a b : ℕ) → bit_xor (bit_xor a b) b ≡ a
xor-twice a b = xor_assoc a b b ∙ ap (bit_xor a) (xor_self b) ∙ xor_zero_r a

-- ---- arguments

-- what was there before is taken along
pub xored-along : (qs : List ℕ) (k y x : ℕ) → xored qs k (bit_xor y x) ≡ bit_xor (xored qs k y) x
xored-along [] k y x = refl
xored-along (q ∷ qs) k y x =
    ap (xored qs (k + 1)) (xor-swap y x (q * multiplier k)) ∙ xored-along qs (k + 1) (bit_xor y (q * multiplier k)) x

pub xored-last : (l : List ℕ) (q k y : ℕ) → xored (l ++ (q ∷ [])) k y ≡
    bit_xor (xored l k y) (q * multiplier (k + length l))
xored-last [] q k y = let e : k ≡ k + 0 = omega arith in ap (λ (j : ℕ). bit_xor y (q * multiplier j)) e
xored-last (p ∷ l) q k y =
    let e : k + 1 + length l ≡ k + suc (length l) = omega arith in
    xored-last l q (k + 1) (bit_xor y (p * multiplier k))
    ∙ ap (λ (j : ℕ). bit_xor (xored l (k + 1) (bit_xor y (p * multiplier k))) (q * multiplier j)) e

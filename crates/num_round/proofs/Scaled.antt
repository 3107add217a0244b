-- An f64 of known size. `scaled`: a fraction whose 2 ^ d fold lies in 2 ^ 52 .. 2 ^ 53 is rounded to the closest number of 2 ^ -d.
-- `bits_are`: the pattern of such a number. Assumes nothing.
use mathlib.Core.Path.{◌≡◌, sym, ap, ◌∙◌, subst}
use Prim.Native.Nat.{ℕ, ◌+◌, ◌-◌, ◌*◌, ◌/◌, ◌^◌, ◌≤◌, ◌<◌}
use native.Mathlib.Nat.{le_trans, le_of_eq, lt_of_lt_of_le, lt_of_not-le, not-le_of_lt, mul-one, mul_comm, mul_assoc, mul_right_comm, mul-pos}
use native.Mathlib.Nat.{mul-le-mul_right, mul-lt-mul_of_pos_right, le-div_iff_mul-le, div-lt_iff_lt-mul, mul-div_cancel}
use native.Mathlib.Nat.{div-one, mod-one, zero-add}
use native.Mathlib.Omega.{arith}
use mathlib.Core.Bool.{true, false, true≢false}
use lib.Dec.{lit<}
use lib.Pow.{pow-add, pow_pos, pow_mono, shl_lt}
use lib.Ieee.{Float, nan, inf, fin, binary64, up, down, size, units, round, to_bits}
use lib.Ieee.Digits.{size-lt, size-le}
use lib.Ieee.Fits.{round_is, down_pos}
use lib.Ieee.Exact.{HasValue, units_val}
use lib.Ieee.Nearest.{closest, closest_same, closest_mono}

-- ---- how many digits a number has past 53
past-53 : (n k : ℕ) → 2 ^ (52 + k) ≤ n → n < 2 ^ (53 + k) → size n - 53 ≡ k
past-53 n k lo hi =
    both (size n) k (size-le n (53 + k) hi)
    (lt_of_not-le (λ (g : size n ≤ 52 + k). not-le_of_lt (lt_of_lt_of_le (size-lt n) (pow_mono g)) lo))
  where
    both : (z k : ℕ) → z ≤ 53 + k → 52 + k < z → z - 53 ≡ k
    both z k a b = omega arith

-- ---- rounding
fold : (p c k : ℕ) → 2 ^ p * c * 2 ^ k ≡ 2 ^ (p + k) * c
fold p c k = mul_right_comm (2 ^ p) c (2 ^ k) ∙ ap (λ (z : ℕ). z * c) (sym (pow-add 2 p k))

dropped : (a c k : ℕ) → 0 < c → 2 ^ 52 * c ≤ a → a < 2 ^ 53 * c → size (a * 2 ^ k / c) - 53 ≡ k
dropped a c k C lo hi =
    past-53 (a * 2 ^ k / c) k
    ((le-div_iff_mul-le C).1 (subst (λ (z : ℕ). z ≤ a * 2 ^ k) (fold 52 c k) (mul-le-mul_right (2 ^ k) lo)))
    ((div-lt_iff_lt-mul C).1 (subst (λ (z : ℕ). a * 2 ^ k < z) (fold 53 c k) (mul-lt-mul_of_pos_right hi (pow_pos k))))

pub scaled : (a c d k : ℕ) → d + k ≡ 1074 → 0 < c → 2 ^ 52 * c ≤ a * 2 ^ d → a * 2 ^ d < 2 ^ 53 * c
    → round binary64 false a c ≡ units binary64 false (closest (a * 2 ^ d) c) k
scaled a c d k e C lo hi =
    let b = a * 2 ^ d in
    let x : a * 2 ^ 1074 ≡ b * 2 ^ k =
    ap (λ (z : ℕ). a * 2 ^ z) (sym e) ∙ ap (λ (z : ℕ). a * z) (pow-add 2 d k) ∙ sym (mul_assoc a (2 ^ d) (2 ^ k)) in
    let y : a * 2 ^ 1074 * c ≡ b * (c * 2 ^ k) = ap (λ (z : ℕ). z * c) x ∙ mul_assoc b (2 ^ k) c ∙ ap (λ (z : ℕ). b * z) (mul_comm (2 ^ k) c) in
    round_is binary64 false a c
    ∙ ap (λ (z : ℕ). units binary64 false (closest (a * 2 ^ 1074) (c * 2 ^ z)) z) (ap (λ (z : ℕ). size (z / c) - 53) x ∙ dropped b c k C lo hi)
    ∙ ap (λ (z : ℕ). units binary64 false z k) (closest_same (a * 2 ^ 1074) (c * 2 ^ k) b c (mul-pos C (pow_pos k)) C y)

-- ---- the closest whole number lies between two that the fraction lies between
closest-one : (w : ℕ) → closest w 1 ≡ w
closest-one w = rw (mod-one, div-one)

pub closest-ge : (a c w : ℕ) → 0 < c → w * c ≤ a → w ≤ closest a c
closest-ge a c w C h = le_trans (le_of_eq (sym (closest-one w))) (closest_mono w 1 a c (lit< tt) C (le_trans h (le_of_eq (sym (mul-one a)))))

pub closest-le : (a c w : ℕ) → 0 < c → a ≤ w * c → closest a c ≤ w
closest-le a c w C h = le_trans (closest_mono a c w 1 C (lit< tt) (le_trans (le_of_eq (mul-one a)) h)) (le_of_eq (closest-one w))

-- ---- q * 2 ^ k units
pub units-value : (q k : ℕ) → k ≤ 1074 → q < 2 ^ 53 → HasValue (units binary64 false q k) false (q * 2 ^ k) (2 ^ 1074)
units-value q k h b = units_val binary64 false q k (lt_of_lt_of_le (shl_lt 53 k b) (pow_mono (room k h)))
  where
    room : (k : ℕ) → k ≤ 1074 → 53 + k ≤ 1074 + 1024
    room k h = omega arith

-- the leading digit of q adds one to the exponent's field
pub bits_are : (x : Float) (q k : ℕ) → HasValue x false (q * 2 ^ k) (2 ^ 1074) → 2 ^ 52 ≤ q → q < 2 ^ 53 → to_bits binary64 x ≡ k * 2 ^ 52 + q
unfolding to_bits
bits_are nan q k v a b = absurd v
bits_are (inf s) q k v a b = absurd v
bits_are (fin true m e) q k v a b = absurd (true≢false v.0)
bits_are (fin false m e) q k v a b =
    let n : m * up e * 2 ^ 1074 / down e ≡ q * 2 ^ k = ap (λ (z : ℕ). z / down e) v.1 ∙ mul-div_cancel (q * 2 ^ k) (down_pos e) in
    let s : size (q * 2 ^ k) - 53 ≡ k =
    past-53 (q * 2 ^ k) k (le_trans (le_of_eq (pow-add 2 52 k)) (mul-le-mul_right (2 ^ k) a)) (shl_lt 53 k b) in
    ap (λ (z : ℕ). 0 + (size z - 53) * 2 ^ 52 + z / 2 ^ (size z - 53)) n
    ∙ ap (λ (z : ℕ). 0 + z * 2 ^ 52 + q * 2 ^ k / 2 ^ z) s
    ∙ ap (λ (z : ℕ). 0 + k * 2 ^ 52 + z) (mul-div_cancel q (pow_pos k))
    ∙ ap (λ (z : ℕ). z + q) (zero-add (k * 2 ^ 52))

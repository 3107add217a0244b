-- `narrow` of an f64 by its bit pattern: what the f32's pattern is where the result is zero or subnormal, normal, and past the range.
-- An f64 of the field x + 1 and the digits t is q * 2 ^ x of its smallest values, with q = 2 ^ 52 + t.
use mathlib.Core.Path.{◌≡◌, refl, sym, ap, ◌∙◌, subst}
use mathlib.Core.Logic.{inl, inr}
use Prim.Native.Nat.{ℕ, suc, ◌+◌, ◌-◌, ◌*◌, ◌/◌, ◌%◌, ◌^◌, ◌≤◌, ◌<◌, suc-le-suc, compare}
use native.Mathlib.Nat.{le_antisymm, le-div_iff_mul-le, le_trans, div-lt_iff_lt-mul, lt_of_le_of_lt, lt_of_lt_of_le, lt_of_not-le}
use native.Mathlib.Nat.{lt_irrefl, mul_assoc, mul_comm, mul-le-mul_right, mul-lt-mul_of_pos_right, mul-one, mul-pos, mul_right_comm}
use native.Mathlib.Nat.{mul-le-mul_left, zero-add}
use native.Mathlib.Omega.{arith}
use mathlib.Core.Bool.{Bool, true, false}
use lib.Dec.{lit≤}
use lib.Pow.{pow-add, pow_pos, pow_mono}
use lib.Ieee.{Float, nan, inf, fin, Format, binary32, binary64, prec, low, up, down, size, odd, units, round, of_bits}
use lib.Ieee.Digits.{size-lt, size-le}
use lib.Ieee.Fits.{nearest-le, round_is, down_pos}
use lib.Ieee.Exact.{HasValue, odd_sign}
use lib.Ieee.Nearest.{closest, closest_same, nearest-ge}
use lib.Ieee.Scale.{round_same}
use Rattle.num_narrow.specs.Narrow.{narrow}
use Rattle.num_narrow.proofs.Ties.{closest-none}
use Rattle.num_narrow.proofs.Patterns.{from32, from64, low-fields, mid-fields, to-pattern, units-over}

-- ---- `narrow` sees only the value

pub narrow_at : (x : Float) (s : Bool) (a c : ℕ) → 0 < c → HasValue x s a c → narrow x ≡ round binary32 s a c
unfolding narrow
narrow_at nan s a c C v = absurd v
narrow_at (inf t) s a c C v = absurd v
narrow_at (fin t m e) s a c C v =
    round_same binary32 t (m * up e) (down e) a c (down_pos e) C v.1
    ∙ ap (λ (b : Bool). round binary32 b a c) v.0

narrow-odd : (d : ℕ) (s : Bool) (q x l a c : ℕ) → 0 < c → q * 2 ^ x * c ≡ a * 2 ^ l → narrow (odd d s q x l) ≡ round binary32 s a c
narrow-odd d s q x l a c C e =
    narrow_at (odd d s q x l) s (q * 2 ^ x) (2 ^ l) (pow_pos l) (odd_sign d s q x l)
    ∙ round_same binary32 s (q * 2 ^ x) (2 ^ l) a c (pow_pos l) C e

-- ---- `round` once the number of digits that it drops is known

round-to : (f : Format) (s : Bool) (num den k : ℕ) → size (num * 2 ^ low f / den) - prec f ≡ k
    → round f s num den ≡ units f s (closest (num * 2 ^ low f) (den * 2 ^ k)) k
round-to f s num den k e = round_is f s num den ∙ ap (λ (x : ℕ). units f s (closest (num * 2 ^ low f) (den * 2 ^ x)) x) e

size_exact : (a b n : ℕ) → b ≡ suc a → 2 ^ a ≤ n → n < 2 ^ b → size n ≡ b
size_exact a b n e lo hi =
    le_antisymm (size-le n b hi) (subst (λ (x : ℕ). x ≤ size n) (sym e) (pow_lt_back a (size n) (lt_of_le_of_lt lo (size-lt n))))
  where
    pow_lt_back : (i p : ℕ) → 2 ^ i < 2 ^ p → i < p
    pow_lt_back i p h = lt_of_not-le (λ (g : p ≤ i). lt_irrefl (2 ^ i) (lt_of_lt_of_le h (pow_mono g)))

-- fewer than 24 digits before the point: none is dropped, and the unit is the smallest f32
low-round : (s : Bool) (q d : ℕ) → q < 2 ^ (24 + d) → round binary32 s q (2 ^ (149 + d)) ≡ units binary32 s (closest q (2 ^ d)) 0
low-round s q d h =
    let l = 2 ^ 149 in
    let dp : 0 < 2 ^ (149 + d) = pow_pos (149 + d) in
    let less : q * l < 2 ^ 24 * 2 ^ (149 + d) = subst (λ (x : ℕ). q * l < x) (regroup d) (mul-lt-mul_of_pos_right h (pow_pos 149)) in
    round-to binary32 s q (2 ^ (149 + d)) 0
    (none (size (q * l / 2 ^ (149 + d))) (size-le (q * l / 2 ^ (149 + d)) 24 ((div-lt_iff_lt-mul dp).1 less)))
    ∙ ap (λ (x : ℕ). units binary32 s x 0)
    (closest_same (q * l) (2 ^ (149 + d) * 1) q (2 ^ d) (subst (λ (x : ℕ). 0 < x) (sym (mul-one (2 ^ (149 + d)))) dp) (pow_pos d)
    (mul_assoc q l (2 ^ d) ∙ ap (λ (x : ℕ). q * x) (sym (pow-add 2 149 d) ∙ sym (mul-one (2 ^ (149 + d))))))
  where
    none : (z : ℕ) → z ≤ 24 → z - 24 ≡ 0
    none z h = omega arith

    regroup : (d : ℕ) → 2 ^ (24 + d) * 2 ^ 149 ≡ 2 ^ 24 * 2 ^ (149 + d)
    regroup d =
        ap (λ (x : ℕ). x * 2 ^ 149) (pow-add 2 24 d)
        ∙ mul_assoc (2 ^ 24) (2 ^ d) (2 ^ 149)
        ∙ ap (λ (x : ℕ). 2 ^ 24 * x) (mul_comm (2 ^ d) (2 ^ 149) ∙ sym (pow-add 2 149 d))

-- a significand of 53 digits: 29 of them are dropped, and i places of the exponent with them
mid-round : (s : Bool) (q i : ℕ) → 2 ^ 52 ≤ q → q < 2 ^ 53
    → round binary32 s (q * 2 ^ i) (2 ^ 178) ≡ units binary32 s (closest q (2 ^ 29)) i
mid-round s q i lo hi =
    let n = q * 2 ^ i * 2 ^ 149 in
    let dp : 0 < 2 ^ 178 = pow_pos 178 in
    let z : size (n / 2 ^ 178) ≡ 24 + i =
    size_exact (23 + i) (24 + i) (n / 2 ^ 178) (next i)
    ((le-div_iff_mul-le dp).1 (subst (λ (x : ℕ). x ≤ n) (sym (at 23 52 refl)) (mul-le-mul_right (2 ^ 149) (mul-le-mul_right (2 ^ i) lo))))
    ((div-lt_iff_lt-mul dp).1
    (subst (λ (x : ℕ). n < x) (sym (at 24 53 refl)) (mul-lt-mul_of_pos_right (mul-lt-mul_of_pos_right hi (pow_pos i)) (pow_pos 149)))) in
    round-to binary32 s (q * 2 ^ i) (2 ^ 178) i (ap (λ (x : ℕ). x - 24) z ∙ left i)
    ∙ ap (λ (x : ℕ). units binary32 s x i)
    (closest_same n (2 ^ 178 * 2 ^ i) q (2 ^ 29) (mul-pos dp (pow_pos i)) (pow_pos 29)
    (mul_assoc (q * 2 ^ i) (2 ^ 149) (2 ^ 29) ∙ mul_assoc q (2 ^ i) (2 ^ 178) ∙ ap (λ (x : ℕ). q * x) (mul_comm (2 ^ i) (2 ^ 178))))
  where
    left : (i : ℕ) → 24 + i - 24 ≡ i
    left i = omega arith

    next : (i : ℕ) → 24 + i ≡ suc (23 + i)
    next i = omega arith

    at : (a b : ℕ) → 2 ^ a * 2 ^ 178 ≡ 2 ^ b * 2 ^ 149 → 2 ^ (a + i) * 2 ^ 178 ≡ 2 ^ b * 2 ^ i * 2 ^ 149
    at a b e =
        ap (λ (x : ℕ). x * 2 ^ 178) (pow-add 2 a i)
        ∙ mul_right_comm (2 ^ a) (2 ^ i) (2 ^ 178)
        ∙ ap (λ (x : ℕ). x * 2 ^ i) e
        ∙ mul_right_comm (2 ^ b) (2 ^ 149) (2 ^ i)

-- ---- by the pattern's fields

-- a field of 0: a subnormal f64 is far below half of the smallest f32
pub narrow-sub : (s : Bool) (t : ℕ) → t < 2 ^ 52 → narrow (from64 s (0 * 2 ^ 52 + t)) ≡ from32 s 0
narrow-sub s t h =
    ap narrow (low-fields binary64 s t h)
    ∙ narrow-odd 53 s t 0 1074 t (2 ^ 1074) (pow_pos 1074) (ap (λ (x : ℕ). x * 2 ^ 1074) (mul-one t))
    ∙ low-round s t 925 (lt_of_lt_of_le h (pow_mono (lit≤ {m = 52} {n = 949} tt)))
    ∙ ap (λ (x : ℕ). units binary32 s x 0)
    (closest-none t (2 ^ 925) (pow_pos 925) (le_trans (twice t h) (pow_mono (lit≤ {m = 53} {n = 925} tt))))
    ∙ to-pattern s 0 0 (inl refl) (lit≤ tt) (lit≤ tt)
  where
    twice : (t : ℕ) → t < 2 ^ 52 → t * 2 ≤ 2 ^ 53
    twice t h = omega arith

pub lead-lo : (t : ℕ) → 2 ^ 52 ≤ 2 ^ 52 + t
lead-lo t = omega arith

pub lead-hi : (t : ℕ) → t < 2 ^ 52 → 2 ^ 52 + t < 2 ^ 53
lead-hi t h = omega arith

-- 30 digits or more are dropped of a significand: what is left is at most 2 ^ 23
pub closest-low : (q d : ℕ) → q < 2 ^ 53 → 30 ≤ d → closest q (2 ^ d) ≤ 2 ^ 23
closest-low q d h D =
    le_trans (nearest-le (q / 2 ^ d) (compare (q % 2 ^ d * 2) (2 ^ d)))
    ((div-lt_iff_lt-mul (pow_pos d)).1 (lt_of_lt_of_le h (mul-le-mul_left (2 ^ 23) (pow_mono D))))

-- up to the field 896, d the number of digits that are dropped
pub narrow-low : (s : Bool) (x t d : ℕ) → t < 2 ^ 52 → x + d ≡ 925 → 30 ≤ d
    → narrow (from64 s (suc x * 2 ^ 52 + t)) ≡ from32 s (closest (2 ^ 52 + t) (2 ^ d))
narrow-low s x t d h e D =
    let q = 2 ^ 52 + t in
    ap narrow (mid-fields binary64 s x t (field x d e) h)
    ∙ narrow-odd 53 s q x 1074 q (2 ^ (149 + d)) (pow_pos (149 + d))
    (mul_assoc q (2 ^ x) (2 ^ (149 + d)) ∙ ap (λ (z : ℕ). q * z) (sym (pow-add 2 x (149 + d)) ∙ ap (λ (z : ℕ). 2 ^ z) (places x d e)))
    ∙ low-round s q d (lt_of_lt_of_le (lead-hi t h) (pow_mono (room d D)))
    ∙ to-pattern s (closest q (2 ^ d)) 0 (inl refl) (le_trans (closest-low q d (lead-hi t h) D) (lit≤ tt)) (lit≤ tt)
    ∙ ap (λ (z : ℕ). from32 s z) (zero-add (closest q (2 ^ d)))
  where
    field : (x d : ℕ) → x + d ≡ 925 → suc x < 2047
    field x d e = omega arith

    places : (x d : ℕ) → x + d ≡ 925 → x + (149 + d) ≡ 1074
    places x d e = omega arith

    room : (d : ℕ) → 30 ≤ d → 53 ≤ 24 + d
    room d h = omega arith

-- 29 digits are dropped: what is left keeps its leading digit
pub mid-lo : (q : ℕ) → 2 ^ 52 ≤ q → 2 ^ 23 ≤ closest q (2 ^ 29)
mid-lo q h = le_trans (whole q h) (nearest-ge (q / 2 ^ 29) (compare (q % 2 ^ 29 * 2) (2 ^ 29)))
  where
    whole : (q : ℕ) → 2 ^ 52 ≤ q → 2 ^ 23 ≤ q / 2 ^ 29
    whole q h = omega arith

pub mid-hi : (q : ℕ) → q < 2 ^ 53 → closest q (2 ^ 29) ≤ 2 ^ 24
mid-hi q h = le_trans (nearest-le (q / 2 ^ 29) (compare (q % 2 ^ 29 * 2) (2 ^ 29))) (whole q h)
  where
    whole : (q : ℕ) → q < 2 ^ 53 → suc (q / 2 ^ 29) ≤ 2 ^ 24
    whole q h = omega arith

-- from the field 897 on: the smallest normal f32, and all above it
pub narrow-units : (s : Bool) (i t : ℕ) → t < 2 ^ 52 → i < 1150
    → narrow (from64 s ((i + 897) * 2 ^ 52 + t)) ≡ units binary32 s (closest (2 ^ 52 + t) (2 ^ 29)) i
narrow-units s i t h I =
    let q = 2 ^ 52 + t in
    ap (λ (z : ℕ). narrow (from64 s (z * 2 ^ 52 + t))) (next i)
    ∙ ap narrow (mid-fields binary64 s (i + 896) t (field i I) h)
    ∙ narrow-odd 53 s q (i + 896) 1074 (q * 2 ^ i) (2 ^ 178) (pow_pos 178)
    (ap (λ (z : ℕ). q * z * 2 ^ 178) (pow-add 2 i 896)
    ∙ ap (λ (z : ℕ). z * 2 ^ 178) (sym (mul_assoc q (2 ^ i) (2 ^ 896)))
    ∙ mul_assoc (q * 2 ^ i) (2 ^ 896) (2 ^ 178))
    ∙ mid-round s q i (lead-lo t) (lead-hi t h)
  where
    next : (i : ℕ) → i + 897 ≡ suc (i + 896)
    next i = omega arith

    field : (i : ℕ) → i < 1150 → suc (i + 896) < 2047
    field i h = omega arith

pub narrow-mid : (s : Bool) (i t : ℕ) → t < 2 ^ 52 → i ≤ 253
    → narrow (from64 s ((i + 897) * 2 ^ 52 + t)) ≡ from32 s (i * 2 ^ 23 + closest (2 ^ 52 + t) (2 ^ 29))
narrow-mid s i t h I =
    narrow-units s i t h (le_trans (suc-le-suc I) (lit≤ tt))
    ∙ to-pattern s (closest (2 ^ 52 + t) (2 ^ 29)) i (inr (mid-lo (2 ^ 52 + t) (lead-lo t))) (mid-hi (2 ^ 52 + t) (lead-hi t h)) I

-- from the field 1151 on: past the range
pub narrow-over : (s : Bool) (i t : ℕ) → t < 2 ^ 52 → 254 ≤ i → i < 1150
    → narrow (from64 s ((i + 897) * 2 ^ 52 + t)) ≡ inf s
narrow-over s i t h I J =
    let c = closest (2 ^ 52 + t) (2 ^ 29) in
    narrow-units s i t h J
    ∙ units-over s c i
    (le_trans (mul-le-mul_left (2 ^ 23) (pow_mono I)) (mul-le-mul_right (2 ^ i) (mid-lo (2 ^ 52 + t) (lead-lo t))))

pub narrow-inf : (s : Bool) → narrow (from64 s 0x7ff0_0000_0000_0000) ≡ inf s
unfolding of_bits narrow
narrow-inf true = refl
narrow-inf false = refl

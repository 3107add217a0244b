-- `narrow` by the f64's pattern a without its sign, in the four ranges that the code tells apart: to zero, to a subnormal f32, to a normal
-- one, past the range.
use mathlib.Core.Path.{◌≡◌, sym, ap, ◌∙◌, subst}
use mathlib.Core.Logic.{◌⊎◌, inl, inr}
use Prim.Native.Nat.{ℕ, zero, suc, ◌+◌, ◌-◌, ◌*◌, ◌/◌, ◌%◌, ◌^◌, ◌≤◌, ◌<◌}
use native.Mathlib.Nat.{div-add-mod', eq-or-lt_of_le, le_of_eq, le_trans, mod-lt, mul-le-mul_right}
use native.Mathlib.Omega.{arith}
use mathlib.Core.Bool.{Bool}
use lib.Dec.{lit<}
use lib.Pow.{pow_pos, pow_mono}
use lib.Ieee.{inf}
use lib.Ieee.Nearest.{closest}
use Rattle.num_narrow.specs.Narrow.{narrow}
use Rattle.num_narrow.proofs.Ties.{closest-is, closest-none}
use Rattle.num_narrow.proofs.Patterns.{either, from32, from64, units-over, wide-pattern}
use Rattle.num_narrow.proofs.Rounding.{narrow-sub, narrow-low, narrow-mid, narrow-over, narrow-units, narrow-inf, mid-lo, mid-hi}
use Rattle.num_narrow.proofs.Rounding.{lead-lo, lead-hi}

-- r is the pattern of the f32 nearest to the f64 of the pattern a, whichever the sign
abbrev pub Narrows : ℕ → ℕ → Type 0
Narrows a r = (s : Bool) → from32 s r ≡ narrow (from64 s a)

cut : (a : ℕ) → a / 2 ^ 52 * 2 ^ 52 + a % 2 ^ 52 ≡ a
cut a = div-add-mod' a (2 ^ 52)

pub digits : (a : ℕ) → a % 2 ^ 52 < 2 ^ 52
digits a = mod-lt a (pow_pos 52)

-- ---- up to half of the smallest f32, a tie to the even 0
pub to-zero : (a : ℕ) → a ≤ 0x3690_0000_0000_0000 → Narrows a 0
to-zero a h s =
    sym
    (ap (λ (z : ℕ). narrow (from64 s z)) (sym (cut a))
    ∙ go (a / 2 ^ 52) (a % 2 ^ 52) (digits a) (subst (λ (z : ℕ). z ≤ 0x3690_0000_0000_0000) (sym (cut a)) h))
  where
    step : (x : ℕ) → x ≤ 872 → x + (925 - x) ≡ 925
    step x h = omega arith

    field : (x t : ℕ) → suc x * 2 ^ 52 + t ≤ 0x3690_0000_0000_0000 → x ≤ 872
    field x t h = omega arith

    drops : (x : ℕ) → x ≤ 872 → 30 ≤ 925 - x
    drops x h = omega arith

    last : (x t : ℕ) → suc x * 2 ^ 52 + t ≤ 0x3690_0000_0000_0000 → x ≡ 872 → (2 ^ 52 + t) * 2 ≤ 2 ^ 53
    last x t h e = omega arith

    other : (t : ℕ) → t < 2 ^ 52 → (2 ^ 52 + t) * 2 ≤ 2 ^ 54
    other t h = omega arith

    far : (x : ℕ) → x < 872 → 54 ≤ 925 - x
    far x h = omega arith

    half : (x t : ℕ) → t < 2 ^ 52 → suc x * 2 ^ 52 + t ≤ 0x3690_0000_0000_0000 → (2 ^ 52 + t) * 2 ≤ 2 ^ (925 - x)
    half x t T h = elim (eq-or-lt_of_le (field x t h)) [
      | inl e ↦ subst (λ (z : ℕ). (2 ^ 52 + t) * 2 ≤ 2 ^ (925 - z)) (sym e) (last x t h e)
      | inr l ↦ le_trans (other t T) (pow_mono (far x l))
    ]

    go : (x t : ℕ) → t < 2 ^ 52 → x * 2 ^ 52 + t ≤ 0x3690_0000_0000_0000 → narrow (from64 s (x * 2 ^ 52 + t)) ≡ from32 s 0
    go zero t T h = narrow-sub s t T
    go (suc x) t T h =
        let X = field x t h in
        narrow-low s x t (925 - x) T (step x X) (drops x X)
        ∙ ap (λ (z : ℕ). from32 s z) (closest-none (2 ^ 52 + t) (2 ^ (925 - x)) (pow_pos (925 - x)) (half x t T h))

-- ---- to a subnormal f32, or up to the smallest normal one: 926 less the exponent's field of the significand's digits are dropped
pub to-subnormal : (a : ℕ) → 2 ^ 52 ≤ a → a < 0x3810_0000_0000_0000 → Narrows a (closest (2 ^ 52 + a % 2 ^ 52) (2 ^ (926 - a / 2 ^ 52)))
to-subnormal a lo hi s = sym (ap (λ (z : ℕ). narrow (from64 s z)) (sym (cut a)) ∙ go (a / 2 ^ 52) (below a lo) (above a hi))
  where
    below : (a : ℕ) → 2 ^ 52 ≤ a → 1 ≤ a / 2 ^ 52
    below a h = omega arith

    above : (a : ℕ) → a < 0x3810_0000_0000_0000 → a / 2 ^ 52 ≤ 896
    above a h = omega arith

    none : 1 ≤ 0 → ⊥
    none h = omega arith

    drops : (x : ℕ) → suc x ≤ 896 → 30 ≤ 926 - suc x
    drops x h = omega arith

    step : (x : ℕ) → suc x ≤ 896 → x + (926 - suc x) ≡ 925
    step x h = omega arith

    go : (x : ℕ) → 1 ≤ x → x ≤ 896 → narrow (from64 s (x * 2 ^ 52 + a % 2 ^ 52)) ≡ from32 s (closest (2 ^ 52 + a % 2 ^ 52) (2 ^ (926 - x)))
    go zero l h = absurd (none l)
    go (suc x) l h = narrow-low s x (a % 2 ^ 52) (926 - suc x) (digits a) (step x h) (drops x h)

-- ---- to a normal f32: the f64 of 29 zero digits and the same value

-- the pattern rounded to 35 digits, a tie to the even one
abbrev pub rounded : ℕ → ℕ
rounded a = (a + 0x0fff_ffff + a / 0x2000_0000 % 2) / 0x2000_0000 * 0x2000_0000

-- 2 ^ 30 * m more changes neither the low bit nor the digits that are dropped
bit-same : (q m : ℕ) → (q + m * 2 ^ 30) / 2 ^ 29 % 2 ≡ q / 2 ^ 29 % 2
bit-same q m = omega arith

div-more : (q m e : ℕ) → (q + m * 2 ^ 30 + 0x0fff_ffff + e) / 2 ^ 29 ≡ (q + 0x0fff_ffff + e) / 2 ^ 29 + m * 2
div-more q m e = omega arith

pub rounded-more : (q m : ℕ) → rounded (q + m * 2 ^ 30) ≡ m * 2 ^ 30 + rounded q
rounded-more q m =
    ap (λ (e : ℕ). (q + m * 2 ^ 30 + 0x0fff_ffff + e) / 2 ^ 29 * 2 ^ 29) (bit-same q m)
    ∙ ap (λ (z : ℕ). z * 2 ^ 29) (div-more q m (q / 2 ^ 29 % 2))
    ∙ spread ((q + 0x0fff_ffff + q / 2 ^ 29 % 2) / 2 ^ 29) m
  where
    spread : (c m : ℕ) → (c + m * 2) * 2 ^ 29 ≡ m * 2 ^ 30 + c * 2 ^ 29
    spread c m = omega arith

module _ (a : ℕ) (lo : 0x3810_0000_0000_0000 ≤ a) (hi : a < 0x47ef_ffff_f000_0000) where
  i : ℕ
  i = a / 2 ^ 52 - 897

  q : ℕ
  q = 2 ^ 52 + a % 2 ^ 52

  c : ℕ
  c = closest q (2 ^ 29)

  c-is : c ≡ (q + (2 ^ 28 - 1) + q / 2 ^ 29 % 2) / 2 ^ 29
  unfolding c
  c-is = closest-is q (2 ^ 28) (lit< tt)

  whole : (i + 897) * 2 ^ 52 + a % 2 ^ 52 ≡ a
  unfolding i
  whole = omega arith

  places : i ≤ 253
  unfolding i
  places = omega arith

  below : i * 2 ^ 23 + c < 0x7f80_0000
  unfolding i q
  below = omega (arith, c-is)

  lead : q + (i + 896) * 2 ^ 22 * 2 ^ 30 ≡ a
  unfolding i q
  lead = omega arith

  again : (i + 896) * 2 ^ 52 + c * 2 ^ 29 ≡ rounded a
  again =
      ap (λ (z : ℕ). (i + 896) * 2 ^ 52 + z * 2 ^ 29) c-is
      ∙ ap (λ (z : ℕ). z + rounded q) (spread i)
      ∙ sym (rounded-more q ((i + 896) * 2 ^ 22))
      ∙ ap rounded lead
    where
      spread : (i : ℕ) → (i + 896) * 2 ^ 52 ≡ (i + 896) * 2 ^ 22 * 2 ^ 30
      spread i = omega arith

  as32 : (s : Bool) → narrow (from64 s a) ≡ from32 s (i * 2 ^ 23 + c)
  unfolding c q
  as32 s = ap (λ (z : ℕ). narrow (from64 s z)) (sym whole) ∙ narrow-mid s i (a % 2 ^ 52) (digits a) places

  as64 : (s : Bool) → from64 s (rounded a) ≡ from32 s (i * 2 ^ 23 + c)
  unfolding c q
  as64 s =
      ap (λ (z : ℕ). from64 s z) (sym again)
      ∙ wide-pattern s c i (mid-lo q (lead-lo (a % 2 ^ 52))) (mid-hi q (lead-hi (a % 2 ^ 52) (digits a))) places below

  pub to-normal : (s : Bool) → from64 s (rounded a) ≡ narrow (from64 s a)
  to-normal s = as64 s ∙ sym (as32 s)

-- ---- past the range: from halfway between the largest f32 and 2 ^ 128 on
pub to-infinity : (a : ℕ) → 0x47ef_ffff_f000_0000 ≤ a → a ≤ 0x7ff0_0000_0000_0000 → (s : Bool) → narrow (from64 s a) ≡ inf s
to-infinity a lo hi s = go (eq-or-lt_of_le hi)
  where
    t : ℕ
    t = a % 2 ^ 52

    whole : (a : ℕ) → 0x47ef_ffff_f000_0000 ≤ a → (a / 2 ^ 52 - 897 + 897) * 2 ^ 52 + a % 2 ^ 52 ≡ a
    whole a h = omega arith

    places : (a : ℕ) → a < 0x7ff0_0000_0000_0000 → a / 2 ^ 52 - 897 < 1150
    places a h = omega arith

    high : (a : ℕ) → 0x47f0_0000_0000_0000 ≤ a → 254 ≤ a / 2 ^ 52 - 897
    high a h = omega arith

    at : (a : ℕ) → 0x47ef_ffff_f000_0000 ≤ a → a < 0x47f0_0000_0000_0000 → a / 2 ^ 52 - 897 ≡ 253
    at a h k = omega arith

    top : (a : ℕ) → 0x47ef_ffff_f000_0000 ≤ a → a < 0x47f0_0000_0000_0000 → 2 ^ 53 - 2 ^ 28 ≤ 2 ^ 52 + a % 2 ^ 52
    top a h k = omega arith

    bit : (q : ℕ) → 2 ^ 53 - 2 ^ 28 ≤ q → q < 2 ^ 53 → q / 2 ^ 29 % 2 ≡ 1
    bit q h k = omega arith

    full : (q e : ℕ) → 2 ^ 53 - 2 ^ 28 ≤ q → e ≡ 1 → 2 ^ 24 ≤ (q + (2 ^ 28 - 1) + e) / 2 ^ 29
    full q e h k = omega arith

    carry : (q : ℕ) → 2 ^ 53 - 2 ^ 28 ≤ q → q < 2 ^ 53 → 2 ^ 24 ≤ closest q (2 ^ 29)
    carry q h k = le_trans (full q (q / 2 ^ 29 % 2) h (bit q h k)) (le_of_eq (sym (closest-is q (2 ^ 28) (lit< tt))))

    finite : a < 0x7ff0_0000_0000_0000 → (a < 0x47f0_0000_0000_0000) ⊎ (0x47f0_0000_0000_0000 ≤ a)
        → narrow (from64 s ((a / 2 ^ 52 - 897 + 897) * 2 ^ 52 + t)) ≡ inf s
    finite l (inr h) = narrow-over s (a / 2 ^ 52 - 897) t (digits a) (high a h) (places a l)
    finite l (inl h) =
        narrow-units s (a / 2 ^ 52 - 897) t (digits a) (places a l)
        ∙ units-over s (closest (2 ^ 52 + t) (2 ^ 29)) (a / 2 ^ 52 - 897)
        (subst (λ (z : ℕ). 2 ^ 277 ≤ closest (2 ^ 52 + t) (2 ^ 29) * 2 ^ z) (sym (at a lo h))
        (mul-le-mul_right (2 ^ 253) (carry (2 ^ 52 + t) (top a lo h) (lead-hi t (digits a)))))

    go : (a ≡ 0x7ff0_0000_0000_0000) ⊎ (a < 0x7ff0_0000_0000_0000) → narrow (from64 s a) ≡ inf s
    go (inl e) = ap (λ (z : ℕ). narrow (from64 s z)) e ∙ narrow-inf s
    go (inr l) = ap (λ (z : ℕ). narrow (from64 s z)) (sym (whole a lo)) ∙ finite l (either a 0x47f0_0000_0000_0000)

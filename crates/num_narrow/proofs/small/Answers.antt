-- `num_narrow::small` meets its contract: up to half of the smallest f32 by `to-zero`, above it by `to-subnormal`, where `closest-is` says that
-- the sum and the shift
-- round to the nearest. At most 53 digits are dropped, so no sum wraps.
use mathlib.Core.Path.{◌≡◌, sym, ap, ◌∙◌, subst}
use Prim.Native.Nat.{ℕ, suc, ◌+◌, ◌-◌, ◌*◌, ◌/◌, ◌%◌, ◌^◌, ◌≤◌, ◌<◌}
use native.Mathlib.Nat.{le_of_eq, le_trans, lt_of_le_of_lt, mod-eq_of_lt, one-mul, pow-succ'}
use native.Mathlib.Omega.{arith}
use lib.Dec.{lit<, lit≤}
use lib.Pow.{pow_pos, pow_mono}
use lib.Ieee.Nearest.{closest}
use Rattle.num_narrow.proofs.Ties.{closest-is}
use Rattle.num_narrow.proofs.Patterns.{from32}
use Rattle.num_narrow.proofs.Rounding.{closest-low, lead-hi}
use Rattle.num_narrow.proofs.Cases.{Narrows, digits, to-zero, to-subnormal}
use Rattle.num_narrow.proofs.small.Goals as goal

-- `1 << (d - 1)`, half of a unit of d digits
abbrev half : ℕ → ℕ
half d = 1 * 2 ^ (d - 1) % 2 ^ 64

half_is : (d : ℕ) → d ≤ 53 → half d ≡ 2 ^ (d - 1)
half_is d h =
    ap (λ (x : ℕ). x % 2 ^ 64) (one-mul (2 ^ (d - 1)))
    ∙ mod-eq_of_lt (lt_of_le_of_lt (pow_mono (less d h)) (lit< {m = 2 ^ 52} {n = 2 ^ 64} tt))
  where
    less : (d : ℕ) → d ≤ 53 → d - 1 ≤ 52
    less d h = omega arith

half_pos : (d : ℕ) → d ≤ 53 → 0 < half d
half_pos d h = subst (λ (x : ℕ). 0 < x) (sym (half_is d h)) (pow_pos (d - 1))

half_le : (d : ℕ) → d ≤ 53 → half d ≤ 2 ^ 52
half_le d h = le_trans (le_of_eq (half_is d h)) (pow_mono (less d h))
  where
    less : (d : ℕ) → d ≤ 53 → d - 1 ≤ 52
    less d h = omega arith

twice_half : (d : ℕ) → 1 ≤ d → d ≤ 53 → 2 * half d ≡ 2 ^ d
twice_half d l h = ap (λ (x : ℕ). 2 * x) (half_is d h) ∙ sym (pow-succ' 2 (d - 1)) ∙ ap (λ (x : ℕ). 2 ^ x) (back d l)
  where
    back : (d : ℕ) → 1 ≤ d → suc (d - 1) ≡ d
    back d h = omega arith

abbrev sum : ℕ → ℕ → ℕ
sum q d = q + (half d - 1) + q / 2 ^ d % 2

shifted : (q d : ℕ) → 1 ≤ d → d ≤ 53 → closest q (2 ^ d) ≡ sum q d / 2 ^ d
shifted q d l h =
    ap (λ (u : ℕ). closest q u) (sym (twice_half d l h))
    ∙ closest-is q (half d) (half_pos d h)
    ∙ ap (λ (u : ℕ). (q + (half d - 1) + q / u % 2) / u) (twice_half d l h)

-- ---- the numbers of the code
abbrev dropped : ℕ → ℕ
dropped a = 926 - a / 2 ^ 52

dropped-lo : (a : ℕ) → a < 0x3810_0000_0000_0000 → 30 ≤ dropped a
dropped-lo a h = omega arith

dropped-hi : (a : ℕ) → 0x3690_0000_0000_0000 < a → dropped a ≤ 53
dropped-hi a h = omega arith

abbrev lead : ℕ → ℕ
lead a = 2 ^ 52 + a % 2 ^ 52

result-is : (a : ℕ) → 0x3690_0000_0000_0000 < a → a < 0x3810_0000_0000_0000
    → closest (lead a) (2 ^ dropped a) ≡ sum (lead a) (dropped a) / 2 ^ dropped a
result-is a lo hi = shifted (lead a) (dropped a) (le_trans (lit≤ {m = 1} {n = 30} tt) (dropped-lo a hi)) (dropped-hi a lo)

result-le : (a : ℕ) → 0x3690_0000_0000_0000 < a → a < 0x3810_0000_0000_0000 → sum (lead a) (dropped a) / 2 ^ dropped a ≤ 0x80_0000
result-le a lo hi =
    le_trans (le_of_eq (sym (result-is a lo hi))) (closest-low (lead a) (dropped a) (lead-hi (a % 2 ^ 52) (digits a)) (dropped-lo a hi))

result-narrows : (a : ℕ) → 0x3690_0000_0000_0000 < a → a < 0x3810_0000_0000_0000 → Narrows a (sum (lead a) (dropped a) / 2 ^ dropped a)
result-narrows a lo hi s = ap (λ (r : ℕ). from32 s r) (sym (result-is a lo hi)) ∙ to-subnormal a (le_trans (lit≤ tt) lo) hi s

-- ---- the needs
pub returns-then-a-le3931642474694443008 : goal.returns-then-a-le3931642474694443008
returns-then-a-le3931642474694443008 c = (lit≤ tt, to-zero c.args.a (omega arith))

pub overflow_sub-result-2 : goal.overflow_sub-result-2
overflow_sub-result-2 c =
    let above : 0x3690_0000_0000_0000 < c.args.a = omega arith in
    omega (arith, half_pos (dropped c.args.a) (dropped-hi c.args.a above))

pub overflow_add-result : goal.overflow_add-result
overflow_add-result c =
    let above : 0x3690_0000_0000_0000 < c.args.a = omega arith in
    omega (arith, half_le (dropped c.args.a) (dropped-hi c.args.a above))

pub overflow_add-result-2 : goal.overflow_add-result-2
overflow_add-result-2 c =
    let above : 0x3690_0000_0000_0000 < c.args.a = omega arith in
    omega (arith, half_le (dropped c.args.a) (dropped-hi c.args.a above))

pub overflow_cast-result : goal.overflow_cast-result
overflow_cast-result c =
    let above : 0x3690_0000_0000_0000 < c.args.a = omega arith in
    let under : c.args.a < 0x3810_0000_0000_0000 = omega arith in
    omega (arith, result-le c.args.a above under)

pub returns : goal.returns
returns c =
    let above : 0x3690_0000_0000_0000 < c.args.a = omega arith in
    let under : c.args.a < 0x3810_0000_0000_0000 = omega arith in
    (result-le c.args.a above under, result-narrows c.args.a above under)

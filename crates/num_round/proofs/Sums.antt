-- The sum that rounds: the bits of h + 67108864.5 have h rounded half away from zero, for an f32 h that is 0 or more and below 2 ^ 24.
-- `small_is` says so of an x below 2 ^ 24, held from below by 0. Assumes nothing.
use mathlib.Core.Path.{◌≡◌, refl, sym, ap, ap₂, ◌∙◌, subst}
use Prim.Native.Nat.{ℕ, zero, suc, ◌+◌, ◌*◌, ◌/◌, ◌%◌, ◌^◌, ◌≤◌, ◌<◌, min}
use native.Mathlib.Nat.{mul_comm, zero-min, div-eq_of_lt, div-add-mod', mod-lt, mod-eq_of_lt, div-lt_iff_lt-mul}
use native.Mathlib.Omega.{arith}
use native.Mathlib.Decide.{dec_le}
use mathlib.Core.Bool.{Bool, true, false, not, ◌&&◌, cond}
use lib.IntN.{ℤ, pos, negsuc}
use lib.Dec.{T, lit≤, lit<, eqb, leb, ltb, ltb→lt}
use lib.Pow.{pow_pos, pow_mono}
use lib.Ieee.{Float, nan, inf, fin, binary32, binary64, up, down, round, add, lt, fits, is_nan, to_bits}
use lib.Ieee.Exact.{HasValue}
use lib.Ieee.Fits.{and_l, and_r, down_pos}
use lib.Ieee.Nearest.{closest}
use borrow.Author.Tests.{ltb-false}
use Rattle.num_round.specs.Whole.{round_held}
use Rattle.num_round.proofs.Scaled.{scaled, closest-ge, closest-le, units-value, bits_are}

-- ---- N / M is what is to be cut to its whole part, and the sum is 2 ^ 26 + N / M
-- `gap`: N / M is not so close below a whole number that the sum is rounded up to it
module _ (N M : ℕ) (some : 0 < M) (under : N < 2 ^ 26 * M) (gap : N % M * 2 ^ 26 ≤ 67108863 * M) where
  abbrev kept : ℕ
  kept = closest ((2 ^ 26 * M + N) * 2 ^ 26) M

  kept-ge : 2 ^ 26 * (2 ^ 26 + N / M) ≤ kept
  kept-ge = closest-ge ((2 ^ 26 * M + N) * 2 ^ 26) M (2 ^ 26 * (2 ^ 26 + N / M)) some (omega (arith, div-add-mod' N M))

  kept-le : kept ≤ 2 ^ 26 * (2 ^ 26 + N / M) + 67108863
  kept-le = closest-le ((2 ^ 26 * M + N) * 2 ^ 26) M (2 ^ 26 * (2 ^ 26 + N / M) + 67108863) some (omega (arith, div-add-mod' N M))

  -- the pattern ends in 26 digits of the whole part and 26 of the fraction
  digits : (q w : ℕ) → w < 2 ^ 26 → 2 ^ 26 * (2 ^ 26 + w) ≤ q → q ≤ 2 ^ 26 * (2 ^ 26 + w) + 67108863
      → (2 ^ 52 ≤ q) × (q < 2 ^ 53) × ((1048 * 2 ^ 52 + q) / 67108864 % 67108864 ≡ w)
  digits q w a b c = (omega arith, omega arith, omega arith)

  kept-digits : (2 ^ 52 ≤ kept) × (kept < 2 ^ 53) × ((1048 * 2 ^ 52 + kept) / 67108864 % 67108864 ≡ N / M)
  kept-digits = digits kept (N / M) ((div-lt_iff_lt-mul some).1 under) kept-ge kept-le

  cut-value : HasValue (round binary64 false (2 ^ 26 * M + N) M) false (kept * 2 ^ 1048) (2 ^ 1074)
  cut-value =
      rw (scaled (2 ^ 26 * M + N) M 26 1048 refl some (omega arith) (omega arith)) (units-value kept 1048 (lit≤ tt) kept-digits.1)

  cut-bits : to_bits binary64 (round binary64 false (2 ^ 26 * M + N) M) / 67108864 % 67108864 ≡ N / M
  cut-bits =
      ap (λ (z : ℕ). z / 67108864 % 67108864)
      (bits_are (round binary64 false (2 ^ 26 * M + N) M) kept 1048 cut-value kept-digits.0 kept-digits.1)
      ∙ kept-digits.2

-- ---- an f32 has the gap: one of a quarter or more has no digit below 2 ^ -26, and with less than that the sum stays far from 1
gap-coarse : (n d : ℕ) → 0 < d → d ≤ 33554432 → (2 * n + d) % (2 * d) * 67108864 ≤ 67108863 * (2 * d)
gap-coarse n d p h = let l : (2 * n + d) % (2 * d) < 2 * d = mod-lt (2 * n + d) (twice d p) in omega arith
  where
    twice : (d : ℕ) → 0 < d → 0 < 2 * d
    twice d p = omega arith

gap-fine : (n d : ℕ) → 0 < d → 4 * n ≤ d → (2 * n + d) % (2 * d) * 67108864 ≤ 67108863 * (2 * d)
gap-fine n d p h = let l : (2 * n + d) % (2 * d) ≡ 2 * n + d = mod-eq_of_lt (below n d p h) in omega arith
  where
    below : (n d : ℕ) → 0 < d → 4 * n ≤ d → 2 * n + d < 2 * d
    below n d p h = omega arith

quarter : (m d : ℕ) → m < 2 ^ 24 → 2 ^ 26 ≤ d → 4 * (m * 1) ≤ d
quarter m d a b = omega arith

gap_at : (m : ℕ) (e : ℤ) → m < 2 ^ 24 → (2 * (m * up e) + down e) % (2 * down e) * 67108864 ≤ 67108863 * (2 * down e)
gap_at m (pos k) h = gap-coarse (m * 2 ^ k) 1 (lit< tt) (lit≤ tt)
gap_at m (negsuc k) h = elim (dec_le (suc k) 25) [
  | yes l ↦ gap-coarse (m * 1) (2 ^ suc k) (pow_pos (suc k)) (pow_mono l)
  | no g ↦ gap-fine (m * 1) (2 ^ suc k) (pow_pos (suc k)) (quarter m (2 ^ suc k) h (pow_mono {i = 26} {j = suc k} (omega arith)))
]

-- ---- the sum, at an f32 that is 0 or more and below 2 ^ 24
abbrev pub half_up : Float
half_up = fin false 134217729 (negsuc 0)

sum_is : (m : ℕ) (e : ℤ)
    → add binary64 (fin false m e) half_up ≡ round binary64 false (2 ^ 26 * (2 * down e) + (2 * (m * up e) + down e)) (2 * down e)
unfolding add
sum_is m e = ap₂ (λ (a c : ℕ). round binary64 false a c) (parts (m * up e) (down e)) (mul_comm (down e) 2)
  where
    parts : (n d : ℕ) → n * 2 + 134217729 * d ≡ 2 ^ 26 * (2 * d) + (2 * n + d)
    parts n d = omega arith

no_nan : (x : Float) (s : Bool) (a c : ℕ) → HasValue x s a c → T (not (is_nan x))
unfolding is_nan
no_nan nan s a c v = v
no_nan (inf t) s a c v = tt
no_nan (fin t m e) s a c v = tt

module _ (m : ℕ) (e : ℤ) (few : m < 2 ^ 24) (low : m * up e < 2 ^ 24 * down e) where
  room : (n d : ℕ) → 0 < d → n < 2 ^ 24 * d → (0 < 2 * d) × (2 * n + d < 2 ^ 26 * (2 * d))
  room n d p h = (omega arith, omega arith)

  in-range : (0 < 2 * down e) × (2 * (m * up e) + down e < 2 ^ 26 * (2 * down e))
  in-range = room (m * up e) (down e) (down_pos e) low

  pub sum-bits : to_bits binary64 (add binary64 (fin false m e) half_up) / 67108864 % 67108864 ≡ (2 * (m * up e) + down e) / (2 * down e)
  sum-bits = rw (sum_is m e) (cut-bits (2 * (m * up e) + down e) (2 * down e) in-range.0 in-range.1 (gap_at m e few))

  pub sum-no-nan : T (not (is_nan (add binary64 (fin false m e) half_up)))
  sum-no-nan = rw (sum_is m e) (no_nan _ _ _ _ (cut-value (2 * (m * up e) + down e) (2 * down e) in-range.0 in-range.1 (gap_at m e few)))

-- ---- x held from below by 0
abbrev pub from_zero : Float → Float
from_zero x = cond (lt (fin false 0 (pos 0)) x) x (fin false 0 (pos 0))

-- that is a number m * 2 ^ e below 2 ^ 24, and rounds as x does
record Held (x : Float) : Type 0 where
  m : ℕ
  e : ℤ
  is : from_zero x ≡ fin false m e
  few : m < 2 ^ 24
  low : m * up e < 2 ^ 24 * down e
  rounds : (last : ℕ) → round_held last x ≡ min ((2 * (m * up e) + down e) / (2 * down e)) last

pub few-digits : (s : Bool) (m : ℕ) (e : ℤ) → T (fits binary32 (fin s m e)) → m < 2 ^ 24
unfolding fits
few-digits s zero e t = lit< tt
few-digits s (suc m) e t =
    let a : Bool = eqb (suc m % 2) 1 in
    let b : Bool = ltb (suc m) (2 ^ 24) in
    let c : Bool = leb (down e) (2 ^ 149) in
    ltb→lt (suc m) (2 ^ 24) (and_r a b (and_l (a && b) c (and_l (a && b && c) (ltb (suc m * up e) (2 ^ 128 * down e)) t)))

at_zero : (x : Float) → from_zero x ≡ fin false 0 (pos 0) → ((last : ℕ) → round_held last x ≡ 0) → Held x
at_zero x p r = record {
  m = 0;
  e = pos 0;
  is = p;
  few = lit< tt;
  low = lit< tt;
  rounds = λ last. r last ∙ sym (zero-min last);
}

pub zero-rounds : (n d last : ℕ) → 0 < d → n ≤ 0 → min ((2 * n + d) / (2 * d)) last ≡ 0
zero-rounds n d last p h = ap (λ (z : ℕ). min z last) (div-eq_of_lt (under n d p h)) ∙ zero-min last
  where
    under : (n d : ℕ) → 0 < d → n ≤ 0 → 2 * n + d < 2 * d
    under n d p h = omega arith

by_sign : (m : ℕ) (e : ℤ) (b : Bool) → lt (fin false 0 (pos 0)) (fin false m e) ≡ b → m < 2 ^ 24 → m * up e < 2 ^ 24 * down e
    → Held (fin false m e)
unfolding lt round_held
by_sign m e true p few low = record {
  m = m;
  e = e;
  is = ap (λ (b : Bool). cond b (fin false m e) (fin false 0 (pos 0))) p;
  few = few;
  low = low;
  rounds = λ last. refl;
}
by_sign m e false p few low =
    at_zero (fin false m e) (ap (λ (b : Bool). cond b (fin false m e) (fin false 0 (pos 0))) p)
    (λ last. zero-rounds (m * up e) (down e) last (down_pos e) (none (m * up e) (down e) (ltb-false _ _ p)))
  where
    none : (n d : ℕ) → n * 1 ≤ 0 * d → n ≤ 0
    none n d h = omega arith

held : (x : Float) → T (fits binary32 x) → T (lt x (fin false 1 (pos 24))) → Held x
unfolding lt round_held
held nan f l = absurd l
held (inf true) f l = at_zero (inf true) refl (λ last. refl)
held (inf false) f l = absurd l
held (fin true m e) f l = at_zero (fin true m e) refl (λ last. refl)
held (fin false m e) f l =
    by_sign m e (lt (fin false 0 (pos 0)) (fin false m e)) refl (few-digits false m e f)
    (one (m * up e) (down e) (ltb→lt (m * up e * 1) (16777216 * down e) l))
  where
    one : (n d : ℕ) → n * 1 < 16777216 * d → n < 16777216 * d
    one n d h = omega arith

-- ---- what the code asks of an x below 2 ^ 24
module _ (x : Float) (fit : T (fits binary32 x)) (below : T (lt x (fin false 1 (pos 24)))) where
  pub held-no-nan : T (not (is_nan (from_zero x)))
  unfolding is_nan
  held-no-nan = subst (λ (h : Float). T (not (is_nan h))) (sym (held x fit below).is) tt

  pub added-no-nan : T (not (is_nan (add binary64 (from_zero x) half_up)))
  added-no-nan =
      let s = held x fit below in
      subst (λ (h : Float). T (not (is_nan (add binary64 h half_up)))) (sym s.is) (sum-no-nan s.m s.e s.few s.low)

  pub small_is : (last : ℕ) → min (to_bits binary64 (add binary64 (from_zero x) half_up) / 67108864 % 67108864) last ≡ round_held last x
  small_is last =
      let s = held x fit below in
      ap (λ (h : Float). min (to_bits binary64 (add binary64 h half_up) / 67108864 % 67108864) last) s.is
      ∙ ap (λ (n : ℕ). min n last) (sum-bits s.m s.e s.few s.low)
      ∙ sym (s.rounds last)

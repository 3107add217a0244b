-- An f32 that is not below 2 ^ 24: a NaN, an infinity, or a whole number, which rounding leaves as it is.
-- Assumes nothing.
use mathlib.Core.Path.{◌≡◌, refl, sym, ap, ◌∙◌, subst}
use Prim.Native.Nat.{ℕ, suc, ◌+◌, ◌*◌, ◌/◌, ◌%◌, ◌^◌, ◌≤◌, ◌<◌, min}
use native.Mathlib.Nat.{le_trans, le_of_lt, mul-pos, div-one, mod-one, min-eq_right, le-div_iff_mul-le}
use native.Mathlib.Omega.{arith}
use mathlib.Core.Bool.{true, false, not, ◌&&◌, true≢false}
use lib.IntN.{pos, negsuc}
use lib.Dec.{T, lit≤, lit<, eqb, leb, ltb, ltb→lt, lt→ltb, le→leb}
use lib.Pow.{pow_pos}
use lib.Ieee.{Float, nan, inf, fin, binary32, binary64, up, down, lt, ne, fits, is_nan, whole, in_unsigned, to_unsigned}
use lib.Ieee.Casts.{to_unsigned_cut}
use lib.Ieee.Compare.{differs_from_itself}
use lib.Ieee.Fits.{and_i, down_pos}
use borrow.Author.Tests.{ltb-false}
use Rattle.num_round.specs.Whole.{round_held}
use Rattle.num_round.proofs.Sums.{few-digits}

-- a negative value is below every positive one
no-negative : (n d p : ℕ) → 0 < d → 0 < p → ltb 0 (n + p * d) ≡ false → ⊥
no-negative n d p D P h = let z : n + p * d ≤ 0 = ltb-false 0 (n + p * d) h in omega (arith, mul-pos P D)

-- with 24 digits there is no fraction from 2 ^ 24 on
no_fraction : (m k : ℕ) → m < 2 ^ 24 → 2 ^ 24 * 2 ^ suc k ≤ m * 1 → ⊥
no_fraction m k h l = omega (arith, pow_pos (suc k))

-- ---- from 2 ^ 24 up to 2 ^ 32
pub record WholeNumber (x : Float) : Type 0 where
  pub m : ℕ
  pub k : ℕ
  pub is : x ≡ fin false m (pos k)
  pub under : m * 2 ^ k < 2 ^ 32

pub whole_is : (x : Float) → T (fits binary32 x) → lt x (fin false 1 (pos 24)) ≡ false → T (lt x (fin false 1 (pos 32)))
    → WholeNumber x
unfolding lt
whole_is nan f a b = absurd b
whole_is (inf true) f a b = absurd (true≢false a)
whole_is (inf false) f a b = absurd b
whole_is (fin true m e) f a b = absurd (no-negative (m * up e * 1) (down e) (2 ^ 24) (down_pos e) (lit< tt) a)
whole_is (fin false m (pos k)) f a b =
    record { m = m; k = k; is = refl; under = one (m * 2 ^ k) (ltb→lt (m * 2 ^ k * 1) 4294967296 b) }
  where
    one : (n : ℕ) → n * 1 < 4294967296 → n < 4294967296
    one n h = omega arith
whole_is (fin false m (negsuc k)) f a b =
    absurd (no_fraction m k (few-digits false m (negsuc k) f) (one m (2 ^ suc k) (ltb-false _ _ a)))
  where
    one : (m p : ℕ) → 16777216 * p ≤ m * 1 * 1 → 16777216 * p ≤ m * 1
    one m p h = omega arith

pub whole-no-nan : (x : Float) → WholeNumber x → T (not (is_nan x))
unfolding is_nan
whole-no-nan x w = subst (λ (z : Float). T (not (is_nan z))) (sym w.is) tt

-- nothing is cut off, and it is below 2 ^ 53, up to which an f64 counts every whole number
counts : (m k : ℕ) → m * 2 ^ k < 2 ^ 32 → T (in_unsigned binary64 32 (fin false m (pos k)))
unfolding whole in_unsigned
counts m k h = tests (m * 2 ^ k) h
  where
    tests : (n : ℕ) → n < 2 ^ 32 → T (eqb (n % 1) 0 && leb (n / 1) (2 ^ 53) && true && (true && ltb (n / 1) (2 ^ 32)))
    tests n h =
        rw (mod-one, div-one)
        (and_i (eqb 0 0 && leb n (2 ^ 53) && true) (true && ltb n (2 ^ 32))
        (and_i (leb n (2 ^ 53)) true (le→leb n (2 ^ 53) (le_trans (le_of_lt h) (lit≤ tt))) tt)
        (lt→ltb n (2 ^ 32) h))

pub whole-counts : (x : Float) → WholeNumber x → T (in_unsigned binary64 32 x)
whole-counts x w = subst (λ (z : Float). T (in_unsigned binary64 32 z)) (sym w.is) (counts w.m w.k w.under)

stays : (n : ℕ) → n / 1 ≡ (2 * n + 1) / 2
stays n = div-one n ∙ half n
  where
    half : (n : ℕ) → n ≡ (2 * n + 1) / 2
    half n = omega arith

pub whole-rounds : (last : ℕ) (x : Float) → WholeNumber x → min (to_unsigned 32 x) last ≡ round_held last x
unfolding round_held
whole-rounds last x w =
    ap (λ (z : Float). min (to_unsigned 32 z) last) w.is
    ∙ ap (λ (n : ℕ). min n last)
    (to_unsigned_cut binary64 32 false w.m (pos w.k) (counts w.m w.k w.under) ∙ stays (w.m * 2 ^ w.k))
    ∙ ap (λ (z : Float). round_held last z) (sym w.is)

-- ---- a NaN
pub nan-rounds : (last : ℕ) (x : Float) → ne x x ≡ true → 0 ≡ round_held last x
unfolding round_held
nan-rounds last x h = ap (λ (z : Float). round_held last z) (sym (differs_from_itself x (subst T (sym h) tt)))

-- ---- from 2 ^ 32 on
past : (n d last : ℕ) → 0 < d → last < 2 ^ 32 → 2 ^ 32 * d ≤ n → last ≡ min ((2 * n + d) / (2 * d)) last
past n d last D l h = sym (min-eq_right (le_trans (le_of_lt l) ((le-div_iff_mul-le (twice d D)).1 (double n d h))))
  where
    twice : (d : ℕ) → 0 < d → 0 < 2 * d
    twice d D = omega arith

    double : (n d : ℕ) → 2 ^ 32 * d ≤ n → 2 ^ 32 * (2 * d) ≤ 2 * n + d
    double n d h = omega arith

pub past-rounds : (last : ℕ) (x : Float) → last < 2 ^ 32 → lt x (fin false 1 (pos 32)) ≡ false → ne x x ≡ false
    → last ≡ round_held last x
unfolding lt ne round_held
past-rounds last nan l a b = absurd (true≢false b)
past-rounds last (inf true) l a b = absurd (true≢false a)
past-rounds last (inf false) l a b = refl
past-rounds last (fin true m e) l a b = absurd (no-negative (m * up e * 1) (down e) (2 ^ 32) (down_pos e) (lit< tt) a)
past-rounds last (fin false m e) l a b =
    past (m * up e) (down e) last (down_pos e) l (one (m * up e) (down e) (ltb-false _ _ a))
  where
    one : (n d : ℕ) → 4294967296 * d ≤ n * 1 → 4294967296 * d ≤ n
    one n d h = omega arith

-- Any x held to 0..last in floats, where last is a whole number below 2 ^ 24: what is kept rounds as x does, and needs no further hold.
-- Assumes nothing.
use mathlib.Core.Path.{◌≡◌, refl, sym, ap, ◌∙◌, subst}
use Prim.Native.Nat.{ℕ, suc, ◌+◌, ◌*◌, ◌/◌, ◌%◌, ◌^◌, ◌≤◌, ◌<◌}
use native.Mathlib.Nat.{le_of_lt, le_of_eq, lt_of_lt_of_le, le_trans, le_of_suc-le-suc, mul-lt-mul_of_pos_right, lt_of_mul-lt-mul_right, le_of_mul-le-mul_right}
use native.Mathlib.Nat.{mul_right_comm, mul-one, mul-le-mul_left, min-eq_left, min-eq_right, le-div_iff_mul-le, div-lt_iff_lt-mul}
use native.Mathlib.Omega.{arith}
use mathlib.Core.Bool.{Bool, true, false, not, cond, true≢false}
use lib.IntN.{ℤ, pos}
use lib.Dec.{T, lit<}
use lib.Ieee.{Float, nan, inf, fin, binary32, binary64, up, down, add, lt, fits, is_nan, of_int, to_bits}
use lib.Ieee.Back.{round_whole}
use lib.Ieee.Exact.{HasValue}
use lib.Ieee.Fits.{down_pos}
use borrow.Author.Tests.{ltb-true, ltb-false}
use Rattle.num_round.specs.Whole.{round_held}
use Rattle.num_round.proofs.Sums.{half_up, from_zero, few-digits, zero-rounds, sum-bits, sum-no-nan}

abbrev pub up_to : Float → Float → Float
up_to top x = cond (lt (from_zero x) top) (from_zero x) top

-- that is a number m * 2 ^ e below 2 ^ 24
record Kept (last : ℕ) (top x : Float) : Type 0 where
  m : ℕ
  e : ℤ
  is : up_to top x ≡ fin false m e
  few : m < 2 ^ 24
  low : m * up e < 2 ^ 24 * down e
  rounds : round_held last x ≡ (2 * (m * up e) + down e) / (2 * down e)

-- ---- n / d beside the whole number w
twice : (d : ℕ) → 0 < d → 0 < 2 * d
twice d p = omega arith

under_whole : (n d w : ℕ) → 0 < d → n < w * d → (2 * n + d) / (2 * d) ≤ w
under_whole n d w p h = le_of_suc-le-suc ((div-lt_iff_lt-mul (twice d p)).1 (hi n d w p h))
  where
    hi : (n d w : ℕ) → 0 < d → n < w * d → 2 * n + d < suc w * (2 * d)
    hi n d w p h = omega arith

past-whole : (n d w : ℕ) → 0 < d → w * d ≤ n → w ≤ (2 * n + d) / (2 * d)
past-whole n d w p h = (le-div_iff_mul-le (twice d p)).1 (lo n d w h)
  where
    lo : (n d w : ℕ) → w * d ≤ n → w * (2 * d) ≤ 2 * n + d
    lo n d w h = omega arith

at-whole : (n d w : ℕ) → 0 < d → n ≡ w * d → (2 * n + d) / (2 * d) ≡ w
at-whole n d w p h =
    let lo : w ≤ (2 * n + d) / (2 * d) = past-whole n d w p (le_of_eq (sym h)) in
    let hi : (2 * n + d) / (2 * d) < suc w = (div-lt_iff_lt-mul (twice d p)).1 (under n d w p h) in
    omega arith
  where
    under : (n d w : ℕ) → 0 < d → n ≡ w * d → 2 * n + d < suc w * (2 * d)
    under n d w p h = omega arith

below_all : (n d w : ℕ) → 0 < d → n < w * d → w < 2 ^ 24 → n < 2 ^ 24 * d
below_all n d w p h s = omega (arith, mul-lt-mul_of_pos_right s p)

-- ---- the float of last is t * 2 ^ g
module _ (last t : ℕ) (g : ℤ) (few : t < 2 ^ 24) (small : last < 2 ^ 24) (value : t * up g ≡ last * down g) where
  abbrev top : Float
  top = fin false t g

  at_top : (x : Float) → up_to top x ≡ top → round_held last x ≡ last → Kept last top x
  at_top x p r = record {
    m = t;
    e = g;
    is = p;
    few = few;
    low = omega (arith, value, mul-lt-mul_of_pos_right small (down_pos g));
    rounds = r ∙ sym (at-whole (t * up g) (down g) last (down_pos g) value);
  }

  -- a fraction n / d beside last, from the two as floats
  cross : (d : ℕ) → t * up g * d ≡ last * d * down g
  cross d = ap (λ (z : ℕ). z * d) value ∙ mul_right_comm last (down g) d

  at_zero : (x : Float) → from_zero x ≡ fin false 0 (pos 0) → round_held last x ≡ 0 → Kept last top x
  unfolding lt round_held
  at_zero x p r = go (lt (fin false 0 (pos 0)) top) refl
    where
      nothing : (n d w : ℕ) → 0 < d → n ≡ w * d → n * 1 ≤ 0 * d → w ≡ 0
      nothing n d w p e h = omega (arith, mul-le-mul_left w p, mul-one w)

      none : lt (fin false 0 (pos 0)) top ≡ false → last ≡ 0
      none q = nothing (t * up g) (down g) last (down_pos g) value (ltb-false (0 * down g) (t * up g * 1) q)

      go : (b : Bool) → lt (fin false 0 (pos 0)) top ≡ b → Kept last top x
      go true q = record {
        m = 0;
        e = pos 0;
        is = ap (λ (h : Float). cond (lt h top) h top) p ∙ ap (λ (b : Bool). cond b (fin false 0 (pos 0)) top) q;
        few = lit< tt;
        low = lit< tt;
        rounds = r;
      }
      go false q =
          at_top x (ap (λ (h : Float). cond (lt h top) h top) p ∙ ap (λ (b : Bool). cond b (fin false 0 (pos 0)) top) q) (r ∙ sym (none q))

  at-number : (m : ℕ) (e : ℤ) → from_zero (fin false m e) ≡ fin false m e → m < 2 ^ 24 → Kept last top (fin false m e)
  unfolding lt round_held
  at-number m e p digits = go (lt x top) refl
    where
      x : Float
      x = fin false m e

      go : (b : Bool) → lt x top ≡ b → Kept last top x
      go true q =
          let n : m * up e < last * down e =
          lt_of_mul-lt-mul_right (down g) (lt_of_lt_of_le (ltb-true (m * up e * down g) (t * up g * down e) q) (le_of_eq (cross (down e)))) in
          record {
            m = m;
            e = e;
            is = ap (λ (h : Float). cond (lt h top) h top) p ∙ ap (λ (b : Bool). cond b x top) q;
            few = digits;
            low = below_all (m * up e) (down e) last (down_pos e) n small;
            rounds = min-eq_left (under_whole (m * up e) (down e) last (down_pos e) n);
          }
      go false q =
          let n : last * down e ≤ m * up e =
          le_of_mul-le-mul_right (le_trans (le_of_eq (sym (cross (down e)))) (ltb-false (m * up e * down g) (t * up g * down e) q)) (down_pos g) in
          at_top x (ap (λ (h : Float). cond (lt h top) h top) p ∙ ap (λ (b : Bool). cond b x top) q)
          (min-eq_right (past-whole (m * up e) (down e) last (down_pos e) n))

  by_sign : (m : ℕ) (e : ℤ) (b : Bool) → lt (fin false 0 (pos 0)) (fin false m e) ≡ b → m < 2 ^ 24 → Kept last top (fin false m e)
  unfolding lt round_held
  by_sign m e true p digits = at-number m e (ap (λ (b : Bool). cond b (fin false m e) (fin false 0 (pos 0))) p) digits
  by_sign m e false p digits =
      at_zero (fin false m e) (ap (λ (b : Bool). cond b (fin false m e) (fin false 0 (pos 0))) p)
      (zero-rounds (m * up e) (down e) last (down_pos e) (none (m * up e) (down e) (ltb-false _ _ p)))
    where
      none : (n d : ℕ) → n * 1 ≤ 0 * d → n ≤ 0
      none n d h = omega arith

  kept_at : (x : Float) → T (fits binary32 x) → Kept last top x
  unfolding lt round_held
  kept_at nan f = at_zero nan refl refl
  kept_at (inf true) f = at_zero (inf true) refl refl
  kept_at (inf false) f = at_top (inf false) refl refl
  kept_at (fin true m e) f = at_zero (fin true m e) refl refl
  kept_at (fin false m e) f = by_sign m e (lt (fin false 0 (pos 0)) (fin false m e)) refl (few-digits false m e f)

-- ---- what the code asks
module _ (last : ℕ) (top x : Float) (small : last < 2 ^ 24) (is : top ≡ of_int binary32 (pos last)) (fit-top : T (fits binary32 top))
    (fit : T (fits binary32 x)) where
  top-value : HasValue top false last 1
  unfolding of_int
  top-value = subst (λ (z : Float). HasValue z false last 1) (sym is) (round_whole binary32 false last (le_of_lt small))

  kept : Kept last top x
  kept = go top fit-top top-value
    where
      go : (y : Float) → T (fits binary32 y) → HasValue y false last 1 → Kept last y x
      go nan f v = absurd v
      go (inf s) f v = absurd v
      go (fin true t g) f v = absurd (true≢false v.0)
      go (fin false t g) f v = kept_at last t g (few-digits false t g f) small (sym (mul-one (t * up g)) ∙ v.1) x fit

  pub kept-no-nan : T (not (is_nan (up_to top x)))
  unfolding is_nan
  kept-no-nan = subst (λ (h : Float). T (not (is_nan h))) (sym kept.is) tt

  pub sum-of-kept-no-nan : T (not (is_nan (add binary64 (up_to top x) half_up)))
  sum-of-kept-no-nan =
      let s = kept in
      subst (λ (h : Float). T (not (is_nan (add binary64 h half_up)))) (sym s.is) (sum-no-nan s.m s.e s.few s.low)

  pub kept-is : to_bits binary64 (add binary64 (up_to top x) half_up) / 67108864 % 67108864 ≡ round_held last x
  kept-is =
      let s = kept in
      ap (λ (h : Float). to_bits binary64 (add binary64 h half_up) / 67108864 % 67108864) s.is
      ∙ sum-bits s.m s.e s.few s.low
      ∙ sym s.rounds

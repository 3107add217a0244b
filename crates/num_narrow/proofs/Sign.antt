-- An f64 that is no NaN, by its bits b: a sign and a pattern without it, at most an infinity's; and what `narrow` gives of it, by the bits.
use mathlib.Core.Path.{◌≡◌, sym, ap, ◌∙◌, subst}
use Prim.Native.Nat.{ℕ, ◌+◌, ◌*◌, ◌/◌, ◌%◌, ◌^◌, ◌≤◌, ◌<◌}
use native.Mathlib.Nat.{zero-add}
use native.Mathlib.Omega.{arith}
use mathlib.Core.Bool.{Bool, true, false, not, ◌&&◌, cond}
use lib.Arith.{le→nltb}
use lib.Dec.{T, leb, leb→le, nleb→lt, nltb→le}
use lib.Ieee.{Float, nan, inf, fin, Format, binary32, binary64, up, down, hid, ones, top, fits, is_nan, lt, ne, nan_bits, of_bits, to_bits}
use lib.Ieee.Bits.{of_bits-to_bits, to_bits-lt, nan_bits_is, nan_bits_above}
use lib.Ieee.Fits.{and_i, inf-fits, nan-fits, round-fits}
use Rattle.num_narrow.specs.Narrow.{narrow}
use Rattle.num_narrow.proofs.Patterns.{from32, from64}
use Rattle.num_narrow.proofs.Cases.{rounded, rounded-more, to-normal}

pub not-nan : (x : Float) → ne x x ≡ false → T (not (is_nan x))
unfolding ne is_nan
not-nan nan e = subst T e tt
not-nan (inf s) e = tt
not-nan (fin s m d) e = tt

pub above-nought : (x : Float) → lt (of_bits binary64 0) x ≡ true → T (not (is_nan x))
unfolding lt is_nan of_bits
above-nought nan e = subst T (sym e) tt
above-nought (inf s) e = tt
above-nought (fin s m d) e = tt

-- a pattern that without its sign is at most an infinity's is no NaN's
pub no_nan : (f : Format) (n : ℕ) → n % top f ≤ ones f * hid f → T (not (nan_bits f n))
no_nan f n h = subst (λ (t : Bool). T (not t)) (sym (nan_bits_above f n)) (le→nltb (ones f * hid f) (n % top f) h)

pub narrow-fits : (x : Float) → T (fits binary32 (narrow x))
unfolding narrow
narrow-fits nan = nan-fits binary32
narrow-fits (inf s) = inf-fits binary32 s
narrow-fits (fin s m e) = round-fits binary32 s (m * up e) (down e)

-- b as the sign t and the rest; rounding leaves the sign alone
abbrev Signed : ℕ → Bool → Type 0
Signed b t =
    (cond t (2 ^ 63) 0 + b % 2 ^ 63 ≡ b)
    × (cond t (2 ^ 31) 0 ≡ b / 2 ^ 63 * 2 ^ 31)
    × (cond t (2 ^ 63) 0 + rounded (b % 2 ^ 63) ≡ rounded b)

signed : (b : ℕ) → b < 2 ^ 64 → Signed b (leb (2 ^ 63) b)
signed b h = go (leb (2 ^ 63) b) (leb→le (2 ^ 63) b) (nleb→lt (2 ^ 63) b)
  where
    high : (b : ℕ) → 2 ^ 63 ≤ b → b < 2 ^ 64
        → (2 ^ 63 + b % 2 ^ 63 ≡ b) × (2 ^ 31 ≡ b / 2 ^ 63 * 2 ^ 31) × (b % 2 ^ 63 + 2 ^ 33 * 2 ^ 30 ≡ b)
    high b l h = omega arith

    less : (b : ℕ) → b < 2 ^ 63 → (0 + b % 2 ^ 63 ≡ b) × (0 ≡ b / 2 ^ 63 * 2 ^ 31) × (b % 2 ^ 63 ≡ b)
    less b h = omega arith

    go : (t : Bool) → (T t → 2 ^ 63 ≤ b) → (T (not t) → b < 2 ^ 63) → Signed b t
    go true l g =
        let k = high b (l tt) h in
        (k.0, k.1, sym (rounded-more (b % 2 ^ 63) (2 ^ 33)) ∙ ap rounded k.2)
    go false l g =
        let k = less b (g tt) in
        (k.0, k.1, zero-add (rounded (b % 2 ^ 63)) ∙ ap rounded k.2)

module _ (b : ℕ) (below : b < 2 ^ 64) where
  abbrev a : ℕ
  a = b % 2 ^ 63

  abbrev s : Bool
  s = leb (2 ^ 63) b

  parts : Signed b s
  parts = signed b below

  back : from64 s a ≡ of_bits binary64 b
  back = ap (of_bits binary64) parts.0

  -- the pattern of an f32 without the sign, and the sign put back
  pub by_sign : (r : ℕ) → ((t : Bool) → from32 t r ≡ narrow (from64 t a)) → of_bits binary32 (b / 2 ^ 63 * 2 ^ 31 + r) ≡ narrow (of_bits binary64 b)
  by_sign r h = ap (λ (z : ℕ). of_bits binary32 (z + r)) (sym parts.1) ∙ h s ∙ ap narrow back

  module _ (lo : 0x3810_0000_0000_0000 ≤ a) (hi : a < 0x47ef_ffff_f000_0000) where
    pub by-rounding : of_bits binary64 (rounded b) ≡ narrow (of_bits binary64 b)
    by-rounding = ap (of_bits binary64) (sym parts.2) ∙ to-normal a lo hi s ∙ ap narrow back

    pub rounded-real : T (not (nan_bits binary64 (rounded b)))
    rounded-real =
        no_nan binary64 (rounded b) (subst (λ (z : ℕ). z % 2 ^ 63 ≤ 0x7ff0_0000_0000_0000) parts.2 (rest s (rounded a) (under a hi)))
      where
        under : (a : ℕ) → a < 0x47ef_ffff_f000_0000 → rounded a ≤ 0x7ff0_0000_0000_0000
        under a h = omega arith

        rest : (t : Bool) (r : ℕ) → r ≤ 0x7ff0_0000_0000_0000 → (cond t (2 ^ 63) 0 + r) % 2 ^ 63 ≤ 0x7ff0_0000_0000_0000
        rest true r h = omega arith
        rest false r h = omega arith

    -- so it is an f32, and no NaN: the cast loses nothing
    pub rounded-fits : T (fits binary32 (of_bits binary64 (rounded b)) && not (is_nan (of_bits binary64 (rounded b))))
    rounded-fits =
        and_i (fits binary32 (of_bits binary64 (rounded b))) (not (is_nan (of_bits binary64 (rounded b))))
        (subst (λ (y : Float). T (fits binary32 y)) (sym by-rounding) (narrow-fits (of_bits binary64 b)))
        (subst (λ (t : Bool). T (not t)) (nan_bits_is binary64 (rounded b)) rounded-real)

-- ---- the bits of an f64 x

module _ (x : Float) (held : T (fits binary64 x)) where
  pub below : to_bits binary64 x < 2 ^ 64
  below = to_bits-lt binary64 x held

  pub of-its-bits : narrow (of_bits binary64 (to_bits binary64 x)) ≡ narrow x
  of-its-bits = ap narrow (of_bits-to_bits binary64 x held)

  pub at_most : T (not (is_nan x)) → to_bits binary64 x % 2 ^ 63 ≤ 0x7ff0_0000_0000_0000
  at_most real =
      nltb→le 0x7ff0_0000_0000_0000 (to_bits binary64 x % 2 ^ 63)
      (subst (λ (t : Bool). T (not t))
      (sym
      (sym (nan_bits_above binary64 (to_bits binary64 x)) ∙ nan_bits_is binary64 (to_bits binary64 x) ∙ ap is_nan (of_bits-to_bits binary64 x held)))
      real)

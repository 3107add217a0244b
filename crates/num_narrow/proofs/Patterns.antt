-- Bit patterns and the numbers that they stand for: a pattern made of its fields, a count of the smallest f32 values as a pattern, and an
-- f32 pattern as the f64 pattern of the same value.
use mathlib.Core.Path.{◌≡◌, refl, sym, ap, ◌∙◌, subst}
use mathlib.Core.Logic.{◌⊎◌, inl, inr}
use Prim.Native.Nat.{ℕ, zero, suc, ◌+◌, ◌-◌, ◌*◌, ◌/◌, ◌%◌, ◌^◌, ◌≤◌, ◌<◌}
use native.Mathlib.Nat.{add-mod_left, add-suc, add-zero, add-sub_of_le, div-lt_iff_lt-mul, eq-or-lt_of_le, le-add_right, le_of_suc-le-suc}
use native.Mathlib.Nat.{lt_irrefl, lt_of_lt_of_le, lt_of_not-le, mod-eq_of_lt, mul-add-mod_self_left, mul_comm, mul-div-mul_right, mul-one}
use native.Mathlib.Nat.{mul-pos, pow-suc, suc-add, suc-sub-suc, zero-add, zero-lt-suc}
use native.Mathlib.Decide.{dec_lt}
use native.Mathlib.Omega.{arith}
use mathlib.Core.Bool.{Bool, true, false, not, cond}
use lib.IntN.{ℤ, pos, negsuc}
use lib.Dec.{T, leb, ltb, eqb, lt→ltb, le→leb, not_T, eqb→eq, leb-suc-suc, lit<, lit≤}
use lib.Arith.{digits_lt, digits_div, digits_mod, lt→nleb}
use lib.Pow.{pow-add, pow_pos, pow-lt, pow_mono, shl_lt}
use lib.Bits.{shifted_half, shifted_even}
use lib.Count.{count_trailing_zeros, under}
use lib.Ieee.{Float, nan, inf, fin, Format, binary32, binary64, prec, low, minus, odd, units, hid, ones, top, of_fields, of_bits}
use lib.Ieee.Bits.{is_true, is_false, cond_no}

-- the f64 and the f32 of a sign and a pattern without it
abbrev pub from64 : Bool → ℕ → Float
from64 s a = of_bits binary64 (cond s (2 ^ 63) 0 + a)

abbrev pub from32 : Bool → ℕ → Float
from32 s r = of_bits binary32 (cond s (2 ^ 31) 0 + r)

pub either : (a b : ℕ) → (a < b) ⊎ (b ≤ a)
either a b = go (dec_lt a b)
  where
    go : Dec (a < b) → (a < b) ⊎ (b ≤ a)
    go (yes h) = inl h
    go (no h) = inr (le_of_suc-le-suc (lt_of_not-le h))

-- ---- a pattern made of a sign, an exponent's field x and digits t is read as those

same : (f : Format) {s s' : Bool} {x x' t t' : ℕ} → s ≡ s' → x ≡ x' → t ≡ t' → of_fields f s x t ≡ of_fields f s' x' t'
same f p q r = cc

of_bits_is : (f : Format) (b : ℕ) → of_bits f b ≡ of_fields f (leb (top f) b) (b % top f / hid f) (b % hid f)
unfolding of_bits
of_bits_is f b = refl

small : (f : Format) (x t : ℕ) → x < suc (ones f) → t < hid f → x * hid f + t < top f
small f x t X H = subst (λ (a : ℕ). x * hid f + t < a) (mul_comm (suc (ones f)) (hid f)) (digits_lt X H)

pub fields : (f : Format) (s : Bool) (x t : ℕ) → x < suc (ones f) → t < hid f
    → of_bits f (cond s (top f) 0 + (x * hid f + t)) ≡ of_fields f s x t
fields f true x t X H =
    of_bits_is f (top f + (x * hid f + t))
    ∙ same f
    (is_true (leb (top f) (top f + (x * hid f + t))) (le→leb (top f) (top f + (x * hid f + t)) (le-add_right (top f) (x * hid f + t))))
    (ap (λ (a : ℕ). a / hid f) (add-mod_left (top f) (x * hid f + t) ∙ mod-eq_of_lt (small f x t X H)) ∙ digits_div x H)
    (mul-add-mod_self_left (hid f) (suc (ones f)) (x * hid f + t) ∙ digits_mod x H)
fields f false x t X H =
    ap (λ (a : ℕ). of_bits f a) (zero-add (x * hid f + t))
    ∙ of_bits_is f (x * hid f + t)
    ∙ same f (is_false (leb (top f) (x * hid f + t)) (lt→nleb (top f) (x * hid f + t) (small f x t X H)))
    (ap (λ (a : ℕ). a / hid f) (mod-eq_of_lt (small f x t X H)) ∙ digits_div x H)
    (digits_mod x H)

lt→neqb : (a b : ℕ) → a < b → T (not (eqb a b))
lt→neqb a b h = not_T (eqb a b) (λ t. lt_irrefl b (subst (λ (x : ℕ). x < b) (eqb→eq a b t) h))

at_zero : (f : Format) (s : Bool) (t : ℕ) → of_fields f s 0 t ≡ odd (prec f) s t 0 (low f)
unfolding of_fields
at_zero f s t = refl

under_ones : (f : Format) (s : Bool) (x t : ℕ) → suc x < ones f → of_fields f s (suc x) t ≡ odd (prec f) s (hid f + t) x (low f)
unfolding of_fields
under_ones f s x t h =
    cond_no (eqb (suc x) (ones f)) (cond (eqb t 0) (inf s) nan) (odd (prec f) s (hid f + t) x (low f)) (lt→neqb (suc x) (ones f) h)

-- a field of 0: t smallest values
pub low-fields : (f : Format) (s : Bool) (t : ℕ) → t < hid f → of_bits f (cond s (top f) 0 + (0 * hid f + t)) ≡ odd (prec f) s t 0 (low f)
low-fields f s t H = fields f s 0 t (zero-lt-suc (ones f)) H ∙ at_zero f s t

-- a field of x + 1 below the highest: (hid + t) * 2 ^ x smallest values
pub mid-fields : (f : Format) (s : Bool) (x t : ℕ) → suc x < ones f → t < hid f
    → of_bits f (cond s (top f) 0 + (suc x * hid f + t)) ≡ odd (prec f) s (hid f + t) x (low f)
mid-fields f s x t X H = fields f s (suc x) t (more (suc x) (ones f) X) H ∙ under_ones f s x t X
  where
    more : (a b : ℕ) → a < b → a < suc b
    more a b h = omega arith

-- ---- zeros at a number's end: looking at one digit more, and at a number with zeros put after it

tz-more : (d q : ℕ) → 0 < q → q < 2 ^ d → count_trailing_zeros (suc d) q ≡ count_trailing_zeros d q
unfolding count_trailing_zeros
tz-more zero q P h = absurd (none q P h)
  where
    none : (q : ℕ) → 0 < q → q < 1 → ⊥
    none q a b = omega arith
tz-more (suc d) q P h =
    let less : q / 2 < 2 ^ d = (div-lt_iff_lt-mul (zero-lt-suc 1)).1 (subst (λ (x : ℕ). q < x) (pow-suc 2 d) h) in
    go (q % 2) refl (λ z. tz-more d (q / 2) (half_pos q P z) less)
  where
    half_pos : (q : ℕ) → 0 < q → q % 2 ≡ 0 → 0 < q / 2
    half_pos q P z = omega arith

    go : (r : ℕ) → q % 2 ≡ r → (q % 2 ≡ 0 → count_trailing_zeros (suc d) (q / 2) ≡ count_trailing_zeros d (q / 2))
        → under r (count_trailing_zeros (suc d) (q / 2)) ≡ under r (count_trailing_zeros d (q / 2))
    go zero e ih = ap suc (ih e)
    go (suc r) e ih = refl

odd_pos : (d : ℕ) (s : Bool) (q k l : ℕ) → 0 < q → odd d s q k l ≡ fin s (q / 2 ^ count_trailing_zeros d q) (minus (k + count_trailing_zeros d q) l)
unfolding odd
odd_pos d s zero k l h = absurd (lt_irrefl 0 h)
odd_pos d s (suc q) k l h = refl

odd-more : (d : ℕ) (s : Bool) (q k l : ℕ) → q < 2 ^ d → odd (suc d) s q k l ≡ odd d s q k l
odd-more d s zero k l h = unfold odd in refl
odd-more d s (suc q) k l h =
    odd_pos (suc d) s (suc q) k l (zero-lt-suc q)
    ∙ ap (λ (t : ℕ). fin s (suc q / 2 ^ t) (minus (k + t) l)) (tz-more d (suc q) (zero-lt-suc q) h)
    ∙ sym (odd_pos d s (suc q) k l (zero-lt-suc q))

-- ---- q * 2 ^ k smallest f32 values, as `round` hands them on, are the pattern k * 2 ^ 23 + q: the leading digit of q adds one to the
-- field.
-- q = 2 ^ 24 carries into the next field, and at k = 253 that is the infinity

units_in : (s : Bool) (q k : ℕ) → q * 2 ^ k < 2 ^ 277 → units binary32 s q k ≡ odd 25 s q k 149
unfolding units
units_in s q k h =
    ap (λ (b : Bool). cond b (odd 25 s q k 149) (inf s)) (is_true (ltb (q * 2 ^ k) (2 ^ 277)) (lt→ltb (q * 2 ^ k) (2 ^ 277) h))

pub units-over : (s : Bool) (q k : ℕ) → 2 ^ 277 ≤ q * 2 ^ k → units binary32 s q k ≡ inf s
unfolding units
units-over s q k h =
    ap (λ (b : Bool). cond b (odd 25 s q k 149) (inf s))
    (is_false (ltb (q * 2 ^ k) (2 ^ 277)) (lt→nleb (suc (q * 2 ^ k)) (2 ^ 277) (next (2 ^ 277) (q * 2 ^ k) h)))
  where
    next : (a b : ℕ) → a ≤ b → a < suc b
    next a b h = omega arith

as-low : (s : Bool) (q : ℕ) → q < 2 ^ 23 → units binary32 s q 0 ≡ from32 s (0 * 2 ^ 23 + q)
as-low s q h =
    units_in s q 0 (lt_of_lt_of_le (shl_lt 23 0 h) (pow_mono (lit≤ {m = 23} {n = 277} tt)))
    ∙ odd-more 24 s q 0 149 (lt_of_lt_of_le h (lit≤ tt))
    ∙ sym (low-fields binary32 s q h)

as-mid : (s : Bool) (q k : ℕ) → 2 ^ 23 ≤ q → q < 2 ^ 24 → k ≤ 253
    → units binary32 s q k ≡ from32 s (k * 2 ^ 23 + q)
as-mid s q k lo hi K =
    units_in s q k (lt_of_lt_of_le (shl_lt 24 k hi) (pow_mono (room k K)))
    ∙ odd-more 24 s q k 149 hi
    ∙ ap (λ (x : ℕ). odd 24 s x k 149) (sym (add-sub_of_le lo))
    ∙ sym (mid-fields binary32 s k (q - 2 ^ 23) (under k K) (rest q lo hi))
    ∙ ap (λ (x : ℕ). from32 s x) (carry q k lo)
  where
    room : (k : ℕ) → k ≤ 253 → 24 + k ≤ 277
    room k h = omega arith

    under : (k : ℕ) → k ≤ 253 → suc k < 255
    under k h = omega arith

    rest : (q : ℕ) → 2 ^ 23 ≤ q → q < 2 ^ 24 → q - 2 ^ 23 < 2 ^ 23
    rest q a b = omega arith

    carry : (q k : ℕ) → 2 ^ 23 ≤ q → suc k * 2 ^ 23 + (q - 2 ^ 23) ≡ k * 2 ^ 23 + q
    carry q k a = omega arith

-- q = 2 ^ 24 is 2 ^ 23 one place up
odd-carry : (s : Bool) (k : ℕ) → odd 25 s (2 ^ 24) k 149 ≡ odd 24 s (2 ^ 23) (suc k) 149
unfolding odd
odd-carry s k = ap (λ (x : ℕ). fin s 1 (minus x 149)) (shift k)
  where
    shift : (k : ℕ) → k + 24 ≡ suc k + 23
    shift k = omega arith

as-carry : (s : Bool) (k : ℕ) → k < 253 → units binary32 s (2 ^ 24) k ≡ from32 s (k * 2 ^ 23 + 2 ^ 24)
as-carry s k K =
    units_in s (2 ^ 24) k (subst (λ (x : ℕ). x < 2 ^ 277) (pow-add 2 24 k) (pow-lt (room k K)))
    ∙ odd-carry s k
    ∙ ap (λ (x : ℕ). odd 24 s x (suc k) 149) (sym (add-zero (2 ^ 23)))
    ∙ sym (mid-fields binary32 s (suc k) 0 (under k K) (lit< tt))
    ∙ ap (λ (x : ℕ). from32 s x) (carry k)
  where
    room : (k : ℕ) → k < 253 → 24 + k < 277
    room k h = omega arith

    under : (k : ℕ) → k < 253 → suc (suc k) < 255
    under k h = omega arith

    carry : (k : ℕ) → suc (suc k) * 2 ^ 23 + 0 ≡ k * 2 ^ 23 + 2 ^ 24
    carry k = omega arith

pub inf_bits : (s : Bool) → from32 s 0x7f80_0000 ≡ inf s
unfolding of_bits
inf_bits true = refl
inf_bits false = refl

as-top : (s : Bool) → units binary32 s (2 ^ 24) 253 ≡ from32 s (253 * 2 ^ 23 + 2 ^ 24)
as-top s = units-over s (2 ^ 24) 253 (lit≤ tt) ∙ sym (inf_bits s)

pub to-pattern : (s : Bool) (q k : ℕ) → (k ≡ 0) ⊎ (2 ^ 23 ≤ q) → q ≤ 2 ^ 24 → k ≤ 253
    → units binary32 s q k ≡ from32 s (k * 2 ^ 23 + q)
to-pattern s q k d Q K = go d (eq-or-lt_of_le Q) (eq-or-lt_of_le K)
  where
    Goal : ℕ → ℕ → Type 0
    Goal q k = units binary32 s q k ≡ from32 s (k * 2 ^ 23 + q)

    high : 2 ^ 23 ≤ q → (q ≡ 2 ^ 24) ⊎ (q < 2 ^ 24) → (k ≡ 253) ⊎ (k < 253) → Goal q k
    high l (inr h) e = as-mid s q k l h K
    high l (inl h) (inl e) = subst (λ (x : ℕ). Goal x k) (sym h) (subst (λ (x : ℕ). Goal (2 ^ 24) x) (sym e) (as-top s))
    high l (inl h) (inr e) = subst (λ (x : ℕ). Goal x k) (sym h) (as-carry s k e)

    go : (k ≡ 0) ⊎ (2 ^ 23 ≤ q) → (q ≡ 2 ^ 24) ⊎ (q < 2 ^ 24) → (k ≡ 253) ⊎ (k < 253) → Goal q k
    go (inr l) h e = high l h e
    go (inl z) h e = elim (either q (2 ^ 23)) [
      | inl b ↦ subst (λ (x : ℕ). Goal q x) (sym z) (as-low s q b)
      | inr l ↦ high l h e
    ]

-- ---- an f32's pattern and the f64's pattern of the same value: 29 zeros more, and a field that counts 896 places more

tz_shift : (d q i : ℕ) → count_trailing_zeros (i + d) (q * 2 ^ i) ≡ i + count_trailing_zeros d q
unfolding count_trailing_zeros
tz_shift d q zero =
    ap (λ (x : ℕ). count_trailing_zeros x (q * 1)) (zero-add d)
    ∙ ap (count_trailing_zeros d) (mul-one q)
    ∙ sym (zero-add (count_trailing_zeros d q))
tz_shift d q (suc i) =
    ap (λ (x : ℕ). count_trailing_zeros x (q * 2 ^ suc i)) (suc-add i d)
    ∙ ap (λ (r : ℕ). under r (count_trailing_zeros (i + d) (q * 2 ^ suc i / 2))) (shifted_even q i)
    ∙ ap (λ (x : ℕ). suc (count_trailing_zeros (i + d) x)) (shifted_half q i)
    ∙ ap suc (tz_shift d q i)
    ∙ sym (suc-add i (count_trailing_zeros d q))

minus-shift : (a b c : ℕ) → minus (a + c) (b + c) ≡ minus a b
minus-shift a b zero = ap (λ (x : ℕ). minus x (b + 0)) (add-zero a) ∙ ap (λ (x : ℕ). minus a x) (add-zero b)
minus-shift a b (suc c) =
    ap (λ (x : ℕ). minus x (b + suc c)) (add-suc a c)
    ∙ ap (λ (x : ℕ). minus (suc (a + c)) x) (add-suc b c)
    ∙ less (a + c) (b + c)
    ∙ minus-shift a b c
  where
    less : (m n : ℕ) → minus (suc m) (suc n) ≡ minus m n
    less m n =
        ap (λ (t : Bool). cond t (pos (suc m - suc n)) (negsuc (suc n - suc (suc m)))) (leb-suc-suc n m)
        ∙ ap (λ (x : ℕ). cond (leb n m) (pos x) (negsuc (suc n - suc (suc m)))) (suc-sub-suc m n)
        ∙ ap (λ (x : ℕ). cond (leb n m) (pos (m - n)) (negsuc x)) (suc-sub-suc n (suc m))

shrink : (q i t : ℕ) → q * 2 ^ i / 2 ^ (i + t) ≡ q / 2 ^ t
shrink q i t = ap (λ (x : ℕ). q * 2 ^ i / x) (pow-add 2 i t ∙ mul_comm (2 ^ i) (2 ^ t)) ∙ mul-div-mul_right q (2 ^ t) (pow_pos i)

-- q with i zeros put after it, and counted in units that are 2 ^ (i + j) times smaller
odd-scale : (d : ℕ) (s : Bool) (q i j k l : ℕ) → 0 < q → odd (i + d) s (q * 2 ^ i) (k + j) (l + (i + j)) ≡ odd d s q k l
odd-scale d s q i j k l P =
    let t = count_trailing_zeros d q in
    odd_pos (i + d) s (q * 2 ^ i) (k + j) (l + (i + j)) (mul-pos P (pow_pos i))
    ∙ ap (λ (x : ℕ). fin s (q * 2 ^ i / 2 ^ x) (minus (k + j + x) (l + (i + j)))) (tz_shift d q i)
    ∙ ap (λ (x : ℕ). fin s x (minus (k + j + (i + t)) (l + (i + j)))) (shrink q i t)
    ∙ ap (λ (x : ℕ). fin s (q / 2 ^ t) (minus x (l + (i + j)))) (regroup k j i t)
    ∙ ap (λ (x : ℤ). fin s (q / 2 ^ t) x) (minus-shift (k + t) l (i + j))
    ∙ sym (odd_pos d s q k l P)
  where
    regroup : (k j i t : ℕ) → k + j + (i + t) ≡ k + t + (i + j)
    regroup k j i t = omega arith

wide-mid : (s : Bool) (q k : ℕ) → 2 ^ 23 ≤ q → q < 2 ^ 24 → k ≤ 253
    → from64 s ((k + 896) * 2 ^ 52 + q * 2 ^ 29) ≡ from32 s (k * 2 ^ 23 + q)
wide-mid s q k lo hi K =
    ap (λ (x : ℕ). from64 s x) (carry64 q k lo)
    ∙ mid-fields binary64 s (k + 896) (q * 2 ^ 29 - 2 ^ 52) (under64 k K) (rest64 q lo hi)
    ∙ ap (λ (x : ℕ). odd 53 s x (k + 896) 1074) (add-sub_of_le (lead q lo))
    ∙ odd-scale 24 s q 29 896 k 149 (some q lo)
    ∙ ap (λ (x : ℕ). odd 24 s x k 149) (sym (add-sub_of_le lo))
    ∙ sym (mid-fields binary32 s k (q - 2 ^ 23) (under32 k K) (rest32 q lo hi))
    ∙ ap (λ (x : ℕ). from32 s x) (carry32 q k lo)
  where
    some : (q : ℕ) → 2 ^ 23 ≤ q → 0 < q
    some q h = omega arith

    lead : (q : ℕ) → 2 ^ 23 ≤ q → 2 ^ 52 ≤ q * 2 ^ 29
    lead q h = omega arith

    under64 : (k : ℕ) → k ≤ 253 → suc (k + 896) < 2047
    under64 k h = omega arith

    under32 : (k : ℕ) → k ≤ 253 → suc k < 255
    under32 k h = omega arith

    rest64 : (q : ℕ) → 2 ^ 23 ≤ q → q < 2 ^ 24 → q * 2 ^ 29 - 2 ^ 52 < 2 ^ 52
    rest64 q a b = omega arith

    rest32 : (q : ℕ) → 2 ^ 23 ≤ q → q < 2 ^ 24 → q - 2 ^ 23 < 2 ^ 23
    rest32 q a b = omega arith

    carry64 : (q k : ℕ) → 2 ^ 23 ≤ q → (k + 896) * 2 ^ 52 + q * 2 ^ 29 ≡ suc (k + 896) * 2 ^ 52 + (q * 2 ^ 29 - 2 ^ 52)
    carry64 q k a = omega arith

    carry32 : (q k : ℕ) → 2 ^ 23 ≤ q → suc k * 2 ^ 23 + (q - 2 ^ 23) ≡ k * 2 ^ 23 + q
    carry32 q k a = omega arith

-- every normal f32: the field k + 1, or k + 2 where q is 2 ^ 24
pub wide-pattern : (s : Bool) (q k : ℕ) → 2 ^ 23 ≤ q → q ≤ 2 ^ 24 → k ≤ 253 → k * 2 ^ 23 + q < 0x7f80_0000
    → from64 s ((k + 896) * 2 ^ 52 + q * 2 ^ 29) ≡ from32 s (k * 2 ^ 23 + q)
wide-pattern s q k lo hi K R = go (eq-or-lt_of_le hi)
  where
    go : (q ≡ 2 ^ 24) ⊎ (q < 2 ^ 24) → from64 s ((k + 896) * 2 ^ 52 + q * 2 ^ 29) ≡ from32 s (k * 2 ^ 23 + q)
    go (inr l) = wide-mid s q k lo l K
    go (inl e) =
        ap (λ (x : ℕ). from64 s x) (carry64 q k e)
        ∙ wide-mid s (2 ^ 23) (suc k) (lit≤ tt) (lit< tt) (fit q k e R)
        ∙ ap (λ (x : ℕ). from32 s x) (carry32 q k e)
      where
        fit : (q k : ℕ) → q ≡ 2 ^ 24 → k * 2 ^ 23 + q < 0x7f80_0000 → suc k ≤ 253
        fit q k e h = omega arith

        carry64 : (q k : ℕ) → q ≡ 2 ^ 24 → (k + 896) * 2 ^ 52 + q * 2 ^ 29 ≡ (suc k + 896) * 2 ^ 52 + 2 ^ 23 * 2 ^ 29
        carry64 q k e = omega arith

        carry32 : (q k : ℕ) → q ≡ 2 ^ 24 → suc k * 2 ^ 23 + 2 ^ 23 ≡ k * 2 ^ 23 + q
        carry32 q k e = omega arith

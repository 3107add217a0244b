-- f rounded down by sums: with 2 ^ 52 added and taken off again f is the nearest whole number, and less one where that lies above f it is
-- the whole part. Assumes nothing.
use mathlib.Core.Path.{◌≡◌, refl, sym, ap, ap₂, ◌∙◌}
use Prim.Native.Nat.{ℕ, ◌+◌, ◌-◌, ◌*◌, ◌/◌, ◌^◌, ◌≤◌, ◌<◌, min}
use native.Mathlib.Nat.{le_trans, le_of_eq, le_of_lt, lt_of_lt_of_le, not-le_of_lt, mul-one, mul_right_comm, mul-pos, mul-sub}
use native.Mathlib.Nat.{mul-le-mul_right, le_of_mul-le-mul_right, lt_of_mul-lt-mul_right, eq_of_mul-eq-mul_right, div-add-mod'}
use native.Mathlib.Nat.{mod-lt, div-lt_iff_lt-mul, le-div_iff_mul-le, div-eq_of_lt, zero-min, min-eq_left, min-eq_right}
use native.Mathlib.Omega.{arith}
use mathlib.Core.Bool.{Bool, true, false, cond, true≢false}
use lib.IntN.{ℤ, pos}
use lib.Dec.{T, lit≤, lit<, ltb, ltb→lt, le→leb}
use lib.Pow.{pow_pos, le_ones}
use lib.Ieee.{Float, nan, inf, fin, binary64, up, down, units, round, add, sub, sum, lt, of_int, in_float, in_unsigned, to_unsigned}
use lib.Ieee.Exact.{HasValue}
use lib.Ieee.Back.{round_whole, unsigned_back}
use lib.Ieee.Casts.{to_unsigned-lt}
use lib.Ieee.Fits.{down_pos}
use lib.Ieee.Nearest.{closest}
use lib.Ieee.Scale.{round_same}
use borrow.Author.Tests.{ltb-true, ltb-false}
use Rattle.num_round.proofs.Scaled.{scaled, closest-ge, closest-le, units-value}

-- ---- q units of 1 are q
in_ones : (x : Float) (q l : ℕ) → 0 < l → HasValue x false (q * l) l → HasValue x false q 1
in_ones nan q l p v = v
in_ones (inf s) q l p v = v
in_ones (fin s m e) q l p v = (
  v.0,
  eq_of_mul-eq-mul_right l p (m * up e * 1) (q * down e) (ap (λ (z : ℕ). z * l) (mul-one (m * up e)) ∙ v.1 ∙ mul_right_comm q l (down e)),
)

-- ---- a whole number less another, a * 2 ^ j
taken : (a b c : ℕ) → b ≤ a → sum binary64 false a true b c ≡ round binary64 false (a - b) c
unfolding sum
taken a b c h = go (ltb a b) (ltb→lt a b)
  where
    go : (t : Bool) → (T t → a < b) → cond t (round binary64 true (b - a) c) (round binary64 false (a - b) c) ≡ round binary64 false (a - b) c
    go true k = absurd (not-le_of_lt (k tt) h)
    go false k = refl

sub-opened : (m : ℕ) (e : ℤ) (a j : ℕ)
    → sub binary64 (fin false m e) (fin false a (pos j)) ≡ sum binary64 false (m * up e * 1) true (a * 2 ^ j * down e) (down e * 1)
unfolding sub
sub-opened m e a j = refl

less : (x : Float) (q a j : ℕ) → HasValue x false q 1 → a * 2 ^ j ≤ q
    → sub binary64 x (fin false a (pos j)) ≡ round binary64 false (q - a * 2 ^ j) 1
less nan q a j v h = absurd v
less (inf s) q a j v h = absurd v
less (fin true m e) q a j v h = absurd (true≢false v.0)
less (fin false m e) q a j v h =
    let d = down e in
    let n = m * up e * 1 in
    let p = a * 2 ^ j in
    sub-opened m e a j
    ∙ taken n (p * d) (d * 1) (le_trans (mul-le-mul_right d h) (le_of_eq (sym v.1)))
    ∙ round_same binary64 false (n - p * d) (d * 1) (q - p) 1 (mul-pos (down_pos e) (lit< tt)) (lit< tt) (cross n p d q v.1 h)
  where
    cross : (n p d q : ℕ) → n ≡ q * d → p ≤ q → (n - p * d) * 1 ≡ (q - p) * (d * 1)
    cross n p d q e h = omega (arith, mul-sub d q p)

-- ---- the sum f + 2 ^ 52
added : (m : ℕ) (e : ℤ)
    → add binary64 (fin false m e) (fin false 1 (pos 52)) ≡ round binary64 false (m * up e + 2 ^ 52 * down e) (down e)
unfolding add
added m e = ap₂ (λ (a c : ℕ). round binary64 false (a + 2 ^ 52 * down e) c) (mul-one (m * up e)) (mul-one (down e))

-- how far w lies above f: 1, or 0 if it does not
abbrev pub over : Bool → Float
over b = cond b (fin false 1 (pos 0)) (fin false 0 (pos 0))

abbrev pub lowered : Float → Float → Float
lowered f w = sub binary64 w (over (lt f w))

abbrev pub near : Float → Float
near f = sub binary64 (add binary64 f (fin false 1 (pos 52))) (fin false 1 (pos 52))

-- two fractions at one denominator
level : (p g d w : ℕ) → p * 1 ≡ w * g → p * d ≡ w * d * g
level p g d w h = ap (λ (z : ℕ). z * d) (sym (mul-one p) ∙ h) ∙ mul_right_comm w g d

above : (m : ℕ) (e : ℤ) (y : Float) (w : ℕ) → HasValue y false w 1 → lt (fin false m e) y ≡ true → m * up e < w * down e
unfolding lt
above m e nan w v t = absurd v
above m e (inf s) w v t = absurd v
above m e (fin true p g) w v t = absurd (true≢false v.0)
above m e (fin false p g) w v t =
    lt_of_mul-lt-mul_right (down g)
    (lt_of_lt_of_le (ltb-true (m * up e * down g) (p * up g * down e) t) (le_of_eq (level (p * up g) (down g) (down e) w v.1)))

not-above : (m : ℕ) (e : ℤ) (y : Float) (w : ℕ) → HasValue y false w 1 → lt (fin false m e) y ≡ false → w * down e ≤ m * up e
unfolding lt
not-above m e nan w v t = absurd v
not-above m e (inf s) w v t = absurd v
not-above m e (fin true p g) w v t = absurd (true≢false v.0)
not-above m e (fin false p g) w v t =
    le_of_mul-le-mul_right
    (le_trans (le_of_eq (sym (level (p * up g) (down g) (down e) w v.1))) (ltb-false (m * up e * down g) (p * up g * down e) t))
    (down_pos g)

-- w is n / d or one more
module _ (m : ℕ) (e : ℤ) (w : ℕ) (ge : m * up e / down e ≤ w) (le : w ≤ m * up e / down e + 1) (small : w ≤ 2 ^ 53) where
  value : HasValue (round binary64 false w 1) false w 1
  value = round_whole binary64 false w small

  by-test : (b : Bool) → lt (fin false m e) (round binary64 false w 1) ≡ b
      → sub binary64 (round binary64 false w 1) (over b) ≡ round binary64 false (m * up e / down e) 1
  by-test true t =
      let a : m * up e / down e < w = (div-lt_iff_lt-mul (down_pos e)).1 (above m e (round binary64 false w 1) w value t) in
      less (round binary64 false w 1) w 1 0 value (omega arith) ∙ ap (λ (z : ℕ). round binary64 false z 1) (omega arith)
  by-test false t =
      let a : w ≤ m * up e / down e = (le-div_iff_mul-le (down_pos e)).1 (not-above m e (round binary64 false w 1) w value t) in
      less (round binary64 false w 1) w 0 0 value (omega arith) ∙ ap (λ (z : ℕ). round binary64 false z 1) (omega arith)

module _ (m : ℕ) (e : ℤ) (low : m * up e < 2 ^ 32 * down e) where
  part-lt : m * up e / down e < 2 ^ 32
  part-lt = (div-lt_iff_lt-mul (down_pos e)).1 low

  room : (n d : ℕ) → 0 < d → n < 2 ^ 32 * d → (2 ^ 52 * d ≤ (n + 2 ^ 52 * d) * 1) × ((n + 2 ^ 52 * d) * 1 < 2 ^ 53 * d)
  room n d p h = (omega arith, omega arith)

  q-ge : (n d : ℕ) → 0 < d → 2 ^ 52 + n / d ≤ closest ((n + 2 ^ 52 * d) * 1) d
  q-ge n d p = closest-ge ((n + 2 ^ 52 * d) * 1) d (2 ^ 52 + n / d) p (omega (arith, div-add-mod' n d))

  q-le : (n d : ℕ) → 0 < d → closest ((n + 2 ^ 52 * d) * 1) d ≤ 2 ^ 52 + n / d + 1
  q-le n d p = closest-le ((n + 2 ^ 52 * d) * 1) d (2 ^ 52 + n / d + 1) p (omega (arith, div-add-mod' n d, mod-lt n p))

  sums : (q w : ℕ) → w < 2 ^ 32 → 2 ^ 52 + w ≤ q → q ≤ 2 ^ 52 + w + 1
      → (q < 2 ^ 53) × (2 ^ 52 ≤ q) × (w ≤ q - 2 ^ 52) × (q - 2 ^ 52 ≤ w + 1) × (q - 2 ^ 52 ≤ 2 ^ 53)
  sums q w a b c = (omega arith, omega arith, omega arith, omega arith, omega arith)

  pub whole_part : lowered (fin false m e) (near (fin false m e)) ≡ round binary64 false (m * up e / down e) 1
  whole_part =
      let n = m * up e in
      let d = down e in
      let D : 0 < d = down_pos e in
      let q = closest ((n + 2 ^ 52 * d) * 1) d in
      let s = sums q (n / d) part-lt (q-ge n d D) (q-le n d D) in
      let r = room n d D low in
      let x = units binary64 false q 1074 in
      let is : add binary64 (fin false m e) (fin false 1 (pos 52)) ≡ x = added m e ∙ scaled (n + 2 ^ 52 * d) d 0 1074 refl D r.0 r.1 in
      let v : HasValue x false q 1 = in_ones x q (2 ^ 1074) (pow_pos 1074) (units-value q 1074 (lit≤ tt) s.0) in
      let y = round binary64 false (q - 2 ^ 52) 1 in
      let w : near (fin false m e) ≡ y = ap (λ (z : Float). sub binary64 z (fin false 1 (pos 52))) is ∙ less x q 1 52 v s.1 in
      ap (λ (z : Float). lowered (fin false m e) z) w ∙ by-test m e (q - 2 ^ 52) s.2 s.3 s.4 (lt (fin false m e) y) refl

-- ---- below 2 ^ 32
below : (m : ℕ) (e : ℤ) → T (lt (fin false m e) (fin false 1 (pos 32))) → m * up e < 2 ^ 32 * down e
unfolding lt
below m e t = one (m * up e) (down e) (ltb→lt (m * up e * 1) (4294967296 * down e) t)
  where
    one : (n d : ℕ) → n * 1 < 4294967296 * d → n < 4294967296 * d
    one n d h = omega arith

cut : (m : ℕ) (e : ℤ) → m * up e < 2 ^ 32 * down e → to_unsigned 32 (fin false m e) ≡ m * up e / down e
unfolding to_unsigned
cut m e h = min-eq_left (le_ones 32 (part-lt m e h))

pub floor-is : (f : Float) → T (lt (fin false 0 (pos 0)) f) → T (lt f (fin false 1 (pos 32)))
    → lowered f (near f) ≡ of_int binary64 (pos (to_unsigned 32 f))
unfolding of_int
floor-is nan a b = absurd (unfold lt in a)
floor-is (inf true) a b = absurd (unfold lt in a)
floor-is (inf false) a b = absurd (unfold lt in b)
floor-is (fin true m e) a b = absurd (unfold lt in a)
floor-is (fin false m e) a b =
    whole_part m e (below m e b) ∙ ap (λ (z : ℕ). round binary64 false z 1) (sym (cut m e (below m e b)))

-- ---- from 2 ^ 32 on, and where f is not above 0
pub floor-past : (f : Float) → T (lt (fin false 0 (pos 0)) f) → lt f (fin false 1 (pos 32)) ≡ false → to_unsigned 32 f ≡ 4294967295
unfolding lt to_unsigned
floor-past nan a b = absurd a
floor-past (inf true) a b = absurd a
floor-past (inf false) a b = refl
floor-past (fin true m e) a b = absurd a
floor-past (fin false m e) a b =
    min-eq_right
    (le_trans (lit≤ tt)
    ((le-div_iff_mul-le {x = 4294967296} (down_pos e)).1 (one (m * up e) (down e) (ltb-false (m * up e * 1) (4294967296 * down e) b))))
  where
    one : (n d : ℕ) → 4294967296 * d ≤ n * 1 → 4294967296 * d ≤ n
    one n d h = omega arith

pub floor-none : (f : Float) → lt (fin false 0 (pos 0)) f ≡ false → to_unsigned 32 f ≡ 0
unfolding lt to_unsigned
floor-none nan a = refl
floor-none (inf true) a = refl
floor-none (inf false) a = absurd (true≢false a)
floor-none (fin true m e) a = refl
floor-none (fin false m e) a =
    ap (λ (z : ℕ). min z 4294967295) (div-eq_of_lt (none (m * up e) (down e) (down_pos e) (ltb-false (0 * down e) (m * up e * 1) a)))
    ∙ zero-min 4294967295
  where
    none : (n d : ℕ) → 0 < d → n * 1 ≤ 0 * d → n < d
    none n d p h = omega arith

-- ---- the whole part as a float, and back
pub part-back : (f : Float)
    → T (in_unsigned binary64 32 (of_int binary64 (pos (to_unsigned 32 f))))
    × (to_unsigned 32 (of_int binary64 (pos (to_unsigned 32 f))) ≡ to_unsigned 32 f)
unfolding in_float
part-back f =
    let n = to_unsigned 32 f in
    unsigned_back binary64 32 n (le→leb n (2 ^ 53) (le_trans (le_of_lt (to_unsigned-lt 32 f)) (lit≤ tt))) (to_unsigned-lt 32 f)

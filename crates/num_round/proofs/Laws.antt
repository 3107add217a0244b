-- What callers need of `round_held` and `floor_of`: their ranges, their values at a fraction or a whole number, and that a second hold is a
-- minimum. Assumes nothing.
use mathlib.Core.Path.{◌≡◌, sym, ap, ◌∙◌}
use Prim.Native.Nat.{ℕ, suc, zero-le, ◌+◌, ◌*◌, ◌/◌, ◌^◌, ◌≤◌, ◌<◌, min}
use native.Mathlib.Nat.{min-le_left, min-le_right, le_refl, le_trans, le_of_eq, le_of_lt, le_of_suc-le-suc, mul-one, mul_right_comm}
use native.Mathlib.Nat.{le_of_mul-le-mul_right, div-lt_iff_lt-mul}
use native.Mathlib.Omega.{arith}
use mathlib.Core.Bool.{Bool, true, false, cond, true≢false}
use lib.IntN.{pos}
use lib.Dec.{lit≤, le→leb}
use lib.Ieee.{Float, nan, inf, fin, Format, binary64, prec, up, down, round, lt, of_int, in_float, to_unsigned}
use lib.Ieee.Back.{round_whole, unsigned_back}
use lib.Ieee.Casts.{to_unsigned-lt}
use lib.Ieee.Exact.{HasValue}
use lib.Ieee.Fits.{down_pos}
use lib.Ieee.Nearest.{div_same}
use borrow.Author.Tests.{ltb-false}
use Rattle.num_round.specs.Whole.{round_held, floor_of}

-- ---- rounded and held
held-le : (s : Bool) (n last : ℕ) → n ≤ last → cond s 0 n ≤ last
held-le true n last h = zero-le
held-le false n last h = h

-- at most last
pub round-le : (last : ℕ) (x : Float) → round_held last x ≤ last
unfolding round_held
round-le last nan = zero-le
round-le last (inf s) = held-le s last last (le_refl last)
round-le last (fin s m e) =
    let n = (2 * (m * up e) + down e) / (2 * down e) in
    held-le s (min n last) last (min-le_right n last)

again : (s : Bool) (n top last : ℕ) → last ≤ top → cond s 0 (min n last) ≡ min (cond s 0 (min n top)) last
again true n top last h = omega arith
again false n top last h = omega arith

again-last : (s : Bool) (top last : ℕ) → last ≤ top → cond s 0 last ≡ min (cond s 0 top) last
again-last true top last h = omega arith
again-last false top last h = omega arith

-- held to less, it is the minimum
pub round-min : (last top : ℕ) (x : Float) → last ≤ top → round_held last x ≡ min (round_held top x) last
unfolding round_held
round-min last top nan h = again-last true top last h
round-min last top (inf s) h = again-last s top last h
round-min last top (fin s m e) h = again s ((2 * (m * up e) + down e) / (2 * down e)) top last h

-- at a float that is a / c, not negative
pub round-fraction : (last : ℕ) (x : Float) (a c : ℕ) → 0 < c → HasValue x false a c → round_held last x ≡ min ((2 * a + c) / (2 * c)) last
unfolding round_held
round-fraction last nan a c p v = absurd v
round-fraction last (inf s) a c p v = absurd v
round-fraction last (fin true m e) a c p v = absurd (true≢false v.0)
round-fraction last (fin false m e) a c p v =
    ap (λ (z : ℕ). min z last)
    (div_same (2 * (m * up e) + down e) (2 * down e) (2 * a + c) (2 * c) (twice (down e) (down_pos e)) (twice c p)
    (cross (m * up e) (down e) a c v.1))
  where
    twice : (d : ℕ) → 0 < d → 0 < 2 * d
    twice d h = omega arith

    cross : (n d a c : ℕ) → n * c ≡ a * d → (2 * n + d) * (2 * c) ≡ (2 * a + c) * (2 * d)
    cross n d a c h = omega arith

half : (n : ℕ) → (2 * n + 1) / 2 ≡ n
half n = omega arith

-- at a whole number, of either format
pub round-at-whole : (f : Format) (last n : ℕ) → n ≤ 2 ^ prec f → round_held last (of_int f (pos n)) ≡ min n last
unfolding of_int
round-at-whole f last n h =
    round-fraction last (round f false n 1) n 1 (lit≤ tt) (round_whole f false n h) ∙ ap (λ (z : ℕ). min z last) (half n)

-- ---- rounded down
-- a `u32`
pub floor-lt : (f : Float) → floor_of f < 2 ^ 32
floor-lt f = to_unsigned-lt 32 f

pub floor-at-whole : (n : ℕ) → n < 2 ^ 32 → floor_of (of_int binary64 (pos n)) ≡ n
unfolding in_float
floor-at-whole n h = (unsigned_back binary64 32 n (le→leb n (2 ^ 53) (le_trans (le_of_lt h) (lit≤ tt))) h).1

under : (f y : Float) (n : ℕ) → HasValue y false n 1 → lt y f ≡ false → to_unsigned 32 f ≤ n
unfolding lt to_unsigned
under nan y n v t = zero-le
under (inf true) y n v t = zero-le
under (inf false) nan n v t = absurd v
under (inf false) (inf s) n v t = absurd v
under (inf false) (fin s p g) n v t = absurd (true≢false t)
under (fin true m e) y n v t = zero-le
under (fin false m e) nan n v t = absurd v
under (fin false m e) (inf s) n v t = absurd v
under (fin false m e) (fin true p g) n v t = absurd (true≢false v.0)
under (fin false m e) (fin false p g) n v t =
    let y : p * up g * down e ≡ n * down e * down g =
    ap (λ (z : ℕ). z * down e) (sym (mul-one (p * up g)) ∙ v.1) ∙ mul_right_comm n (down g) (down e) in
    let le : m * up e ≤ n * down e =
    le_of_mul-le-mul_right (le_trans (ltb-false (p * up g * down e) (m * up e * down g) t) (le_of_eq y)) (down_pos g) in
    le_trans (min-le_left (m * up e / down e) 4294967295)
    (le_of_suc-le-suc ((div-lt_iff_lt-mul (down_pos e)).1 (next (m * up e) n (down e) (down_pos e) le)))
  where
    next : (k n d : ℕ) → 0 < d → k ≤ n * d → k < suc n * d
    next k n d p h = omega arith

-- a position that is not above the whole number n, as a hold to 0..n leaves it, or a NaN, gives an index up to n
pub floor-le : (f : Float) (n : ℕ) → n ≤ 2 ^ 53 → lt (of_int binary64 (pos n)) f ≡ false → floor_of f ≤ n
unfolding of_int
floor-le f n h t = under f (round binary64 false n 1) n (round_whole binary64 false n h) t

-- Whole numbers as floats, in either format: their value, their order, a sum and a mean of them, a whole number over 1,
-- and the comparison with one over 1. Assumes nothing.
use Prim.Native.Nat.{ℕ, suc, ◌+◌, ◌*◌, ◌^◌, ◌≤◌, ◌<◌}
use mathlib.Core.Path.{◌≡◌, refl, sym, ap, ap₂, subst, ◌∙◌}
use mathlib.Core.Bool.{true, false}
use native.Mathlib.Nat.{zero-lt-suc, mul-pos, mul-one, one-mul, suc-mul, mul_left_comm, mul-le-mul_right, mul-lt-mul_of_pos_right, div-lt_iff_lt-mul}
use native.Mathlib.Omega.{arith}
use borrow.Author.Tests.{ne_eqb}
use lib.IntN.{pos}
use lib.Dec.{T, eqb}
use lib.Pow.{pow_pos}
use lib.Ieee.{Float, Format, nan, inf, fin, prec, low, up, down, round, of_int, add, div, eq, le, fits}
use lib.Ieee.Fits.{down_pos, div-fits, of_int-fits}
use lib.Ieee.Exact.{HasValue}
use lib.Ieee.Order.{round_mono}
use lib.Ieee.Back.{round_whole, whole_unique}
use lib.Ieee.Positive.{positive_of_value, above, above_of_le}
use Rattle.pointwise.proofs.Each.{below_or}
use Rattle.num_convert.specs.Convert.{whole_in}
use Rattle.dng.specs.Value.{one}
use Rattle.law_wholes.proofs.Values.{add_at, div-at, div-one-value, half_up, eq-at, le-at, round-upto}

pub whole-value : (f : Format) (n : ℕ) → n ≤ 2 ^ prec f → HasValue (whole_in f n) false n 1
unfolding of_int
whole-value f n h = round_whole f false n h

pub whole-mono : (f : Format) (a c : ℕ) → a ≤ c → T (le (whole_in f a) (whole_in f c))
unfolding of_int
whole-mono f a c h = round_mono f a 1 c 1 (zero-lt-suc 0) (zero-lt-suc 0) (mul-le-mul_right 1 h)

pub one_value : HasValue one false 1 1
one_value = (refl, refl)

-- ---- a sum that the format counts without a gap

pub add-whole : (f : Format) (x y : Float) (a b : ℕ) → a + b ≤ 2 ^ prec f → HasValue x false a 1 → HasValue y false b 1
    → HasValue (add f x y) false (a + b) 1
add-whole f x y a b h v w =
    subst (λ (z : Float). HasValue z false (a + b) 1)
    (sym (add_at f x y a 1 b 1 (zero-lt-suc 0) (zero-lt-suc 0) v w ∙ ap (λ (z : ℕ). round f false z 1) (ap₂ ◌+◌ (mul-one a) (mul-one b))))
    (round_whole f false (a + b) h)

-- ---- the mean of n whole numbers, none above b, that sum to s: it is not above b either, rounded to whole or not

half-upto : (g b l : ℕ) → 0 < l → g ≤ b * l → half_up g l < suc b
half-upto g b l L h = (div-lt_iff_lt-mul (mul-pos (zero-lt-suc 1) L)).1 (room g b l L h)
  where
    room : (g b l : ℕ) → 0 < l → g ≤ b * l → 2 * g + l < suc b * (2 * l)
    room g b l L h = omega (arith, suc-mul b (2 * l), mul_left_comm b 2 l)

pub record Mean (f : Format) (b : ℕ) (v : Float) : Type 0 where
  pub units : ℕ
  pub value : HasValue v false units (2 ^ low f)
  pub upto : half_up units (2 ^ low f) < suc b

pub mean-whole : (f : Format) (x : Float) (s n b : ℕ) → 0 < n → n ≤ 2 ^ prec f → b ≤ 2 ^ prec f → s ≤ b * n → HasValue x false s 1
    → Mean f b (div f x (whole_in f n))
mean-whole f x s n b N few B h v =
    let r = round-upto f s n b N B h in
    let is : div f x (whole_in f n) ≡ round f false s n =
    div-at f x (whole_in f n) s 1 n 1 (zero-lt-suc 0) (zero-lt-suc 0) N v (whole-value f n few)
    ∙ ap₂ (round f false) (mul-one s) (one-mul n) in
    record {
      units = r.0;
      value = subst (λ (z : Float). HasValue z false r.0 (2 ^ low f)) (sym is) r.1;
      upto = half-upto r.0 b (2 ^ low f) (pow_pos (low f)) r.2;
    }

-- ---- a whole number over 1

pub over-one : (f : Format) (n : ℕ) → n ≤ 2 ^ prec f → div f (whole_in f n) one ≡ whole_in f n
over-one f n h =
    whole_unique f (div f (whole_in f n) one) (whole_in f n) false n
    (div-fits f (whole_in f n) one) (of_int-fits f (pos n))
    (div-one-value f (whole_in f n) one n 1 (zero-lt-suc 0) (of_int-fits f (pos n)) (whole-value f n h) one_value)
    (whole-value f n h)

-- ---- a constant over 1 equals a whole number just where the numbers are equal, also where the constant is rounded or an infinity

far : (f : Format) (x y u : Float) (a b : ℕ) → a < b → T (fits f x) → HasValue u false a 1 → HasValue y false b 1 → T (above x) → T (le y x)
    → eq u (div f x one) ≡ false
unfolding eq div
far f nan y u a b h t v w p q = absurd p
far f (inf true) y u a b h t v w p q = absurd p
far f (inf false) y nan a b h t v w p q = absurd v
far f (inf false) y (inf s) a b h t v w p q = absurd v
far f (inf false) y (fin s m e) a b h t v w p q = refl
far f (fin true m e) y u a b h t v w p q = absurd p
far f (fin false m e) y u a b h t v w p q =
    eq-at u (div f (fin false m e) one) a 1 (m * up e) (down e) (zero-lt-suc 0) (down_pos e) v
    (div-one-value f (fin false m e) one (m * up e) (down e) (down_pos e) t (refl, refl) one_value)
    ∙ ne_eqb (a * down e) (m * up e * 1)
    (λ z. omega (arith, mul-lt-mul_of_pos_right h (down_pos e), le-at y (fin false m e) b 1 (m * up e) (down e) w (refl, refl) q))

pub constant-is : (f : Format) (a c : ℕ) → a < 2 ^ prec f → eq (whole_in f a) (div f (whole_in f c) one) ≡ eqb a c
constant-is f a c h = below_or (2 ^ prec f) c away near
  where
    v : HasValue (whole_in f a) false a 1
    v = whole-value f a (omega arith)

    near : c ≤ 2 ^ prec f → eq (whole_in f a) (div f (whole_in f c) one) ≡ eqb a c
    near k =
        ap (eq (whole_in f a)) (over-one f c k)
        ∙ eq-at (whole_in f a) (whole_in f c) a 1 c 1 (zero-lt-suc 0) (zero-lt-suc 0) v (whole-value f c k)
        ∙ ap₂ eqb (mul-one a) (mul-one c)

    away : 2 ^ prec f < c → eq (whole_in f a) (div f (whole_in f c) one) ≡ eqb a c
    away k =
        let x : Float = whole_in f c in
        let y : Float = whole_in f (2 ^ prec f) in
        let w : HasValue y false (2 ^ prec f) 1 = whole-value f (2 ^ prec f) (omega arith) in
        let q : T (le y x) = whole-mono f (2 ^ prec f) c (omega arith) in
        far f x y (whole_in f a) a (2 ^ prec f) h (of_int-fits f (pos c)) v w
        (above_of_le y x (positive_of_value y (2 ^ prec f) 1 w (pow_pos (prec f))) q) q
        ∙ sym (ne_eqb a c (λ z. omega arith))

-- Floats by the fractions that they equal, in either format: sums, products and quotients of values that are not negative; a value
-- that fits comes back from `round`; the rounding half away from zero, the comparison and the order go by the fraction. Assumes nothing.
use Prim.Native.Nat.{ℕ, zero, suc, ◌+◌, ◌-◌, ◌*◌, ◌/◌, ◌%◌, ◌^◌, ◌≤◌, ◌<◌, min}
use mathlib.Core.Path.{◌≡◌, refl, sym, ap, ap₂, subst, ◌∙◌}
use mathlib.Core.Bool.{Bool, true, false, ◌&&◌, ◌||◌, cond, true≢false, and-true}
use native.Mathlib.Nat.{le_of_suc-le-suc, lt_of_not-le, not-le_of_lt, zero-lt-suc, lt_irrefl, mul-pos, mul-one, one-mul, zero-mul, mul_comm, mul_assoc, mul_left_comm, mul_right_comm, add-mul, eq_of_mul-eq-mul_right, le_trans, le_of_eq, le_of_lt, lt_of_lt_of_le, lt_of_le_of_lt, mul-le-mul_right, mul-lt-mul_of_pos_right, lt_of_mul-lt-mul_right}
use native.Mathlib.Omega.{arith}
use borrow.Author.Tests.{ltb-true, eqb-true, eqb-false, eq-eqb, ne_eqb}
use lib.IntN.{ℤ, pos, negsuc}
use lib.Dec.{T, leb, ltb, eqb, ltb→lt, leb→le, eqb→eq}
use lib.Pow.{pow-add, pow_pos, pow-lt}
use lib.Ieee.{Float, Format, nan, inf, fin, prec, emax, low, up, down, odd, units, round, add, mul, div, eq, le, fits}
use lib.Ieee.Fits.{round_is, up_pos, down_pos, and_l, and_r}
use lib.Ieee.Digits.{back}
use lib.Ieee.Exact.{HasValue, odd_sign, round_exact}
use lib.Ieee.Back.{round_whole}
use lib.Ieee.Nearest.{div_same}
use lib.Ieee.Order.{transfer, round_mono, kept, drop}
use lib.Ieee.Scale.{round_same, finite, overflow, grid, round_val, round_under}
use lib.Ieee.Positive.{first_pos}
use Rattle.num_round.specs.Whole.{round_held}

-- ---- a value as another fraction

pub same-value : (x : Float) (s : Bool) (a c b d : ℕ) → 0 < c → a * d ≡ b * c → HasValue x s a c → HasValue x s b d
same-value nan s a c b d C h v = v
same-value (inf t) s a c b d C h v = v
same-value (fin t m e) s a c b d C h v = (
  v.0,
  eq_of_mul-eq-mul_right c C (m * up e * d) (b * down e)
      (mul_right_comm (m * up e) d c
      ∙ ap (λ (z : ℕ). z * d) v.1
      ∙ mul_right_comm a (down e) d
      ∙ ap (λ (z : ℕ). z * down e) h
      ∙ mul_right_comm b c (down e)),
)

-- ---- operations by the fractions that the operands equal

ruleset sorted = (mul_assoc, mul_comm, mul_left_comm)

sum_same : (x y p q a c b d : ℕ) → x * c ≡ a * p → y * d ≡ b * q → (x * q + y * p) * (c * d) ≡ (a * d + b * c) * (p * q)
sum_same x y p q a c b d h k =
    let l : x * q * (c * d) ≡ a * d * (p * q) = simp sorted (simp sorted at (ap (λ (z : ℕ). z * (q * d)) h)) in
    let r : y * p * (c * d) ≡ b * c * (p * q) = simp sorted (simp sorted at (ap (λ (z : ℕ). z * (p * c)) k)) in
    add-mul (x * q) (y * p) (c * d) ∙ ap₂ ◌+◌ l r ∙ sym (add-mul (a * d) (b * c) (p * q))

product-same : (x y p q a c b d : ℕ) → x * c ≡ a * p → y * d ≡ b * q → x * y * (c * d) ≡ a * b * (p * q)
product-same x y p q a c b d h k =
    let l : x * y * (c * d) ≡ x * c * (y * d) = simp (mul_assoc, mul_left_comm) in
    let r : a * p * (b * q) ≡ a * b * (p * q) = simp sorted in
    l ∙ ap₂ ◌*◌ h k ∙ r

pub add_at : (f : Format) (x y : Float) (a c b d : ℕ) → 0 < c → 0 < d → HasValue x false a c → HasValue y false b d
    → add f x y ≡ round f false (a * d + b * c) (c * d)
unfolding add
add_at f nan y a c b d C D v w = absurd v
add_at f (inf s) y a c b d C D v w = absurd v
add_at f (fin s m e) nan a c b d C D v w = absurd w
add_at f (fin s m e) (inf t) a c b d C D v w = absurd w
add_at f (fin true m e) (fin t n g) a c b d C D v w = absurd (true≢false v.0)
add_at f (fin false m e) (fin true n g) a c b d C D v w = absurd (true≢false w.0)
add_at f (fin false m e) (fin false n g) a c b d C D v w =
    round_same f false (m * up e * down g + n * up g * down e) (down e * down g) (a * d + b * c) (c * d)
    (mul-pos (down_pos e) (down_pos g)) (mul-pos C D)
    (sum_same (m * up e) (n * up g) (down e) (down g) a c b d v.1 w.1)

pub mul_at : (f : Format) (x y : Float) (a c b d : ℕ) → 0 < c → 0 < d → HasValue x false a c → HasValue y false b d
    → mul f x y ≡ round f false (a * b) (c * d)
unfolding mul
mul_at f nan y a c b d C D v w = absurd v
mul_at f (inf s) y a c b d C D v w = absurd v
mul_at f (fin s m e) nan a c b d C D v w = absurd w
mul_at f (fin s m e) (inf t) a c b d C D v w = absurd w
mul_at f (fin true m e) (fin t n g) a c b d C D v w = absurd (true≢false v.0)
mul_at f (fin false m e) (fin true n g) a c b d C D v w = absurd (true≢false w.0)
mul_at f (fin false m e) (fin false n g) a c b d C D v w =
    round_same f false (m * up e * (n * up g)) (down e * down g) (a * b) (c * d) (mul-pos (down_pos e) (down_pos g)) (mul-pos C D)
    (product-same (m * up e) (n * up g) (down e) (down g) a c b d v.1 w.1)

pub div-at : (f : Format) (x y : Float) (a c b d : ℕ) → 0 < c → 0 < d → 0 < b → HasValue x false a c → HasValue y false b d
    → div f x y ≡ round f false (a * d) (c * b)
unfolding div
div-at f nan y a c b d C D B v w = absurd v
div-at f (inf s) y a c b d C D B v w = absurd v
div-at f (fin s m e) nan a c b d C D B v w = absurd w
div-at f (fin s m e) (inf t) a c b d C D B v w = absurd w
div-at f (fin true m e) (fin t n g) a c b d C D B v w = absurd (true≢false v.0)
div-at f (fin false m e) (fin true n g) a c b d C D B v w = absurd (true≢false w.0)
div-at f (fin false m e) (fin false n g) a c b d C D B v w =
    go (eqb n 0) (eqb→eq n 0)
    ∙ round_same f false (m * up e * down g) (n * up g * down e) (a * d) (c * b) (mul-pos some (down_pos e)) (mul-pos C B) cross
  where
    some : 0 < n * up g
    some = first_pos (n * up g) d (subst (λ (z : ℕ). 0 < z) (sym w.1) (mul-pos B (down_pos g)))

    go : (z : Bool) → (T z → n ≡ 0)
        → cond z (cond (eqb m 0) nan (inf false)) (round f false (m * up e * down g) (n * up g * down e))
        ≡ round f false (m * up e * down g) (n * up g * down e)
    go true h = absurd (lt_irrefl 0 (subst (λ (k : ℕ). 0 < k) (ap (λ (k : ℕ). k * up g) (h tt) ∙ zero-mul (up g)) some))
    go false h = refl

    cross : m * up e * down g * (c * b) ≡ a * d * (n * up g * down e)
    cross =
        let l : m * up e * down g * (c * b) ≡ m * up e * c * (b * down g) = simp sorted in
        let r : a * down e * (n * up g * d) ≡ a * d * (n * up g * down e) = simp sorted in
        l ∙ ap₂ ◌*◌ v.1 (sym w.1) ∙ r

-- ---- what `fits` says of a value other than 0

record Fitting (f : Format) (m : ℕ) (e : ℤ) : Type 0 where
  short : m < 2 ^ prec f
  fine : down e ≤ 2 ^ low f
  small : m * up e < 2 ^ suc (emax f) * down e

fitting : (f : Format) (s : Bool) (m : ℕ) (e : ℤ) → T (fits f (fin s m e)) → Fitting f m e
unfolding fits
fitting f s zero e t =
    record {
      short = pow_pos (prec f);
      fine = go (down e) (up e) (up_pos e) (eqb→eq (up e * down e) 1 t);
      small = subst (λ (z : ℕ). z < 2 ^ suc (emax f) * down e) (sym (zero-mul (up e))) (mul-pos (pow_pos (suc (emax f))) (down_pos e));
    }
  where
    go : (d u : ℕ) → 0 < u → u * d ≡ 1 → d ≤ 2 ^ low f
    go d u U h = le_trans (le_trans (le_of_eq (sym (one-mul d))) (le_trans (mul-le-mul_right d U) (le_of_eq h))) (pow_pos (low f))
fitting f s (suc m) e t =
    let A : Bool = eqb (suc m % 2) 1 in
    let B : Bool = ltb (suc m) (2 ^ prec f) in
    let C : Bool = leb (down e) (2 ^ low f) in
    let D : Bool = ltb (suc m * up e) (2 ^ suc (emax f) * down e) in
    let abc : T (A && B && C) = and_l (A && B && C) D t in
    record {
      short = ltb→lt (suc m) (2 ^ prec f) (and_r A B (and_l (A && B) C abc));
      fine = leb→le (down e) (2 ^ low f) (and_r (A && B) C abc);
      small = ltb→lt (suc m * up e) (2 ^ suc (emax f) * down e) (and_r (A && B && C) D t);
    }

exponents : (i j : ℕ) → 2 ^ i ≤ 2 ^ j → i ≤ j
exponents i j h = le_of_suc-le-suc (lt_of_not-le (λ (g : suc j ≤ i). not-le_of_lt (pow-lt g) h))

-- a value of the format, rounded: no change
fraction-kept : (f : Format) (s : Bool) (m : ℕ) (e : ℤ) → Fitting f m e → HasValue (round f s (m * up e) (down e)) s (m * up e) (down e)
fraction-kept f s m (pos k) h =
    round_exact f s (m * 2 ^ k) 1 m (k + low f) (zero-lt-suc 0) h.short
    (lt_of_le_of_lt (le_of_eq grows) (lt_of_lt_of_le (mul-lt-mul_of_pos_right h.small (pow_pos (low f))) (le_of_eq bound)))
    (sym grows ∙ sym (mul-one (m * 2 ^ (k + low f))))
  where
    grows : m * 2 ^ (k + low f) ≡ m * 2 ^ k * 2 ^ low f
    grows = ap (λ (z : ℕ). m * z) (pow-add 2 k (low f)) ∙ sym (mul_assoc m (2 ^ k) (2 ^ low f))

    bound : 2 ^ suc (emax f) * 1 * 2 ^ low f ≡ 2 ^ (low f + suc (emax f))
    bound =
        ap (λ (z : ℕ). z * 2 ^ low f) (mul-one (2 ^ suc (emax f)))
        ∙ mul_comm (2 ^ suc (emax f)) (2 ^ low f)
        ∙ sym (pow-add 2 (low f) (suc (emax f)))
fraction-kept f s m (negsuc k) h =
    round_exact f s (m * 1) (2 ^ suc k) m (low f - suc k) (pow_pos (suc k)) h.short
    (lt_of_mul-lt-mul_right (2 ^ suc k)
    (lt_of_le_of_lt (le_of_eq (sym shrinks)) (lt_of_lt_of_le (mul-lt-mul_of_pos_right h.small (pow_pos (low f))) (le_of_eq bound))))
    shrinks
  where
    place : low f - suc k + suc k ≡ low f
    place = back (low f) (suc k) (exponents (suc k) (low f) h.fine)

    bound : 2 ^ suc (emax f) * 2 ^ suc k * 2 ^ low f ≡ 2 ^ (low f + suc (emax f)) * 2 ^ suc k
    bound =
        mul_right_comm (2 ^ suc (emax f)) (2 ^ suc k) (2 ^ low f)
        ∙ ap (λ (z : ℕ). z * 2 ^ suc k) (mul_comm (2 ^ suc (emax f)) (2 ^ low f) ∙ sym (pow-add 2 (low f) (suc (emax f))))

    shrinks : m * 1 * 2 ^ low f ≡ m * 2 ^ (low f - suc k) * 2 ^ suc k
    shrinks =
        ap (λ (z : ℕ). z * 2 ^ low f) (mul-one m)
        ∙ ap (λ (z : ℕ). m * z) (ap (λ (z : ℕ). 2 ^ z) (sym place) ∙ pow-add 2 (low f - suc k) (suc k))
        ∙ sym (mul_assoc m (2 ^ (low f - suc k)) (2 ^ suc k))

pub kept-value : (f : Format) (x : Float) (s : Bool) (a c : ℕ) → 0 < c → T (fits f x) → HasValue x s a c → HasValue (round f s a c) s a c
kept-value f nan s a c C t v = absurd v
kept-value f (inf u) s a c C t v = absurd v
kept-value f (fin u m e) s a c C t v =
    subst (λ (z : Float). HasValue z s a c) (round_same f s (m * up e) (down e) a c (down_pos e) C v.1)
    (same-value (round f s (m * up e) (down e)) s (m * up e) (down e) a c (down_pos e) v.1 (fraction-kept f s m e (fitting f u m e t)))

-- ---- a value of the format times 1, and over 1

pub mul-one-value : (f : Format) (x y : Float) (a c : ℕ) → 0 < c → T (fits f x) → HasValue x false a c → HasValue y false 1 1
    → HasValue (mul f x y) false a c
mul-one-value f x y a c C t v w =
    subst (λ (z : Float). HasValue z false a c)
    (sym (mul_at f x y a c 1 1 C (zero-lt-suc 0) v w ∙ ap₂ (round f false) (mul-one a) (mul-one c)))
    (kept-value f x false a c C t v)

pub div-one-value : (f : Format) (x y : Float) (a c : ℕ) → 0 < c → T (fits f x) → HasValue x false a c → HasValue y false 1 1
    → HasValue (div f x y) false a c
div-one-value f x y a c C t v w =
    subst (λ (z : Float). HasValue z false a c)
    (sym (div-at f x y a c 1 1 C (zero-lt-suc 0) (zero-lt-suc 0) v w ∙ ap₂ (round f false) (mul-one a) (mul-one c)))
    (kept-value f x false a c C t v)

-- ---- rounded half away from zero, by any fraction that the value equals

-- a / c to the nearest whole number, a half up
abbrev pub half_up : ℕ → ℕ → ℕ
half_up a c = (2 * a + c) / (2 * c)

doubled : (x p c : ℕ) → (2 * x + p) * (2 * c) ≡ 4 * (x * c) + 2 * (p * c)
doubled x p c =
    let l : 2 * x * (2 * c) ≡ 2 * (2 * (x * c)) = mul_assoc 2 x (2 * c) ∙ ap (λ (z : ℕ). 2 * z) (mul_left_comm x 2 c) in
    omega (arith, add-mul (2 * x) p (2 * c), mul_left_comm p 2 c)

half-same : (x p a c : ℕ) → x * c ≡ a * p → (2 * x + p) * (2 * c) ≡ (2 * a + c) * (2 * p)
half-same x p a c h = omega (arith, doubled x p c, doubled a c p, mul_comm c p)

pub held_at : (last : ℕ) (x : Float) (a c : ℕ) → 0 < c → HasValue x false a c → round_held last x ≡ min (half_up a c) last
unfolding round_held
held_at last nan a c C v = absurd v
held_at last (inf s) a c C v = absurd v
held_at last (fin true m e) a c C v = absurd (true≢false v.0)
held_at last (fin false m e) a c C v =
    ap (λ (z : ℕ). min z last)
    (div_same (2 * (m * up e) + down e) (2 * down e) (2 * a + c) (2 * c) (mul-pos (zero-lt-suc 1) (down_pos e)) (mul-pos (zero-lt-suc 1) C)
    (half-same (m * up e) (down e) a c v.1))

pub half-whole : (a : ℕ) → half_up a 1 ≡ a
half-whole a = omega arith

-- ---- compared

same_test : (a b c d : ℕ) → (a ≡ b → c ≡ d) → (c ≡ d → a ≡ b) → eqb a b ≡ eqb c d
same_test a b c d h k = go (eqb a b) refl
  where
    go : (z : Bool) → eqb a b ≡ z → eqb a b ≡ eqb c d
    go true e = e ∙ sym (eq-eqb c d (h (eqb-true a b e)))
    go false e = e ∙ sym (ne_eqb c d (λ q. eqb-false a b e (k q)))

cross : (x y p q a b c d : ℕ) → 0 < c → 0 < d → x * c ≡ a * p → y * d ≡ b * q → a * d ≡ b * c → x * q ≡ y * p
cross x y p q a b c d C D v w h =
    eq_of_mul-eq-mul_right (c * d) (mul-pos C D) (x * q) (y * p)
    (one ∙ ap (λ (z : ℕ). z * (q * d)) v ∙ two ∙ ap (λ (z : ℕ). z * (p * q)) h ∙ three ∙ ap (λ (z : ℕ). z * (c * p)) (sym w) ∙ four)
  where
    one : x * q * (c * d) ≡ x * c * (q * d)
    one = simp (mul_assoc, mul_left_comm)

    two : a * p * (q * d) ≡ a * d * (p * q)
    two = simp sorted

    three : b * c * (p * q) ≡ b * q * (c * p)
    three = simp sorted

    four : y * d * (c * p) ≡ y * p * (c * d)
    four = simp sorted

pub eq-at : (x y : Float) (a c b d : ℕ) → 0 < c → 0 < d → HasValue x false a c → HasValue y false b d → eq x y ≡ eqb (a * d) (b * c)
unfolding eq
eq-at nan y a c b d C D v w = absurd v
eq-at (inf s) y a c b d C D v w = absurd v
eq-at (fin s m e) nan a c b d C D v w = absurd w
eq-at (fin s m e) (inf t) a c b d C D v w = absurd w
eq-at (fin true m e) (fin t n g) a c b d C D v w = absurd (true≢false v.0)
eq-at (fin false m e) (fin true n g) a c b d C D v w = absurd (true≢false w.0)
eq-at (fin false m e) (fin false n g) a c b d C D v w =
    and-true (eqb (m * up e * down g) (n * up g * down e))
    ∙ same_test (m * up e * down g) (n * up g * down e) (a * d) (b * c)
    (λ h. cross a b c d (m * up e) (n * up g) (down e) (down g) (down_pos e) (down_pos g) (sym v.1) (sym w.1) h)
    (λ h. cross (m * up e) (n * up g) (down e) (down g) a b c d C D v.1 w.1 h)

-- ---- ordered

lt-or-eq : (a b : ℕ) → T (ltb a b || (eqb a b && true)) → a ≤ b
lt-or-eq a b t = go (ltb a b) refl t
  where
    go : (z : Bool) → ltb a b ≡ z → T (z || (eqb a b && true)) → a ≤ b
    go true e u = le_of_lt (ltb-true a b e)
    go false e u = le_of_eq (eqb→eq a b (and_l (eqb a b) true u))

pub le-at : (x y : Float) (a c b d : ℕ) → HasValue x false a c → HasValue y false b d → T (le x y) → a * d ≤ b * c
unfolding le
le-at nan y a c b d v w h = absurd v
le-at (inf s) y a c b d v w h = absurd v
le-at (fin s m e) nan a c b d v w h = absurd w
le-at (fin s m e) (inf t) a c b d v w h = absurd w
le-at (fin true m e) (fin t n g) a c b d v w h = absurd (true≢false v.0)
le-at (fin false m e) (fin true n g) a c b d v w h = absurd (true≢false w.0)
le-at (fin false m e) (fin false n g) a c b d v w h =
    transfer a b c d (m * up e) (n * up g) (down e) (down g) (down_pos e) (down_pos g) (sym v.1) (sym w.1)
    (lt-or-eq (m * up e * down g) (n * up g * down e) h)

-- ---- a fraction that is at most a whole number b rounds to a value that is at most b

value-finite : (x : Float) (s : Bool) (a c : ℕ) → HasValue x s a c → T (finite x)
value-finite nan s a c v = absurd v
value-finite (inf t) s a c v = absurd v
value-finite (fin t m e) s a c v = tt

no-infinity : (y : Float) (b d : ℕ) → HasValue y false b d → T (le (inf false) y) → ⊥
unfolding le
no-infinity nan b d w h = absurd w
no-infinity (inf t) b d w h = absurd w
no-infinity (fin t n g) b d w h = absurd h

units-finite : (f : Format) (q k : ℕ) (y : Float) (b d : ℕ) → HasValue y false b d → T (le (units f false q k) y)
    → T (finite (units f false q k))
unfolding units
units-finite f q k y b d w = go (ltb (q * 2 ^ k) (overflow f))
  where
    x : Float
    x = odd (suc (prec f)) false q k (low f)

    go : (z : Bool) → T (le (cond z x (inf false)) y) → T (finite (cond z x (inf false)))
    go true h = value-finite x false (q * 2 ^ k) (2 ^ low f) (odd_sign (suc (prec f)) false q k (low f))
    go false h = absurd (no-infinity y b d w h)

pub round-upto : (f : Format) (a c b : ℕ) → 0 < c → b ≤ 2 ^ prec f → a ≤ b * c
    → (g : ℕ) × HasValue (round f false a c) false g (2 ^ low f) × (g ≤ b * 2 ^ low f)
round-upto f a c b C B h =
    let y : Float = round f false b 1 in
    let w : HasValue y false b 1 = round_whole f false b B in
    let under : T (le (round f false a c) y) = round_mono f a c b 1 C (zero-lt-suc 0) (le_trans (le_of_eq (mul-one a)) h) in
    let fine : T (finite (round f false a c)) =
    subst (λ (z : Float). T (finite z)) (sym (round_is f false a c))
    (units-finite f (kept (prec f) (a * 2 ^ low f) c) (drop (prec f) (a * 2 ^ low f) c) y b 1 w
    (subst (λ (z : Float). T (le z y)) (round_is f false a c) under)) in
    let v : HasValue (round f false a c) false (grid f a c) (2 ^ low f) = round_val f a c (round_under f a c fine) in
    (grid f a c, v, le_trans (le_of_eq (sym (mul-one (grid f a c)))) (le-at (round f false a c) y (grid f a c) (2 ^ low f) b 1 v w under))

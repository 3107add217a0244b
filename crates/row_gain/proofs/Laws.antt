-- A position held to 0..n−1 lies between two points of the map. Assumes nothing.
use Prim.Native.Nat.{ℕ, zero-le, ◌-◌, ◌≤◌, ◌<◌, ◌^◌}
use mathlib.Core.Path.{◌≡◌, refl, subst}
use mathlib.Core.Bool.{Bool, true, false}
use native.Mathlib.Omega.{arith}
use native.Mathlib.Nat.{le_of_eq}
use lib.Ieee.{Float, binary64, lt, to_unsigned}
use Rattle.num_round.specs.Whole.{floor_of}
use Rattle.num_round.proofs.Laws.{floor-le, floor-at-whole}
use Rattle.num_convert.specs.Convert.{whole_in, held_to}
use Rattle.dng.specs.Value.{nought, position, lower, upper}
use Rattle.row_gain.specs.declared.Ruler.{Ruler}
use Rattle.row_gain.specs.declared.Axis.{Axis}
use Rattle.row_gain.specs.declared.Column.{Column}
use Rattle.row_gain.specs.Gain.{AxisIs, OnMap}
use Rattle.row_gain.specs.Strip.{RulerIs, ColumnIs, place_on}

-- either way
by_bool : {C : Type 0} (b : Bool) → (b ≡ true → C) → (b ≡ false → C) → C
by_bool true t e = t refl
by_bool false t e = e refl

none : (n : ℕ) → floor_of nought ≤ n
unfolding to_unsigned
none n = zero-le

held-le : (x : Float) (n : ℕ) → n < 2 ^ 32 → floor_of (held_to nought (whole_in binary64 n) x) ≤ n
unfolding held_to
held-le x n h =
    by_bool (lt x nought) (λ e. rw e (none n))
    (λ e.
    rw e
    (by_bool (lt (whole_in binary64 n) x) (λ q. rw q (le_of_eq (floor-at-whole n h))) (λ q. rw q (floor-le x n (omega arith) q))))

-- both points are the map's: the lower is one of 0..n−1 (a NaN gives 0), and so is the upper, which is held to it
pub lower-le : (at full : ℕ) (origin spacing : Float) (n : ℕ) → n ≤ 2 ^ 32 → lower (position at full origin spacing n) ≤ n - 1
unfolding position
lower-le at full origin spacing n h =
    by_bool (lt nought spacing) (λ e. rw e (held-le _ (n - 1) (omega arith))) (λ e. rw e (none (n - 1)))

pub upper-le : (n : ℕ) (f : Float) → upper n f ≤ n - 1
upper-le n f = omega arith

pub on-map : (at full : ℕ) (origin spacing : Float) (n : ℕ) {v : Axis} → AxisIs (position at full origin spacing n) n v → n ≤ 2 ^ 32
    → OnMap v n
on-map at full origin spacing n a h =
    record { lower_in = omega (arith, a.lower-is, lower-le at full origin spacing n h); upper_in = omega (arith, a.upper_is) }

-- a place on a ruler that ends at n is at most n
pub place-le : (r : Ruler) (n at : ℕ) → r.last ≡ whole_in binary64 n → n < 2 ^ 32 → lower (place_on r at) ≤ n
unfolding place_on
place-le r n at e h =
    by_bool (lt nought r.spacing) (λ q. rw (q, e) (held-le _ n h)) (λ q. rw q (none n))

-- what is measured by the ruler of an axis is the position on it
pub place_is : (full : ℕ) (origin spacing : Float) (n : ℕ) (r : Ruler) → RulerIs full origin spacing n r → (at : ℕ)
    → place_on r at ≡ position at full origin spacing n
unfolding place_on position
place_is full origin spacing n r is at = rw (is.full_is, is.origin-is, is.spacing-is, is.last-is)

-- and so are the point and the share
pub column-on : {full : ℕ} {origin spacing : Float} {n : ℕ} {r : Ruler} → RulerIs full origin spacing n r → (at : ℕ) {c : Column}
    → ColumnIs (place_on r at) c → ColumnIs (position at full origin spacing n) c
column-on {full} {origin} {spacing} {n} {r} is at {c} on = subst (λ (f : Float). ColumnIs f c) (place_is full origin spacing n r is at) on

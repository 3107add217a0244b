-- A position's row by the width's reciprocal m, in parts of a base b above the position: q · m / b is the row of q or one less.
-- Over any width d and base b. Assumes nothing.
use Prim.Native.Nat.{ℕ, ◌+◌, ◌-◌, ◌*◌, ◌/◌, ◌≤◌, ◌<◌}
use mathlib.Core.Path.{◌≡◌, sym, ap, ◌∙◌}
use native.Mathlib.Nat.{add-mul, mul-add, mul_assoc, mul_comm, mul_right_comm, mul-le-mul_left, mul-le-mul_right, mul-lt-mul_of_pos_right, le_of_mul-le-mul_right, lt_of_mul-lt-mul_right, div-mul-le_self, lt-div-mul-add}
use native.Mathlib.Omega.{arith}
use lib.Arith.{digits_div}

-- the row is what q lies in
row_is : (d q y : ℕ) → y * d ≤ q → q < y * d + d → y ≡ q / d
row_is d q y low high =
    let back : y * d + (q - y * d) ≡ q = omega arith in
    sym (digits_div y (omega arith)) ∙ ap (λ (n : ℕ). n / d) back

module _ (b d q m : ℕ) (some : 1 ≤ d) (h : q < b) (e : m ≡ b / d) where
  -- m · d is at most b, and at most d below it
  part_low : m * d ≤ b
  part_low = rw e (div-mul-le_self b d)

  part-high : b ≤ m * d + d
  part-high = let l : b < b / d * d + d = lt-div-mul-add some in rw e (omega arith)

  pub near-low : q * m / b * d ≤ q
  near-low =
      le_of_mul-le-mul_right {k = b}
      (omega (arith, mul_right_comm (q * m / b) d b, mul-le-mul_right d (div-mul-le_self (q * m) b), mul_assoc q m d, mul-le-mul_left q part_low))
      (omega arith)

  near-high : q < q * m / b * d + d + d
  near-high =
      let whole : q * m < q * m / b * b + b = lt-div-mul-add (omega arith) in
      let rows : q * m * d < (q * m / b * b + b) * d = mul-lt-mul_of_pos_right whole some in
      let rest : q * d ≤ b * d = mul-le-mul_right d (omega arith) in
      lt_of_mul-lt-mul_right b
      (omega (
        arith,
        rows,
        rest,
        mul-le-mul_left q part-high,
        mul-add q (m * d) d,
        mul_assoc q m d,
        add-mul (q * m / b * b) b d,
        mul_right_comm (q * m / b) d b,
        add-mul (q * m / b * d + d) d b,
        add-mul (q * m / b * d) d b,
        mul_comm d b,
      ))

  pub row_near : q - q * m / b * d < d → q * m / b ≡ q / d
  row_near l = row_is d q (q * m / b) near-low (omega (arith, near-low))

  pub row_next : d ≤ q - q * m / b * d → q * m / b + 1 ≡ q / d
  row_next l =
      let next : (q * m / b + 1) * d ≡ q * m / b * d + d = omega (arith, add-mul (q * m / b) 1 d) in
      row_is d q (q * m / b + 1) (omega (arith, near-low)) (omega (arith, near-high))

-- Counted places: the next sample of a row is in the same pixel or in the next one; and where a place of a pattern lies in a table.
-- Assumes nothing.
use Prim.Native.Nat.{ℕ, ◌+◌, ◌*◌, ◌/◌, ◌%◌, ◌≤◌, ◌<◌}
use mathlib.Core.Path.{◌≡◌, refl, ap, ◌∙◌}
use native.Mathlib.Nat.{add-mul, one-mul, mul-le-mul_right, mod-lt, zero-mod, zero-div, div-add-mod'}
use native.Mathlib.Omega.{arith}
use lib.Arith.{digits_lt, digits_div, digits_mod}
use Rattle.row_black.specs.declared.Pattern.{Pattern}
use Rattle.row_black.specs.declared.Spot.{Spot}
use Rattle.row_black.specs.Rows.{spot_at, Placed}

-- ---- counted remainders

-- below the last of a turn, both go on
pub stays : (n m : ℕ) → n % m + 1 < m → ((n + 1) % m ≡ n % m + 1) × ((n + 1) / m ≡ n / m)
stays n m h =
    let e : n + 1 ≡ n / m * m + (n % m + 1) = omega (arith, div-add-mod' n m) in
    (ap (λ (k : ℕ). k % m) e ∙ digits_mod (n / m) h, ap (λ (k : ℕ). k / m) e ∙ digits_div (n / m) h)

-- at the last of a turn, a new turn
pub turns : (n m : ℕ) → 1 ≤ m → m ≤ n % m + 1 → ((n + 1) % m ≡ 0) × ((n + 1) / m ≡ n / m + 1)
turns n m some h =
    let e : n + 1 ≡ (n / m + 1) * m + 0 = omega (arith, div-add-mod' n m, mod-lt n some, add-mul (n / m) 1 m, one-mul m) in
    (ap (λ (k : ℕ). k % m) e ∙ digits_mod (n / m + 1) {r = 0} some, ap (λ (k : ℕ). k / m) e ∙ digits_div (n / m + 1) {r = 0} some)

pub first-spot : (planes width x0 first : ℕ) → first ≡ x0 % width → record { plane = 0; column = x0; entry = first } ≡ spot_at planes width x0 0
first-spot planes width x0 first here =
    let e : x0 + 0 / planes ≡ x0 = omega (arith, zero-div planes) in rw (here, zero-mod planes, e) refl

module _ (planes width x0 i : ℕ) (s : Spot) (here : s ≡ spot_at planes width x0 i) where
  plane-is : s.plane ≡ i % planes
  plane-is = ap (λ (t : Spot). t.plane) here

  column-is : s.column ≡ x0 + i / planes
  column-is = ap (λ (t : Spot). t.column) here

  entry-is : s.entry ≡ (x0 + i / planes) % width
  entry-is = ap (λ (t : Spot). t.entry) here

  -- the next plane of the pixel
  pub same-pixel : s.plane + 1 < planes
      → record { plane = s.plane + 1; column = s.column; entry = s.entry } ≡ spot_at planes width x0 (i + 1)
  same-pixel h =
      let go = stays i planes (omega (arith, plane-is)) in
      rw (here, go.0, go.1) refl

  -- the pixel to the right, in the pattern's next column
  pub next-pixel : (e : ℕ) → s.plane < planes → planes ≤ s.plane + 1 → ((k : ℕ) → s.entry ≡ k % width → e ≡ (k + 1) % width)
      → record { plane = 0; column = s.column + 1; entry = e } ≡ spot_at planes width x0 (i + 1)
  next-pixel e some h counted =
      let go = turns i planes (omega arith) (omega (arith, plane-is)) in
      let shift : x0 + (i / planes + 1) ≡ x0 + i / planes + 1 = omega arith in
      rw (counted (x0 + i / planes) entry-is, column-is, go.0, go.1, shift) refl

-- ---- a place in a table

module _ {p : Pattern} {planes x y l c b s : ℕ} (t : Placed p planes x y l c b s) {k e : ℕ} (plane : k < planes) (column : e < p.width) where
  in-line : k * p.height + l < planes * p.height
  in-line = digits_lt plane (omega (arith, t.line, mod-lt y t.tall))

  pub in_table : (k * p.height + l) * p.width + e < planes * p.height * p.width
  in_table = digits_lt in-line column

  -- the products on the way to it are no larger
  pub line-below : k * p.height + l < planes * p.height * p.width
  line-below = omega (arith, in_table, mul-le-mul_right {m = 1} {n = p.width} (k * p.height + l) t.wide, one-mul (k * p.height + l))

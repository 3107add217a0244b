-- Which sample belongs to which position, and the samples of a mark's pixel. Assumes nothing.
use Prim.Native.Nat.{ℕ, ◌+◌, ◌-◌, ◌*◌, ◌/◌, ◌%◌, ◌≤◌, ◌<◌}
use mathlib.Core.Path.{◌≡◌, refl, sym, ap, ap₂, ◌∙◌}
use mathlib.Core.Bool.{true, ◌&&◌}
use native.Mathlib.Nat.{mod-lt, div-add-mod'}
use native.Mathlib.Omega.{arith}
use borrow.Author.Tests.{leb-true, ltb-true, le-leb, lt-ltb}
use lib.Arith.{digits_div, digits_mod}
use lib.Dec.{leb, ltb}
use Rattle.dng.specs.declared.Window.{Window}
use Rattle.dng.specs.Select.{active, in_window, row_of, column_of, plane_of}
use Rattle.dng.specs.Repair.{complete, positions}
use Rattle.fix_scratch.specs.Marks.{Fits}
use Rattle.fix_constant.proofs.Places.{and_first, and_second, position_in, place_in, position-is}
use Rattle.fix_near.specs.Looks.{first_of}
use Rattle.fix_fills.specs.InPlace.{position_of}
use Rattle.fix_fills.specs.Fills.{pixel_of}
use Rattle.fix_fills.proofs.Lying.{column-in, row_in}

-- ---- a sample

pub active-fits : (w : Window) → Fits w → active w ≡ true
unfolding active
active-fits w f = rw (le-leb 1 w.width f.wide, le-leb w.width w.stride f.strided) refl

-- plane k of column x and row y
module _ (w : Window) (e : active w ≡ true) (x y k : ℕ) (hx : x < w.width) (hy : y < w.height) (hk : k < w.planes) where
  strided : w.width ≤ w.stride
  unfolding active
  strided = leb-true w.width w.stride (and_second (leb 1 w.width) (leb w.width w.stride) e)

  in-pixel : (first_of w x y + k) / w.planes ≡ y * w.stride + x
  in-pixel = digits_div (y * w.stride + x) hk

  pub plane-at : plane_of w (first_of w x y + k) ≡ k
  plane-at = digits_mod (y * w.stride + x) hk

  pub column-at : column_of w (first_of w x y + k) ≡ x
  column-at = ap (λ (n : ℕ). n % w.stride) in-pixel ∙ digits_mod y (omega (arith, strided))

  pub row_at : row_of w (first_of w x y + k) ≡ y
  row_at = ap (λ (n : ℕ). n / w.stride) in-pixel ∙ digits_div y (omega (arith, strided))

  pub position_at : position_of w (first_of w x y + k) ≡ y * w.width + x
  position_at = ap₂ (λ (r c : ℕ). r * w.width + c) row_at column-at

  pub window-at : in_window w (first_of w x y + k) ≡ true
  unfolding in_window
  window-at = rw (e, row_at, column-at, lt-ltb y w.height hy, lt-ltb x w.width hx) refl

-- a sample of the window
module _ (w : Window) (j : ℕ) (e : in_window w j ≡ true) where
  pub active-of : active w ≡ true
  unfolding in_window
  active-of = and_first (active w) _ e

  inside_of : (ltb (row_of w j) w.height && ltb (column_of w j) w.width) ≡ true
  unfolding in_window
  inside_of = and_second (active w) _ e

  pub row-of : row_of w j < w.height
  row-of = ltb-true (row_of w j) w.height (and_first (ltb (row_of w j) w.height) _ inside_of)

  pub column-of : column_of w j < w.width
  column-of = ltb-true (column_of w j) w.width (and_second (ltb (row_of w j) w.height) _ inside_of)

  pub position-of : position_of w j < positions w
  position-of = position_in w (column_of w j) (row_of w j) column-of row-of

  -- at the place that its row, column and plane say
  place_of : first_of w (column_of w j) (row_of w j) + plane_of w j ≡ j
  place_of = ap (λ (n : ℕ). n * w.planes + plane_of w j) (div-add-mod' (j / w.planes) w.stride) ∙ div-add-mod' j w.planes

  -- a sample of position q is one of its pixel
  pub pixel-of : (q : ℕ) → 1 ≤ w.planes → position_of w j ≡ q → (pixel_of w q ≤ j) × (j < pixel_of w q + w.planes)
  pixel-of q p d =
      let row : q / w.width ≡ row_of w j = ap (λ (n : ℕ). n / w.width) (sym d) ∙ digits_div (row_of w j) column-of in
      let column : q % w.width ≡ column_of w j = ap (λ (n : ℕ). n % w.width) (sym d) ∙ digits_mod (row_of w j) column-of in
      let s : pixel_of w q + plane_of w j ≡ j = ap₂ (λ (y x : ℕ). first_of w x y + plane_of w j) row column ∙ place_of in
      let k : plane_of w j < w.planes = mod-lt j p in
      omega arith

-- ---- a mark

module _ (w : Window) (f : Fits w) (q : ℕ) (h : q < positions w) where
  -- its samples are there
  pub pixel-in : (n : ℕ) → complete w n ≡ true → pixel_of w q + w.planes ≤ n
  pixel-in n e =
      omega (arith, f.some, place_in w (q % w.width) (q / w.width) (column-in w f q h) (row_in w f q h) n (w.planes - 1) (omega (arith, f.some)) e)

  -- and are those of its position
  pub pixel-is : (k : ℕ) → k < w.planes → position_of w (pixel_of w q + k) ≡ q
  pixel-is k l =
      position_at w (active-fits w f) (q % w.width) (q / w.width) k (column-in w f q h) (row_in w f q h) l ∙ position-is w q

-- Listed positions: points and rectangles of the image in a window. Document 01, 'Repair': listed points and
-- rectangles, bottom and right excluded.
use Rattle.std.specs.Prelude.{ℕ, ◌+◌, ◌-◌, ◌*◌, ◌/◌, ◌%◌, ◌^◌, ◌≤◌, ◌<◌, min, Bool, ◌&&◌, cond, List, ◌≡◌}
use Rattle.dng.specs.declared.Window.{Window}
use Rattle.dng.specs.Repair.{point_at, rect_at, listed}
use Rattle.fix_scratch.specs.Scratch.{span}

-- position q of the window is listed
abbrev pub listed_at : Window → List ℕ → (np nr q : ℕ) → Bool
listed_at w b np nr q = listed b np nr (w.y0 + q / w.width) (w.x0 + q % w.width)

-- ---- as the code has them

-- columns c0 up to c1 of rows r0 up to r1, in a window `width` wide
unfoldable pub block : (width r0 c0 r1 c1 q : ℕ) → Bool
block width r0 c0 r1 c1 q = span r0 r1 (q / width) && span c0 c1 (q % width)

-- such columns and rows lie in a window whose positions are below top
pub record Inside (width c0 r1 c1 top : ℕ) : Type 0 where
  pub wide : 1 ≤ width
  pub order : c0 ≤ c1
  pub columns : c1 ≤ width
  pub rows : r1 * width ≤ top
  pub small : top ≤ 2 ^ 32

-- rows y0 up to y1 and columns x0 up to x1 of the window are what it has of rows r0 up to r1, columns c0 up to c1 of the
-- image
pub record Cutting (w : Window) (r0 c0 r1 c1 y0 x0 y1 x1 : ℕ) : Type 0 where
  pub top : y0 ≡ r0 - w.y0
  pub left : x0 ≡ c0 - w.x0
  pub bottom : y1 ≡ min (r1 - w.y0) w.height
  pub right : x1 ≡ min (c1 - w.x0) w.width

-- the image position lies in the window
pub record Within (w : Window) (row column : ℕ) : Type 0 where
  pub top : w.y0 ≤ row
  pub left : w.x0 ≤ column
  pub bottom : row < w.y0 + w.height
  pub right : column < w.x0 + w.width

-- The row and the column of position q, where positions are counted by rows, or `across`: by columns.
abbrev pub row_at : Bool → Window → ℕ → ℕ
row_at across w q = cond across (q % w.height) (q / w.width)

abbrev pub column_at : Bool → Window → ℕ → ℕ
column_at across w q = cond across (q / w.height) (q % w.width)

-- such columns and rows of the image
unfoldable pub in_image : Bool → Window → (r0 c0 r1 c1 q : ℕ) → Bool
in_image across w r0 c0 r1 c1 q = span r0 r1 (w.y0 + row_at across w q) && span c0 c1 (w.x0 + column_at across w q)

-- position q of the window is point i, lies in rectangle i, is listed
abbrev pub at_point : Bool → Window → List ℕ → (i q : ℕ) → Bool
at_point across w b i q = point_at b i (w.y0 + row_at across w q) (w.x0 + column_at across w q)

abbrev pub in_rect : Bool → Window → List ℕ → (np i q : ℕ) → Bool
in_rect across w b np i q = rect_at b np i (w.y0 + row_at across w q) (w.x0 + column_at across w q)

abbrev pub listed_in : Bool → Window → List ℕ → (np nr q : ℕ) → Bool
listed_in across w b np nr q = listed b np nr (w.y0 + row_at across w q) (w.x0 + column_at across w q)

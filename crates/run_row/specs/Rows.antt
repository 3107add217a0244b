-- What a row call promises, and where its row lies in the image. Document 01, 'What comes back'.
use Rattle.std.specs.Prelude.{ℕ, ◌-◌, ◌*◌, ◌≤◌, ◌<◌, max, List, ◌≡◌, Float}
use Rattle.dng.specs.declared.RowWindow.{RowWindow}
use Rattle.dng.specs.declared.Window.{Window}
use Rattle.dng.specs.declared.Region.{Region}
use Rattle.dng.specs.declared.RowAnswer.{RowAnswer}
use Rattle.dng.specs.Value.{Frame}
use Rattle.dng.specs.Answer.{RowOut}
use Rattle.row_opcode.specs.declared.Place.{Place}

-- the answer and the row are those of o
pub record RowRan (o : RowOut) (r : RowAnswer) (row : List Float) : Type 0 where
  pub answered : r ≡ o.answer
  pub left : row ≡ o.row

-- ---- inside: no caller is asked for these

-- a window's numbers, each of which fits 32 bits
pub record Narrow (w : RowWindow) (y : ℕ) : Type 0 where
  pub few : w.planes ≤ 8
  pub column : w.x0 ≤ 16777216
  pub row : y ≤ 16842751
  pub wide : w.full_width ≤ 16777216
  pub high : w.full_height ≤ 16777216

abbrev pub place_of : RowWindow → (y : ℕ) → Place
place_of w y =
    record { x0 = w.x0; planes = w.planes; y = y; full_width = w.full_width; full_height = w.full_height }

-- a row of n samples at g has no more than `width` columns, and its numbers are in a window's range
pub record Spans (g : Place) (width n : ℕ) : Type 0 where
  pub some : 1 ≤ width
  pub most : width ≤ 65536
  pub holds : n ≤ width * g.planes
  pub wide : g.full_width ≤ 16777216
  pub high : g.full_height ≤ 16777216

-- the window that has the row at g, and no other
abbrev pub window_of : Place → (width : ℕ) → Window
window_of g width =
    record {
      width = width;
      height = 1;
      planes = g.planes;
      stride = width;
      x0 = g.x0;
      y0 = g.y;
      full_width = g.full_width;
      full_height = g.full_height;
    }

-- a row of n samples, p to a pixel, begins c columns; an empty one counts as one column
pub record Begun (n p c : ℕ) : Type 0 where
  pub some : 1 ≤ c
  pub holds : n ≤ c * p
  pub last : (c - 1) * p < max n 1

-- the region with all rows from its top to its bottom
abbrev pub every_row : Region → Region
every_row r =
    record {
      top = r.top;
      left = r.left;
      bottom = r.bottom;
      right = r.right;
      plane = r.plane;
      planes = r.planes;
      row_pitch = 1;
      col_pitch = r.col_pitch;
    }

abbrev pub frame_of : Place → Float → Frame
frame_of g scale = record { scale = scale; full_width = g.full_width; full_height = g.full_height }

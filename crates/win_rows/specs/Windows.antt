-- What a run has checked of a window before it starts, and where the window's rows lie in the image. Document 01,
-- 'Taken and left' and 'Which samples an opcode touches'.
use Rattle.std.specs.Prelude.{ℕ, ◌+◌, ◌≤◌}
use Rattle.dng.specs.declared.Window.{Window}
use Rattle.row_opcode.specs.declared.Place.{Place}

-- the numbers of a window in range, and those of its rows
pub record WindowFits (w : Window) : Type 0 where
  pub widest : w.width ≤ 65536
  pub highest : w.height ≤ 65536
  pub farthest : w.stride ≤ 65536
  pub some : 1 ≤ w.planes
  pub most : w.planes ≤ 8
  pub left : w.x0 ≤ 16777216
  pub lowest : w.y0 + w.height ≤ 16842752
  pub full_wide : w.full_width ≤ 16777216
  pub full_high : w.full_height ≤ 16777216

-- a window that has columns, and whose rows do not overlap
pub record Ordered (w : Window) : Type 0 where
  pub wide : 1 ≤ w.width
  pub strided : w.width ≤ w.stride

-- row y of the window is row y0 + y of the image
abbrev pub place_of : Window → ℕ → Place
place_of w y =
    record {
      x0 = w.x0;
      planes = w.planes;
      y = w.y0 + y;
      full_width = w.full_width;
      full_height = w.full_height;
    }

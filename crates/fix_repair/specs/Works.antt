-- What the stages of a repair ask and promise. Document 01, 'What each does to a value', Repair.
use Rattle.std.specs.Prelude.{ℕ, ◌-◌, ◌≤◌, List, length}
use Rattle.dng.specs.declared.Window.{Window}
use Rattle.fix_fills.specs.Fills.{mended}
use Rattle.fix_repair.specs.declared.Repaired.{Repaired}

-- what a run has checked of its window
pub record Ranges (w : Window) : Type 0 where
  pub width : w.width ≤ 65536
  pub height : w.height ≤ 65536
  pub stride : w.stride ≤ 65536
  pub some : 1 ≤ w.planes
  pub planes : w.planes ≤ 8
  pub x0 : w.x0 ≤ 16777216
  pub y0 : w.y0 ≤ 16777216

-- of the marks those with a sound neighbour are repaired, the others left
abbrev pub settled : List ℕ → Window → (step : ℕ) → Repaired
settled marks w step =
    record { repaired = mended marks w step; left = length marks - mended marks w step }

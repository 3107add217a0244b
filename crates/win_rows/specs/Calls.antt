-- What is asked and known of a call that is lent a row of a window with the row's place in the image.
use Rattle.std.specs.Prelude.{ℕ, ◌+◌, ◌<◌, List, length, ◌≡◌}
use Rattle.std.specs.Borrow.{MutBor}
use Rattle.pointwise.specs.Points.{each}
use Rattle.dng.specs.declared.Window.{Window}
use Rattle.dng.specs.Select.{Rule, on_row}
use Rattle.dng.specs.Bounds.{RowFits}
use Rattle.row_opcode.specs.declared.Place.{Place}
use Rattle.win_rows.specs.Windows.{place_of}

-- it may be made at each row of the window
abbrev pub Takes : {A : Type 0} → Window → (pre : MutBor (List A) → Place → Type 0) → Type 0
Takes {A} w pre = (s : MutBor (List A)) (y : ℕ) → y < w.height → RowFits w.x0 w.planes (w.y0 + y) (length s.now)
    → pre s (place_of w y)

-- and runs the rule f over the row
abbrev pub Runs : {A : Type 0} → Window → (post : MutBor (List A) → Place → Unit {0} → MutBor (List A) → Type 0)
    → Rule A → Type 0
Runs {A} w post f = (s t : MutBor (List A)) (y : ℕ) → y < w.height
    → RowFits w.x0 w.planes (w.y0 + y) (length s.now)
    → post s (place_of w y) tt t
    → t.now ≡ each (on_row w.x0 w.planes (w.y0 + y) (length s.now) f) s.now

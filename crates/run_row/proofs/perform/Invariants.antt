-- `run_row::perform` meets its contract. The loop's invariant: the row with the opcodes that are left from the cursor on is the row with all of
-- them. Assumes nothing.
use Prim.Native.Nat.{◌-◌}
use mathlib.Core.Path.{◌≡◌}
use Rattle.dng.specs.List.{read_from}
use Rattle.dng.specs.Run.{kept_of, kept_in, row_on}
use Rattle.run_row.specs.Rows.{frame_of}
use Rattle.run_row.proofs.perform.Given as goal

abbrev pub invariant-loop-k : goal.invariant-loop-k
invariant-loop-k l =
    row_on (frame_of l.g l.scale) l.g.x0 l.g.planes l.g.y l.list (kept_of l.preview (read_from l.list (l.n - l.k) l.c)) l.row
    ≡ row_on (frame_of l.g l.scale) l.g.x0 l.g.planes l.g.y l.list (kept_in l.preview l.list) l.initial.row

-- `each_row` meets its contract: the rows before y are done. Assumes nothing.
use mathlib.Core.Path.{◌≡◌}
use Rattle.dng.specs.Select.{Rule}
use Rattle.law_rows.specs.RowForm.{row_start}
use Rattle.win_rows.specs.Calls.{Runs}
use Rattle.win_rows.proofs.Turns.{Rows}
use Rattle.win_rows.proofs.each_row.Given as goal

abbrev pub invariant-loop-y : goal.invariant-loop-y
invariant-loop-y g l =
    (l.at ≡ row_start l.w l.y)
    × ((f : Rule g.row.T.Denot) → Runs l.w (goal.F-post g l.one) f → Rows l.w f l.initial.samples l.samples l.y l.at)

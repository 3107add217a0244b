-- `all_strides` meets its contract: each turn is the walk from one place of a period. Assumes nothing.
use mathlib.Core.Path.{◌≡◌}
use Rattle.row_black.specs.Black.{levels_in}
use Rattle.row_black.specs.Rows.{spot_at, row_rule}
use Rattle.row_black.proofs.Filling.{Spread}
use Rattle.row_black.proofs.all_strides.Given as goal

abbrev pub invariant-loop-i : goal.invariant-loop-i
invariant-loop-i g l =
    Spread l.step (row_rule g.S.Sample.none g.S.Sample.to_float l.input (levels_in l.row.lent) l.row.planes l.row.x l.row.y)
    l.initial.out l.out l.i
    × (l.s ≡ spot_at l.row.planes l.width l.row.x l.i)

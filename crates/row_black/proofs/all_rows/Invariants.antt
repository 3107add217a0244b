-- `all_rows` meets its contract: the rows before y are done. Assumes nothing.
use Prim.Native.Nat.{◌+◌, ◌*◌, ◌%◌}
use mathlib.Core.Path.{◌≡◌}
use Rattle.row_black.specs.Black.{levels_in}
use Rattle.row_black.proofs.Frames.{wide, Rows}
use Rattle.row_black.proofs.all_rows.Given as goal

abbrev pub invariant-loop-y : goal.invariant-loop-y
invariant-loop-y g l =
    Rows g.S.Sample.none g.S.Sample.to_float l.f (levels_in l.lent) l.input l.initial.out l.out l.y (l.y * wide l.f)
    × (l.line ≡ (l.f.y0 + l.y) % l.lent.pattern.height)

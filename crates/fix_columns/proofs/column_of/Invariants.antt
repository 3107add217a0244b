-- `fix_columns::column_of` meets its contract: the search ends at the column that the position lies in. Assumes nothing.
use Prim.Native.Nat.{◌-◌, ◌*◌, ◌≤◌, ◌<◌, ◌^◌}
use Rattle.fix_columns.proofs.column_of.Given as goal

abbrev pub invariant-loop-x : goal.invariant-loop-x
invariant-loop-x l = (l.x * l.height ≤ l.q) × (l.x < 2 ^ 32)

abbrev pub decreases-loop-x : goal.decreases-loop-x
decreases-loop-x l = l.q - l.x * l.height

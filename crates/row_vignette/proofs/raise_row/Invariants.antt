-- `raise_row` meets its contract: the pixels before `done` are raised. Assumes nothing.
use Prim.Native.Nat.{min}
use Rattle.row_vignette.proofs.Pixels.{Done}
use Rattle.row_vignette.proofs.raise_row.Given as goal

abbrev pub invariant-loop-done : goal.invariant-loop-done
invariant-loop-done l = Done l.line l.x0 l.p l.initial.row l.row (min l.done l.pixels)

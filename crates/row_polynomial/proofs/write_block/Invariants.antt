-- `write_block` meets its contract: the first j are written. Assumes nothing.
use mathlib.Core.Path.{◌≡◌}
use Rattle.row_polynomial.specs.Blocks.{written}
use Rattle.row_polynomial.proofs.write_block.Given as goal

abbrev pub invariant-loop-j : goal.invariant-loop-j
invariant-loop-j l = l.row ≡ written l.i l.step l.xs l.j l.initial.row

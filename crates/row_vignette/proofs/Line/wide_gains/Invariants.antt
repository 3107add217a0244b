-- `Line::wide_gains` meets its contract: the gains before j are those of their columns. Assumes nothing.
use mathlib.Core.Path.{◌≡◌}
use Rattle.pointwise.specs.Points.{each, between}
use Rattle.row_vignette.specs.Rows.{wide_at}
use Rattle.row_vignette.proofs.Line.wide_gains.Given as goal

abbrev pub invariant-loop-j : goal.invariant-loop-j
invariant-loop-j l = l.gains ≡ each (between 0 l.j (wide_at l.self l.x0)) l.initial.gains

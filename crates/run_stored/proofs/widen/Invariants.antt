-- `run_stored::widen` meets its contract. Assumes nothing.
use mathlib.Core.Path.{◌≡◌}
use lib.Ieee.{binary32}
use Rattle.pointwise.specs.Points.{each, between}
use Rattle.num_convert.specs.Convert.{whole_in}
use Rattle.run_stored.proofs.Laws.{turned}
use Rattle.run_stored.proofs.widen.Given as goal

abbrev pub invariant-loop-i : goal.invariant-loop-i
invariant-loop-i l = l.wide ≡ each (between 0 l.i (turned (whole_in binary32) 0 l.samples)) l.initial.wide

-- `run_stored::narrow` meets its contract. Assumes nothing.
use mathlib.Core.Path.{◌≡◌}
use lib.Ieee.{nan}
use Rattle.pointwise.specs.Points.{each, between}
use Rattle.num_round.specs.Whole.{round_held}
use Rattle.run_stored.proofs.Laws.{turned}
use Rattle.run_stored.proofs.narrow.Given as goal

abbrev pub invariant-loop-i : goal.invariant-loop-i
invariant-loop-i l = l.samples ≡ each (between 0 l.i (turned (round_held 65535) nan l.wide)) l.initial.samples

-- `say_pgm::fill` meets its contract: the places below j are done. Assumes nothing.
use mathlib.Core.Path.{◌≡◌}
use Rattle.pointwise.specs.Points.{each, between}
use Rattle.say_pgm.specs.Pgm.{byte_at}
use Rattle.say_pgm.proofs.fill.Given as goal

abbrev pub invariant-loop-j : goal.invariant-loop-j
invariant-loop-j l = l.out ≡ each (between 0 l.j (byte_at l.samples l.maxval)) l.initial.out

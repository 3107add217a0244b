-- `say_pgm::decode` meets its contract: the places below i are done. Assumes nothing.
use mathlib.Core.Path.{◌≡◌}
use Rattle.pointwise.specs.Points.{each, between}
use Rattle.say_pgm.specs.Pgm.{sample_at}
use Rattle.say_pgm.proofs.decode.Given as goal

abbrev pub invariant-loop-i : goal.invariant-loop-i
invariant-loop-i l = l.samples ≡ each (between 0 l.i (λ k v. sample_at l.raster l.maxval k)) l.initial.samples

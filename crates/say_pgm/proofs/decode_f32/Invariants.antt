-- `say_pgm::decode_f32` meets its contract: the places below i are done. Assumes nothing.
use mathlib.Core.Path.{◌≡◌}
use Rattle.pointwise.specs.Points.{each, between}
use Rattle.say_pgm.specs.Pgm.{float_at}
use Rattle.say_pgm.proofs.decode_f32.Given as goal

abbrev pub invariant-loop-i : goal.invariant-loop-i
invariant-loop-i l = l.samples ≡ each (between 0 l.i (λ k v. float_at l.raster k)) l.initial.samples

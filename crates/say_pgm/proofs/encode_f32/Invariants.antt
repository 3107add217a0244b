-- `say_pgm::encode_f32` meets its contract: the places below j are done. Assumes nothing.
use mathlib.Core.Path.{◌≡◌}
use Rattle.pointwise.specs.Points.{each, between}
use Rattle.say_pgm.specs.Pgm.{float_byte_at}
use Rattle.say_pgm.proofs.encode_f32.Given as goal

abbrev pub invariant-loop-j : goal.invariant-loop-j
invariant-loop-j l = l.out ≡ each (between 0 l.j (float_byte_at l.samples)) l.initial.out

-- `say_pgm::float_of` meets its contract. Assumes nothing.
use Prim.Native.Nat.{◌*◌}
use mathlib.Core.Path.{sym, ap}
use native.Mathlib.Omega.{arith}
use lib.Ieee.{binary32, of_bits}
use Rattle.num_words.proofs.Laws.{little-past}
use Rattle.say_pgm.specs.Pgm.{float_at}
use Rattle.say_pgm.proofs.float_of.Goals as goal

pub returns-then-i-raster : goal.returns-then-i-raster
unfolding float_at
returns-then-i-raster c = c.f32_from.ensures

pub returns-else-i-raster : goal.returns-else-i-raster
unfolding float_at of_bits
returns-else-i-raster c = sym (ap (of_bits binary32) (little-past 4 c.args.raster.now (4 * c.args.i) (omega arith)))

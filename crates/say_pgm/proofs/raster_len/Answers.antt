-- `say_pgm::raster_len` meets its contract. Assumes nothing.
use borrow.Author.Tests.{lt-ltb, le-ltb}
use Rattle.say_pgm.specs.Pgm.{raster_len}
use Rattle.say_pgm.proofs.raster_len.Goals as goal

pub returns-then-maxval-lt256 : goal.returns-then-maxval-lt256
unfolding raster_len
returns-then-maxval-lt256 c = simp (lt-ltb _ _ c.if-maxval-lt256.true)

pub returns-else-maxval-lt256 : goal.returns-else-maxval-lt256
unfolding raster_len
returns-else-maxval-lt256 c = simp (le-ltb _ _ c.if-maxval-lt256.false)

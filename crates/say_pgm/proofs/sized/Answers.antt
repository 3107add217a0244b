-- `say_pgm::sized` meets its contract. Assumes nothing.
use native.Mathlib.Nat.{lt_of_le_of_lt}
use borrow.Author.Tests.{lt-leb}
use lib.Dec.{lit<}
use Rattle.say_pgm.specs.Pgm.{sized_on}
use Rattle.say_pgm.proofs.Laws.{area, too_short, all_there}
use Rattle.say_pgm.proofs.sized.Goals as goal

pub overflow_mul-samples : goal.overflow_mul-samples
overflow_mul-samples c = record { fits = lt_of_le_of_lt (area _ _ c.requires.narrow c.requires.low) (lit< tt) }

pub returns-then-most-samples : goal.returns-then-most-samples
unfolding sized_on
returns-then-most-samples c = simp (lt-leb _ _ c.if-most-samples.true)

pub raster_len-bytes-requires : goal.raster_len-bytes-requires
raster_len-bytes-requires c = area _ _ c.requires.narrow c.requires.low

pub returns-then-len-at : goal.returns-then-len-at
returns-then-len-at c = too_short _ _ _ _ _ _ _ c.if-most-samples.false c.raster_len-bytes.ensures c.if-len-at.true

pub returns : goal.returns
returns c = all_there _ _ _ _ _ _ _ c.if-most-samples.false c.raster_len-bytes.ensures c.if-len-at.false

-- `say_pgm::sample_of` meets its contract. Assumes nothing.
use mathlib.Core.Path.{sym}
use borrow.Author.Tests.{lt-ltb, le-ltb}
use Rattle.num_words.proofs.Laws.{past}
use Rattle.say_pgm.specs.Pgm.{sample_at}
use native.Mathlib.Omega.{arith}
use Rattle.say_pgm.proofs.sample_of.Goals as goal

pub returns-then-maxval-lt256 : goal.returns-then-maxval-lt256
unfolding sample_at
returns-then-maxval-lt256 c = simp (lt-ltb _ _ c.if-maxval-lt256.true) c.byte.ensures

pub returns-then-i-raster : goal.returns-then-i-raster
unfolding sample_at
returns-then-i-raster c = simp (le-ltb _ _ c.if-maxval-lt256.false) c.u16_at.ensures

pub returns-else-i-raster : goal.returns-else-i-raster
unfolding sample_at
returns-else-i-raster c = simp (le-ltb _ _ c.if-maxval-lt256.false) (sym (past 2 _ _ (omega arith)))

-- `say_pgm::area` meets its contract. Assumes nothing.
use native.Mathlib.Nat.{lt_of_le_of_lt}
use borrow.Author.Tests.{le-leb, lt-leb}
use lib.Dec.{lit<}
use Rattle.say_pgm.specs.Pgm.{area_of}
use Rattle.say_pgm.proofs.Laws.{area}
use Rattle.say_pgm.proofs.area.Goals as goal

pub returns-then-width-gt65536 : goal.returns-then-width-gt65536
unfolding area_of
returns-then-width-gt65536 c = simp (lt-leb _ _ c.if-width-gt65536.true)

pub returns-then-height-gt65536 : goal.returns-then-height-gt65536
unfolding area_of
returns-then-height-gt65536 c = simp (le-leb _ _ c.if-width-gt65536.false, lt-leb _ _ c.if-height-gt65536.true)

pub overflow_mul-result : goal.overflow_mul-result
overflow_mul-result c = record { fits = lt_of_le_of_lt (area _ _ c.if-width-gt65536.false c.if-height-gt65536.false) (lit< tt) }

pub returns : goal.returns
unfolding area_of
returns c = simp (le-leb _ _ c.if-width-gt65536.false, le-leb _ _ c.if-height-gt65536.false)

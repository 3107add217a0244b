-- `value_at` meets its contract: the i-th of n values, or the missing one. Assumes nothing.
use borrow.Author.Tests.{lt-ltb, le-ltb}
use Rattle.dng.specs.Value.{nth}
use Rattle.row_deltas.proofs.value_at.Goals as goal

pub returns-then-i-n : goal.returns-then-i-n
unfolding nth
returns-then-i-n c = rw (lt-ltb _ _ c.if-i-n.true) c.f32_at.ensures

pub returns-else-i-n : goal.returns-else-i-n
unfolding nth
returns-else-i-n c = rw (le-ltb _ _ c.if-i-n.false)

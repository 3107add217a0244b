-- `is_active` meets its contract, by the definition. Assumes nothing.
use borrow.Author.Tests.{le-leb, lt-leb}
use Rattle.dng.specs.Select.{active}
use Rattle.win_rows.proofs.is_active.Goals as goal

pub returns-then-w-ge1 : goal.returns-then-w-ge1
unfolding active
returns-then-w-ge1 c = rw (le-leb _ _ c.if-w-ge1.true)

pub returns-else-w-ge1 : goal.returns-else-w-ge1
unfolding active
returns-else-w-ge1 c = rw (lt-leb _ _ c.if-w-ge1.false)

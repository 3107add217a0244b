-- `value_rare` meets its contract: the value there, or the missing one. Assumes nothing.
use borrow.Author.Tests.{lt-ltb, le-ltb}
use Rattle.row_deltas.specs.Bytes.{value_from}
use Rattle.row_deltas.proofs.value_rare.Goals as goal

pub returns-then-at-past : goal.returns-then-at-past
unfolding value_from
returns-then-at-past c = rw (lt-ltb _ _ c.if-at-past.true) c.f32_at.ensures

pub returns-else-at-past : goal.returns-else-at-past
unfolding value_from
returns-else-at-past c = rw (le-ltb _ _ c.if-at-past.false)

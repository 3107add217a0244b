-- `value_from` meets its contract: what is sure is before the end of the values. Assumes nothing.
use native.Mathlib.Omega.{arith}
use borrow.Author.Tests.{lt-ltb}
use Rattle.row_deltas.specs.Bytes.{value_from}
use Rattle.row_deltas.proofs.value_from.Goals as goal

pub returns-then-at-sure : goal.returns-then-at-sure
unfolding value_from
returns-then-at-sure c =
    rw (lt-ltb c.args.at c.args.past (omega arith)) c.f32_at.ensures

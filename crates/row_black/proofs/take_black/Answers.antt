-- `take_black` meets its contract: above 0 or not. Assumes nothing.
use mathlib.Core.Path.{◌∙◌}
use Rattle.row_black.proofs.Values.{zero_is, above, not-above}
use Rattle.row_black.proofs.take_black.Goals as goal

pub returns-then-r : goal.returns-then-r
returns-then-r c = above _ _ _ (rw zero_is at c.if-r.true)

pub returns-else-r : goal.returns-else-r
returns-else-r c = zero_is ∙ not-above _ _ _ (rw zero_is at c.if-r.false)

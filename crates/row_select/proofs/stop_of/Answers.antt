-- `stop_of` meets its contract: the product fits, since a right end is below 2^32. Assumes nothing.
use native.Mathlib.Omega.{arith}
use Rattle.row_select.proofs.Sizes.{by-planes}
use Rattle.row_select.proofs.stop_of.Goals as goal

pub overflow_mul-saturating_sub : goal.overflow_mul-saturating_sub
overflow_mul-saturating_sub c = omega (arith, by-planes c.requires c.saturating_sub.result, c.requires.right32, c.saturating_sub.ensures)

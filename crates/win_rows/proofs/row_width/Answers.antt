-- `row_width` meets its contract: the product does not wrap. Assumes nothing.
use native.Mathlib.Omega.{arith}
use Rattle.win_rows.proofs.Turns.{wide_fits}
use Rattle.win_rows.proofs.row_width.Goals as goal

pub overflow_mul-result : goal.overflow_mul-result
overflow_mul-result c = omega (arith, wide_fits c.args.w c.requires)

-- `row_stride` meets its contract: the product does not wrap, and nor would a width's. Assumes nothing.
use native.Mathlib.Omega.{arith}
use Rattle.win_rows.proofs.Turns.{wide_fits, step_fits}
use Rattle.win_rows.proofs.row_stride.Goals as goal

pub overflow_mul-result : goal.overflow_mul-result
overflow_mul-result c = omega (arith, step_fits c.args.w c.requires, wide_fits c.args.w c.requires)

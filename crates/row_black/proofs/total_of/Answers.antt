-- `total_of` meets its contract: in range no product wraps. Assumes nothing.
use native.Mathlib.Omega.{arith}
use Rattle.row_black.proofs.Refusals.{ranged, pixels-fit, total-fits}
use Rattle.row_black.proofs.total_of.Goals as goal

pub overflow_mul-result : goal.overflow_mul-result
overflow_mul-result c = omega (arith, pixels-fit (ranged c.args.f c.requires))

pub overflow_mul-result-2 : goal.overflow_mul-result-2
overflow_mul-result-2 c = omega (arith, total-fits (ranged c.args.f c.requires))

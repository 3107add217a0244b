-- `level_at` meets its contract: the place lies in both tables. Assumes nothing.
use native.Mathlib.Omega.{arith}
use Rattle.row_black.proofs.Spots.{line-below}
use Rattle.row_black.proofs.Row.level_at.Goals as goal

pub overflow_mul-at : goal.overflow_mul-at
overflow_mul-at c = let t = c.args.self.now.placed in omega (arith, line-below t c.requires.0 c.requires.1, t.black)

-- `fits` meets its contract: products by quotients. Assumes nothing.
use native.Mathlib.Omega.{arith}
use Rattle.row_black.proofs.Refusals.{sizes, held, not-held}
use Rattle.row_black.proofs.fits.Goals as goal

pub overflow_mul-result : goal.overflow_mul-result
overflow_mul-result c =
    omega (arith, sizes c.args.p c.args.planes c.args.n c.requires.0 c.requires.1 c.if-p-n.true)

pub returns-then-p-n : goal.returns-then-p-n
returns-then-p-n c = held c.args.p c.args.planes c.args.n c.requires.0 c.requires.1

pub returns-else-p-n : goal.returns-else-p-n
returns-else-p-n c =
    not-held c.args.p c.args.planes c.args.n c.requires.0 c.requires.1 c.if-p-n.false

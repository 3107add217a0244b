-- `blocks` meets its contract: the first selected column is not far. Assumes nothing.
use native.Mathlib.Omega.{arith}
use Rattle.win_gain.specs.Columns.{Lies}
use Rattle.win_gain.proofs.Columns.{lies-first}
use Rattle.win_gain.proofs.blocks.Goals as goal

pub overflow_add-w : goal.overflow_add-w
overflow_add-w c =
    let first : Lies c.args.w.x0 c.args.gain.region c.args.start.col = lies-first c.requires.2 (omega arith) (omega arith) in
    omega (arith, first.near, c.requires.0.left)

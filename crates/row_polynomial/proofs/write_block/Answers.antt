-- `write_block` meets its contract: each turn writes one sample. Assumes nothing.
use mathlib.Core.Path.{refl}
use Rattle.row_polynomial.proofs.Passes.{written_none, written_next}
use Rattle.row_polynomial.proofs.write_block.Goals as goal

pub loop-j-init : goal.loop-j-init
loop-j-init c = written_none _ _ _ _

pub loop-j-preserved : goal.loop-j-preserved
loop-j-preserved c = written_next _ _ _ _ _ _ c.loop-j.invariant refl c.to_f32.ensures

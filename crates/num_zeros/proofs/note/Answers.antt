-- `num_zeros::note` meets its contract. Assumes nothing.
use Rattle.std.proofs.Common.{arith}
use Rattle.num_zeros.proofs.Laws.{noted_in, noted-past, noted-not}
use Rattle.num_zeros.proofs.note.Goals as goal

pub returns-in_default : goal.returns-in_default
returns-in_default c = noted-not _ _ _ (omega (arith, c.in_default.ensures))

pub returns-then-j-known : goal.returns-then-j-known
returns-then-j-known c = rw c.in-Ok.ensures.1 (noted_in _ _ _ (omega (arith, c.in-Ok.ensures)))

pub returns-else-j-known : goal.returns-else-j-known
returns-else-j-known c = noted-past _ _ _ (omega (arith, c.in-Ok.ensures)) (omega arith)

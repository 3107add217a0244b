-- `num_zeros::next_blocks` meets its contract. Assumes nothing.
use native.Mathlib.Omega.{arith}
use Rattle.num_zeros.proofs.Laws.{counted-one}
use Rattle.num_zeros.proofs.next_blocks.Goals as goal

pub returns : goal.returns
returns c =
    (counted-one _ c.requires.known c.requires.size_value.0 c.stretch.ensures c.if-stretch-at.false c.note.ensures, omega arith)

-- `num_zeros::kept_blocks` meets its contract. Assumes nothing.
use Rattle.num_zeros.proofs.Laws.{counted-kept}
use Rattle.num_zeros.proofs.kept_blocks.Goals as goal

pub returns : goal.returns
returns c = counted-kept c.blocks-k.ensures c.note.ensures

-- `num_zeros::past` meets its contract: by bytes to the next block, by blocks, by bytes to the end. Assumes nothing.
use Rattle.num_zeros.proofs.Laws.{passed-all}
use Rattle.num_zeros.proofs.past.Goals as goal

pub returns-then-last-k-clause-passed : goal.returns-then-last-k-clause-passed
returns-then-last-k-clause-passed c =
    passed-all _ c.block-size.ensures c.stretch-p.ensures c.if-p-edge.false c.kept_blocks-k.ensures c.requires.at_le_end.0 c.if-last-k.true

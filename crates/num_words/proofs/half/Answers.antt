-- `half` meets its contract: the word is its halves. Assumes nothing.
use Rattle.num_words.proofs.Laws.{join}
use Rattle.num_words.proofs.half.Goals as goal

pub returns-else-at-less : goal.returns-else-at-less
returns-else-at-less c = join 2 2 _ _ c.pair.ensures c.pair-else-at-less.ensures

-- `eight` meets its contract: the word is its halves. Assumes nothing.
use Rattle.num_words.proofs.Laws.{join}
use Rattle.num_words.proofs.eight.Goals as goal

pub returns : goal.returns
returns c = join 4 4 _ _ c.four.ensures c.four-2.ensures

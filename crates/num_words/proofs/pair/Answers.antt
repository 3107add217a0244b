-- `pair` meets its contract: the word is its bytes. Assumes nothing.
use Rattle.num_words.proofs.Laws.{one, next}
use Rattle.num_words.proofs.pair.Goals as goal

pub returns-else-at-less : goal.returns-else-at-less
returns-else-at-less c = next 1 _ _ (one _ _ c.byte.ensures.0) c.byte-else-at-less.ensures.0

-- `two` meets its contract: the word is its bytes. Assumes nothing.
use Rattle.num_words.proofs.Laws.{one, next}
use Rattle.num_words.proofs.two.Goals as goal

pub returns : goal.returns
returns c = next 1 _ _ (one _ _ c.wide-a.ensures.0) c.wide-b.ensures.0

-- `two_low` meets its contract: the word is its bytes. Assumes nothing.
use Rattle.num_words.proofs.Laws.{little-one, little-next}
use Rattle.num_words.proofs.two_low.Goals as goal

pub returns : goal.returns
returns c = little-next 1 _ _ (little-one _ _ c.wide-a.ensures.0) c.wide-b.ensures.0

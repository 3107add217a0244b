-- `four_low` meets its contract: the word is its bytes. Assumes nothing.
use Rattle.num_words.proofs.Laws.{little-one, little-next}
use Rattle.num_words.proofs.four_low.Goals as goal

pub returns : goal.returns
returns c =
    let two = little-next 1 _ _ (little-one _ _ c.wide-a.ensures.0) c.wide-b.ensures.0 in
    little-next 3 _ _ (little-next 2 _ _ two c.wide-c.ensures.0) c.wide-d.ensures.0

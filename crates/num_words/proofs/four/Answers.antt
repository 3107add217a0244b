-- `four` meets its contract: the word is its bytes. Assumes nothing.
use Rattle.num_words.proofs.Laws.{one, next}
use Rattle.num_words.proofs.four.Goals as goal

pub returns : goal.returns
returns c =
    let two = next 1 _ _ (one _ _ c.wide-a.ensures.0) c.wide-b.ensures.0 in
    next 3 _ _ (next 2 _ _ two c.wide-c.ensures.0) c.wide-d.ensures.0

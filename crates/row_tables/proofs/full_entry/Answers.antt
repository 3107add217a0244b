-- `full_entry` meets its contract: two bytes joined are the word. Assumes nothing.
use Rattle.num_words.proofs.Laws.{join, one}
use Rattle.row_tables.proofs.full_entry.Goals as goal

pub returns : goal.returns
returns c = join 1 1 _ _ (one _ _ c.wide.ensures.0) (one _ _ c.wide-2.ensures.0)

-- `list_fields::word_in` meets its contract. Assumes nothing.
use Rattle.list_fields.proofs.Laws.{word-is}
use Rattle.list_fields.proofs.word_in.Goals as goal

pub returns : goal.returns
returns c = word-is _ _ _ _ c.u32_in.ensures c.place.ensures c.less.ensures

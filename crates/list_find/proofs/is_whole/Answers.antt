-- `list_find::is_whole` meets its contract. Assumes nothing.
use Rattle.list_find.proofs.Laws.{whole_is}
use Rattle.list_find.proofs.is_whole.Goals as goal

pub returns : goal.returns
returns c = whole_is _ _ c.half.ensures.0 c.is_inside.ensures

-- `list_find::is_list` meets its contract. Assumes nothing.
use Rattle.list_find.specs.Walk.{is_list}
use Rattle.list_find.proofs.is_list.Goals as goal

pub returns : goal.returns
unfolding is_list
returns c = simp (c.half.ensures.0, c.half-kind.ensures.0)

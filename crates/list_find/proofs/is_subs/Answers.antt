-- `list_find::is_subs` meets its contract. Assumes nothing.
use Rattle.list_find.specs.Walk.{is_subs}
use Rattle.list_find.proofs.is_subs.Goals as goal

pub returns : goal.returns
unfolding is_subs
returns c = simp (c.half.ensures.0, c.half-kind.ensures.0)

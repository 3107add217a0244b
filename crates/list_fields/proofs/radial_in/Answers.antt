-- `list_fields::radial_in` meets its contract. Assumes nothing.
use Rattle.list_fields.proofs.Laws.{lens-cut, lens-is}
use Rattle.list_fields.proofs.radial_in.Goals as goal

pub returns-then-len-lt56 : goal.returns-then-len-lt56
returns-then-len-lt56 c = lens-cut _ _ _ c.if-len-lt56.true c.place.ensures

pub returns-else-len-lt56 : goal.returns-else-len-lt56
returns-else-len-lt56 c = lens-is _ _ _ c.if-len-lt56.false c.radial.ensures

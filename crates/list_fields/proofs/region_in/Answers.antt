-- `list_fields::region_in` meets its contract. Assumes nothing.
use Rattle.list_fields.proofs.Laws.{area-cut, area-is}
use Rattle.list_fields.proofs.region_in.Goals as goal

pub returns-then-len-lt32 : goal.returns-then-len-lt32
returns-then-len-lt32 c = area-cut _ _ _ c.if-len-lt32.true c.place.ensures

pub returns-else-len-lt32 : goal.returns-else-len-lt32
returns-else-len-lt32 c = area-is _ _ _ c.if-len-lt32.false c.region.ensures

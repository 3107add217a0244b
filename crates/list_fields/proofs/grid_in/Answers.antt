-- `list_fields::grid_in` meets its contract. Assumes nothing.
use Rattle.list_fields.proofs.Laws.{lattice-cut, lattice-is}
use Rattle.list_fields.proofs.grid_in.Goals as goal

pub returns-then-len-lt72 : goal.returns-then-len-lt72
returns-then-len-lt72 c = lattice-cut _ _ _ c.if-len-lt72.true c.less.ensures c.place.ensures

pub returns-else-len-lt72 : goal.returns-else-len-lt72
returns-else-len-lt72 c = lattice-is _ _ _ c.if-len-lt72.false c.grid.ensures

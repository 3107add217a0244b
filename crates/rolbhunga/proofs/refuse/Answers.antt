-- `rolbhunga::refuse` meets its contract: the scratch is cleared. Assumes nothing.
use mathlib.Core.Path.{refl}
use Rattle.rolbhunga.proofs.refuse.Goals as goal

pub returns : goal.returns
returns c = (refl, c.clear.ensures)

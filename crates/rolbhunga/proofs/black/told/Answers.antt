-- `rolbhunga::black::told` meets its contract: the call's promise, in numbers. Assumes nothing.
use Rattle.rolbhunga.proofs.BlackBytes.{told}
use Rattle.rolbhunga.proofs.black.told.Goals as goal

pub returns : goal.returns
returns g c = told _ c.black.result c.number.result _ c.black.ensures c.number.ensures

-- `rolbhunga::black::rolbhunga_black_f32` meets its contract: what is lent is as C passes it. Assumes nothing.
use Rattle.rolbhunga.proofs.black.rolbhunga_black_f32.Goals as goal

pub returns : goal.returns
returns c = rw c.lent.ensures at c.told.ensures

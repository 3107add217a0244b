-- `rolbhunga::black::rolbhunga_bytes_black_u16` meets its contract: what is lent is as C passes it. Assumes nothing.
use Rattle.rolbhunga.proofs.black.rolbhunga_bytes_black_u16.Goals as goal

pub returns : goal.returns
returns c = rw c.lent.ensures at c.told_in_bytes.ensures

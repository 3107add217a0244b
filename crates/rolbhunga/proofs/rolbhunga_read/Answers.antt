-- `rolbhunga::rolbhunga_read` meets its contract: the reading's numbers. Assumes nothing.
use Rattle.rolbhunga.proofs.rolbhunga_read.Goals as goal

pub returns : goal.returns
returns c = cc

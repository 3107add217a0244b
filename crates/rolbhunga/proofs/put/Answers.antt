-- `rolbhunga::put` meets its contract: by whether a run came to the samples. Assumes nothing.
use Rattle.rolbhunga.proofs.put.Goals as goal

pub returns-then-ran : goal.returns-then-ran
returns-then-ran g c = cc

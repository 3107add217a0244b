-- `rolbhunga::rolbhunga_run_f32` meets its contract: the run's promise, in numbers. Assumes nothing.
use Rattle.rolbhunga.proofs.Windows.{told}
use Rattle.rolbhunga.proofs.rolbhunga_run_f32.Goals as goal

pub returns : goal.returns
returns c = told _ _ c.run.result c.numbers.result _ _ _ c.run.ensures c.numbers.ensures

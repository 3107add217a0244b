-- `rolbhunga::rolbhunga_run_row` meets its contract: the row form's promise, in numbers. Assumes nothing.
use Rattle.rolbhunga.proofs.Rows.{told}
use Rattle.rolbhunga.proofs.rolbhunga_run_row.Goals as goal

pub returns : goal.returns
returns c =
    told _ c.run_row.result c.row_numbers.result _ c.run_row.ensures c.row_numbers.ensures

-- `run_row::step_one` meets its contract: the step's own, with the body as the entry has it. Assumes nothing.
use Rattle.run_row.specs.Rows.{frame_of}
use Rattle.run_row.proofs.Laws.{lent}
use Rattle.run_row.proofs.step_one.Goals as goal

pub returns : goal.returns
returns c =
    let a = c.args in
    let g = a.g in
    lent (frame_of g a.scale) g.x0 g.planes g.y a.list.now a.e a.op c.body.ensures
    a.row.now c.row_step.ensures

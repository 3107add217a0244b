-- `rolbhunga::row_in` meets its contract: decoded, run, and put back where the row was done. Assumes nothing.
use Rattle.rolbhunga.proofs.Rows.{left}
use Rattle.rolbhunga.proofs.row_in.Goals as goal

pub returns : goal.returns
returns c =
    let a = c.args in
    left a.w a.scale a.preview a.y a.list.now a.bytes.now _ a.room.now _ _ c.run_row-r.result
    c.is_row_done.result
    c.decode.ensures c.run_row-r.ensures c.is_row_done.ensures c.put.ensures

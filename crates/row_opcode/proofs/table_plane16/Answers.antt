-- `table_plane16` meets its contract: an empty table changes nothing. Assumes nothing.
use Rattle.dng.specs.Value.{map_table16}
use Rattle.row_opcode.proofs.Planes.{table_none}
use Rattle.row_opcode.proofs.table_plane16.Goals as goal

pub returns-else-n-gt0 : goal.returns-else-n-gt0
returns-else-n-gt0 c =
    let a = c.args in
    table_none a.k a.n (map_table16 a.n a.body.now) a.row.now c.if-n-gt0.false

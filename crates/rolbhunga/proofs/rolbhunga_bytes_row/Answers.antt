-- `rolbhunga::rolbhunga_bytes_row` meets its contract: by the test of the work room. Assumes nothing.
use borrow.Author.Rules.{rules}
use Rattle.rolbhunga.proofs.Rows.{part_length, part-fits, enough, short}
use Rattle.rolbhunga.proofs.rolbhunga_bytes_row.Goals as goal

pub slice_bounds-row_in-end-else-work-n : goal.slice_bounds-row_in-end-else-work-n
slice_bounds-row_in-end-else-work-n c = part_length _ _ c.if-work-n.false

pub row_in-r-requires : goal.row_in-r-requires
row_in-r-requires c = part-fits 4 _ _ c.if-work-n.false

pub returns-then-work-n : goal.returns-then-work-n
returns-then-work-n c = short _ _ _ _ c.if-work-n.true c.clear.ensures

pub returns-else-work-n : goal.returns-else-work-n
returns-else-work-n c =
    let a = c.args in
    enough a.w a.scale a.preview a.y a.list.now a.bytes.now _ a.work.now c.clear-else-work-n.new.room
    c.row_in-r.result
    c.row_numbers.result
    c.if-work-n.false c.row_in-r.ensures c.row_numbers.ensures
    _ c.clear-else-work-n.ensures (search rules)

-- `fix_columns::by_columns` meets its contract: what was gathered by columns, in order; or too many either way. Assumes nothing.
use Rattle.fix_columns.proofs.Turning.{turns, turned-all, over-turned}
use Rattle.fix_columns.proofs.by_columns.Goals as goal

pub returns : goal.returns
returns c =
    let a = c.args in
    let sorted = c.in_order in
    turned-all a.w a.body.now a.points a.rects c.requires a.marks.now _ _ _ _ sorted.result c.in_ok-n.ensures sorted.ensures
    sorted.auto.s c.gather.auto.marks

pub in_order-requires : goal.in_order-requires
in_order-requires c =
    let a = c.args in
    turns a.w a.body.now a.points a.rects c.requires _ _ _ c.in_ok-n.ensures

pub returns-in_err-n : goal.returns-in_err-n
returns-in_err-n c =
    let a = c.args in
    rw c.from_residual.ensures (over-turned a.w a.body.now a.points a.rects c.requires a.marks.now c.in_err-n.ensures)

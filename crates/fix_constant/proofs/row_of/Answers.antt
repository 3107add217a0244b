-- The product with the reciprocal is the row or one less.
use Rattle.fix_constant.proofs.Rows.{near-low, row_near, row_next}
use Rattle.fix_constant.proofs.row_of.Goals as goal

-- the row that the product says is not past the position's
pub overflow_sub-q : goal.overflow_sub-q
overflow_sub-q c = let a = c.args in near-low 4294967296 a.width a.q a.m c.requires.0 c.requires.1.0 c.requires.1.1

pub returns-then-q-e : goal.returns-then-q-e
returns-then-q-e c =
    let a = c.args in
    row_near 4294967296 a.width a.q a.m c.requires.0 c.requires.1.0 c.requires.1.1 c.if-q-e.true

pub returns-else-q-e : goal.returns-else-q-e
returns-else-q-e c =
    let a = c.args in
    row_next 4294967296 a.width a.q a.m c.requires.0 c.requires.1.0 c.requires.1.1 c.if-q-e.false

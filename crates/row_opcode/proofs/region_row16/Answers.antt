-- `region_row16` meets its contract: a row that has none of the region's samples stays. Assumes nothing.
use mathlib.Core.Bool.{cond}
use mathlib.Core.Path.{◌∙◌}
use borrow.Author.Rules.{rules}
use lib.Dec.{eqb}
use Rattle.dng.specs.Value.{map_table16}
use Rattle.row_opcode.specs.Plans.{table_size}
use Rattle.row_opcode.proofs.Planes.{row_in, row-untouched}
use Rattle.row_opcode.proofs.region_row16.Goals as goal

pub returns-then-touched : goal.returns-then-touched
returns-then-touched c =
    let a = c.args in
    let n = table_size a.a.task in
    c.each_plane.ensures (λ x k v. cond (eqb n 0) v (map_table16 n a.body.now v)) (λ s t k w l p. search rules)
    ∙ row_in a.g a.a.region (λ y x k v. cond (eqb n 0) v (map_table16 n a.body.now v)) a.row.now
    (c.touched.ensures.0 c.if-touched.true)

pub returns-else-touched : goal.returns-else-touched
returns-else-touched c =
    let a = c.args in
    let n = table_size a.a.task in
    row-untouched a.g a.a.region (λ y x k v. cond (eqb n 0) v (map_table16 n a.body.now v)) a.row.now
    (c.touched.ensures.1 c.if-touched.false)

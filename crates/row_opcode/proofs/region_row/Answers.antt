-- `region_row` meets its contract: a row that has none of the region's samples stays. Assumes nothing.
use mathlib.Core.Path.{◌∙◌}
use borrow.Author.Rules.{rules}
use Rattle.row_vignette.specs.Reach.{frame_at}
use Rattle.row_opcode.specs.Plans.{task_rule}
use Rattle.row_opcode.proofs.Planes.{row_in, row-untouched}
use Rattle.row_opcode.proofs.region_row.Goals as goal

pub returns-then-touched : goal.returns-then-touched
returns-then-touched c =
    let a = c.args in
    c.each_plane.ensures (task_rule (frame_at a.scale a.g.full_width a.g.full_height) a.a.region a.body.now a.a.task a.g.y) (λ s t k w l p. search rules)
    ∙ row_in a.g a.a.region (task_rule (frame_at a.scale a.g.full_width a.g.full_height) a.a.region a.body.now a.a.task) a.row.now
    (c.touched.ensures.0 c.if-touched.true)

pub returns-else-touched : goal.returns-else-touched
returns-else-touched c =
    let a = c.args in
    row-untouched a.g a.a.region (task_rule (frame_at a.scale a.g.full_width a.g.full_height) a.a.region a.body.now a.a.task) a.row.now
    (c.touched.ensures.1 c.if-touched.false)

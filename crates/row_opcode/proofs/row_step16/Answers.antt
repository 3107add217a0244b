-- `row_step16` meets its contract, as the opcode was prepared. Assumes nothing.
use mathlib.Core.Path.{◌∙◌}
use Rattle.dng.specs.Value.{rule16_of}
use Rattle.row_opcode.proofs.Plans.{leaves16, row16-is, idle, reached, begun}
use Rattle.row_opcode.proofs.Planes.{row-left}
use Rattle.row_opcode.proofs.row_step16.Goals as goal

pub returns-in-Nothing : goal.returns-in-Nothing
returns-in-Nothing c =
    let a = c.args in
    let w = idle a.op a.g.x0 a.g.full_width a.g.full_height c.requires.1 c.in-Nothing.is in
    row-left a.g.x0 a.g.planes a.g.y a.row.now (rule16_of a.op a.body.now)
    (w.rule16 a.body.now)

pub returns-in-Vignette : goal.returns-in-Vignette
returns-in-Vignette c =
    let a = c.args in
    let w = reached a.op a.g.x0 a.g.full_width a.g.full_height c.requires.1 c.in-Vignette.is in
    row-left a.g.x0 a.g.planes a.g.y a.row.now (rule16_of a.op a.body.now)
    (leaves16 a.op _ w.plan a.body.now)

pub returns-in-Area : goal.returns-in-Area
returns-in-Area c =
    let a = c.args in
    let w = begun a.op a.g.x0 a.g.full_width a.g.full_height c.requires.1 c.in-Area.is in
    c.region_row16.ensures
    ∙ row16-is a.op w.plan a.g.x0 a.g.planes a.g.y a.row.now a.body.now

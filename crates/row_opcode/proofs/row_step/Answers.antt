-- `row_step` meets its contract, as the opcode was prepared. Assumes nothing.
use Rattle.row_vignette.specs.Reach.{frame_at}
use Rattle.dng.specs.Value.{rule_of}
use Rattle.row_opcode.proofs.Plans.{idle}
use Rattle.row_opcode.proofs.Planes.{row-left}
use Rattle.row_opcode.proofs.row_step.Goals as goal

pub returns-in-Nothing : goal.returns-in-Nothing
returns-in-Nothing c =
    let a = c.args in
    row-left a.g.x0 a.g.planes a.g.y a.row.now (rule_of (frame_at a.scale a.g.full_width a.g.full_height) a.op a.body.now)
    ((idle a.op a.g.x0 a.g.full_width a.g.full_height c.requires.2 c.in-Nothing.is).rule a.scale a.body.now)

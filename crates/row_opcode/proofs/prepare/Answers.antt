-- `prepare` meets its contract, plan by plan; m2 taken apart. Assumes nothing.
use mathlib.Core.Path.{sym, ◌∙◌}
use Rattle.row_vignette.proofs.Reaching.{reaches, unusable}
use Rattle.row_opcode.proofs.Plans.{idle-vignette}
use Rattle.row_opcode.proofs.prepare.Goals as goal

pub returns-in-Some : goal.returns-in-Some
returns-in-Some c =
    let a = c.args in
    record {
      plan = sym c.plan_of.ensures ∙ c.in-Vignette.is;
      reaches = reaches _ a.full_width a.full_height c.m2.ensures c.in-Some.is;
    }

pub returns-in-None : goal.returns-in-None
returns-in-None c =
    let a = c.args in
    idle-vignette a.op _ a.full_width a.full_height (sym c.plan_of.ensures ∙ c.in-Vignette.is)
    (unusable _ a.full_width a.full_height c.m2.ensures c.in-None.is)

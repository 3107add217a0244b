-- `fix_near::beside` meets its contract: what is open one step away. Assumes nothing.
use mathlib.Core.Path.{◌∙◌}
use Rattle.num_sorted.specs.Sorts.{has}
use Rattle.fix_near.specs.Looks.{pair_of}
use Rattle.fix_near.proofs.Walking.{step_is}
use Rattle.fix_near.proofs.beside.Goals as goal

pub returns : goal.returns
returns c =
    let to = c.stepped in
    let a = c.args in
    c.sound_at.ensures
    ∙ step_is a.w a.period (has a.marks.now) a.from.x a.from.y to.result.x to.result.y (pair_of a.s) to.ensures.0 to.ensures.1

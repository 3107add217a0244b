-- `fix_places::free` meets its contract: what lies between two marks that follow each other is free. Assumes nothing.
use mathlib.Core.Path.{sym, ◌∙◌}
use native.Mathlib.Omega.{arith}
use borrow.Author.Tests.{leb-true}
use Rattle.fix_places.proofs.Between.{free-between}
use Rattle.fix_places.proofs.free.Goals as goal
use Rattle.fix_places.proofs.free.Goals.{then-at-marks, else-at-marks}

pub returns-then-under : goal.returns-then-under
returns-then-under c = λ e.
    let a = c.args in
    elim c.if-at-marks.branch [
      | then-at-marks w ↦ free-between a.marks.now a.at a.lo a.hi (w.under.ensures (sym w.value-is ∙ c.if-under.true)) (c.over.ensures e)
      | else-at-marks w ↦ absurd (omega (arith, leb-true _ _ (sym w.value-is ∙ c.if-under.true), w.if-at-marks.false))
    ]

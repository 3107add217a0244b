-- `fix_places::stands` meets its contract: what stands at an entry is marked. Assumes nothing.
use mathlib.Core.Path.{sym, ◌∙◌}
use borrow.Author.Tests.{eqb-true}
use Rattle.fix_places.proofs.Between.{standing}
use Rattle.fix_places.proofs.stands.Goals as goal

pub returns-then-at-marks : goal.returns-then-at-marks
returns-then-at-marks c = λ e.
    let a = c.args in
    standing a.marks.now a.at a.q c.if-at-marks.true (sym c.mark.ensures.0 ∙ eqb-true c.mark.result a.q e)

-- `fix_places::over` meets its contract: the marks ascend. Assumes nothing.
use mathlib.Core.Path.{subst}
use Prim.Native.Nat.{ℕ, ◌<◌}
use borrow.Author.Tests.{ltb-true}
use Rattle.fix_places.proofs.Between.{over-from}
use Rattle.fix_places.proofs.over.Goals as goal

pub returns-else-at-marks : goal.returns-else-at-marks
returns-else-at-marks c = λ e.
    over-from c.args.marks.now c.requires.1 c.args.at c.args.hi
    (subst (λ (z : ℕ). c.args.hi < z) c.mark.ensures.0 (ltb-true c.args.hi c.mark.result e))

-- `fix_places::under` meets its contract: the marks ascend. Assumes nothing.
use mathlib.Core.Path.{subst}
use Prim.Native.Nat.{ℕ, ◌<◌}
use native.Mathlib.Omega.{arith}
use borrow.Author.Tests.{ltb-true}
use Rattle.fix_places.proofs.Between.{under-from}
use Rattle.fix_places.proofs.under.Goals as goal

pub returns-else-at-eq0 : goal.returns-else-at-eq0
returns-else-at-eq0 c = λ e.
    under-from c.args.marks.now c.requires.1 c.args.at c.args.lo (omega arith) c.requires.0
    (subst (λ (z : ℕ). z < c.args.lo) c.mark.ensures.0 (ltb-true c.mark.result c.args.lo e))

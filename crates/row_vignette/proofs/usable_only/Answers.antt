-- `usable_only` meets its contract: each way out is a case of `reach_of`, by the two tests. Assumes nothing.
use mathlib.Core.Path.{sym}
use Rattle.row_vignette.proofs.Literals.{zero_is, infinite}
use Rattle.row_vignette.proofs.Reaching.{reach-usable, reach-low, reach-high}
use Rattle.row_vignette.proofs.usable_only.Goals as goal

pub returns-then-m-2 : goal.returns-then-m-2
returns-then-m-2 c = sym (reach-usable _ (rw zero_is at c.if-m.true) (rw infinite at c.if-m-2.true))

pub returns-else-m-2 : goal.returns-else-m-2
returns-else-m-2 c = sym (reach-high _ (rw zero_is at c.if-m.true) (rw infinite at c.if-m-2.false))

pub returns-else-m : goal.returns-else-m
returns-else-m c = sym (reach-low _ (rw zero_is at c.if-m.false))

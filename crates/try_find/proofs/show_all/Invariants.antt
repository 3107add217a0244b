-- `try_find::show_all` is safe and ends: each turn leaves less. Assumes nothing.
use Rattle.std.proofs.Common.{length}
use Rattle.try_find.proofs.show_all.Given as goal

abbrev pub decreases-loop-rest : goal.decreases-loop-rest
decreases-loop-rest l = length l.rest

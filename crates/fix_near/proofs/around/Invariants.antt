-- `fix_near::around` meets its contract: the walk over the steps. Assumes nothing.
use Rattle.num_sorted.specs.Sorts.{has}
use Rattle.fix_near.proofs.Walking.{Walked}
use Rattle.fix_near.proofs.around.Given as goal

abbrev pub invariant-loop-i : goal.invariant-loop-i
invariant-loop-i l = Walked l.w l.period (has l.marks) l.from.x l.from.y l.i l.near

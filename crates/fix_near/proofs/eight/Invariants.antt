-- `fix_near::eight` meets its contract: the walk over the steps. Assumes nothing.
use Rattle.fix_near.specs.Looks.{none}
use Rattle.fix_near.proofs.Walking.{Walked}
use Rattle.fix_near.proofs.eight.Given as goal

abbrev pub invariant-loop-s : goal.invariant-loop-s
invariant-loop-s l = Walked l.w l.period none l.from.x l.from.y l.s-index l.near

-- `num_zeros::steps` meets its contract. The loop's invariant: all up to p is passed. Assumes nothing.
use Prim.Native.Nat.{◌-◌}
use Rattle.num_zeros.specs.Zeros.{Passed}
use Rattle.num_zeros.proofs.steps.Given as goal

abbrev pub invariant-loop-p : goal.invariant-loop-p
invariant-loop-p g l = Passed l.s l.at l.end l.p

abbrev pub decreases-loop-p : goal.decreases-loop-p
decreases-loop-p g l = l.end - l.p

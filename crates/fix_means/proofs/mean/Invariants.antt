-- The sum, value by value.
use Rattle.std.proofs.Common.{◌+◌, get_or}
use Rattle.fix_means.proofs.Sums.{Summed}
use Rattle.fix_means.proofs.mean.Given as goal

abbrev pub invariant-loop-a : goal.invariant-loop-a
invariant-loop-a g l =
    Summed (λ a. g.S.Sample.to_float (get_or l.samples (a + l.plane) g.S.Sample.none)) l.at l.a-index l.sum

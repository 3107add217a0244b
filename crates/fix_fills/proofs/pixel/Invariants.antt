-- The planes before k are written, and none of them is read.
use Rattle.fix_fills.proofs.Planes.{Planes}
use Rattle.fix_fills.proofs.pixel.Given as goal

abbrev pub invariant-loop-k : goal.invariant-loop-k
invariant-loop-k g l =
    let s = g.S.Sample in Planes s.none s.to_float s.of_mean l.at l.planes l.from l.initial.samples l.samples l.k

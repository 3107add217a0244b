-- The marks before i are repaired, one after another.
use Rattle.fix_fills.proofs.Passing.{Passed}
use Rattle.fix_fills.proofs.fill.Given as goal

abbrev pub invariant-loop-i : goal.invariant-loop-i
invariant-loop-i g l =
    let s = g.S.Sample in Passed s.none s.to_float s.of_mean l.w l.step l.marks l.initial.samples l.samples l.done l.i

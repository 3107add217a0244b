use Rattle.fix_constant.specs.Parts.{same}
use Rattle.fix_constant.proofs.Scanning.{Scanned}
use Rattle.fix_constant.proofs.Scan.part.Given as goal

abbrev pub invariant-loop-x : goal.invariant-loop-x
invariant-loop-x g l =
    let s = l.self in
    Scanned s.w (same g.S.Sample.none g.S.PartialEq.eq s.w s.k s.samples.now) l.y l.end l.initial.marks l.marks l.held l.x

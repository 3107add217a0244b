use Rattle.std.proofs.Common.{◌-◌}
use Rattle.fix_constant.specs.Parts.{same}
use Rattle.fix_constant.proofs.Scanning.{Scanned}
use Rattle.fix_constant.proofs.Scan.row.Given as goal

abbrev pub invariant-loop-from : goal.invariant-loop-from
invariant-loop-from g l =
    let s = l.self in
    Scanned s.w (same g.S.Sample.none g.S.PartialEq.eq s.w s.k s.samples.now) l.y s.w.width l.initial.marks l.marks l.held l.from

abbrev pub decreases-loop-from : goal.decreases-loop-from
decreases-loop-from g l = l.self.w.width - l.from

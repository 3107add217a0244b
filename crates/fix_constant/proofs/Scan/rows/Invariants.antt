use Rattle.fix_constant.specs.Parts.{same}
use Rattle.fix_constant.proofs.Scanning.{Rows}
use Rattle.fix_constant.proofs.Scan.rows.Given as goal

abbrev pub invariant-loop-y : goal.invariant-loop-y
invariant-loop-y g l =
    let s = l.self in
    Rows s.w (same g.S.Sample.none g.S.PartialEq.eq s.w s.k s.samples.now) l.initial.marks l.marks l.held l.y

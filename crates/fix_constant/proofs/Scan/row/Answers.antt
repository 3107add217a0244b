use Rattle.std.proofs.Common.{rules, ◌≤◌, arith}
use Rattle.fix_constant.proofs.Scanning.{scan-join, scan-end, scan-many}
use Rattle.fix_constant.proofs.Scan.row.Goals as goal

pub loop-from-preserved : goal.loop-from-preserved
loop-from-preserved g c =
    let top : c.min-end.result ≤ c.args.self.now.w.width = omega arith in
    search (rules, scan-join)

pub returns-in_err-held : goal.returns-in_err-held
returns-in_err-held g c = search (rules, scan-many)

pub returns : goal.returns
returns g c = search (rules, scan-end)

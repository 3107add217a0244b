use Rattle.std.proofs.Common.{rules}
use Rattle.fix_constant.proofs.Scanning.{rows_start, rows-over}
use Rattle.fix_constant.proofs.Scan.rows.Goals as goal

pub loop-y-init : goal.loop-y-init
loop-y-init g c = rows_start _ _ _

pub returns-in_err-held : goal.returns-in_err-held
returns-in_err-held g c = search (rules, rows-over)

-- A part that is clear leaves the scratch as it is.
use Rattle.fix_constant.proofs.Scanning.{scan-clear}
use Rattle.fix_constant.proofs.Scan.block.Goals as goal

pub returns-then-clear : goal.returns-then-clear
returns-then-clear g c =
    scan-clear c.args.self.now.w c.args.y c.args.from c.args.end c.requires.0.order c.requires.1.1 (c.clear.ensures c.if-clear.true)

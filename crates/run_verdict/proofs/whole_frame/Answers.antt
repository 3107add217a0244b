-- `run_verdict::whole_frame` meets its contract, by the number that was answered. Assumes nothing.
use Rattle.run_verdict.proofs.Laws.{done, refused}
use Rattle.run_verdict.proofs.whole_frame.Goals as goal

pub returns-then-number-eq0 : goal.returns-then-number-eq0
returns-then-number-eq0 c = done _ _ _ _ _ c.if-number-eq0.true c.is_whole.ensures

pub returns-else-number-eq0 : goal.returns-else-number-eq0
returns-else-number-eq0 c = refused _ _ _ _ _ c.if-number-eq0.false

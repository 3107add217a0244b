-- `say_report::put_line_if` meets its contract. Assumes nothing.
use Rattle.say_report.proofs.Laws.{no_line, a-line}
use Rattle.say_report.proofs.put_line_if.Goals as goal

pub returns-then-n-eq0 : goal.returns-then-n-eq0
returns-then-n-eq0 c = no_line _ _ _ _ _ c.if-n-eq0.true

pub returns-else-n-eq0 : goal.returns-else-n-eq0
returns-else-n-eq0 c = a-line _ _ _ c.if-n-eq0.false c.put_line.ensures

-- `say_report::put_malformed` meets its contract: two lines, one behind the other. Assumes nothing.
use mathlib.Core.Path.{refl}
use lib.Dec.{lit≤}
use Rattle.say_report.specs.Report.{malformed_text}
use Rattle.say_report.proofs.Laws.{within-then, within-as}
use Rattle.say_report.proofs.put_malformed.Goals as goal

pub returns : goal.returns
unfolding malformed_text
returns c =
    within-as _ 512 (lit≤ tt) refl (within-then _ _ c.put_why-a.ensures c.put_line.ensures)

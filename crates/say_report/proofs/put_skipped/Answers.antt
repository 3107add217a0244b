-- `say_report::put_skipped` meets its contract. Assumes nothing.
use mathlib.Core.Path.{refl}
use native.Mathlib.Omega.{arith}
use lib.Dec.{lit≤}
use Rattle.say_report.specs.Report.{skipped_text}
use Rattle.say_report.proofs.Laws.{counted, within-then, within-as}
use Rattle.say_report.proofs.put_skipped.Goals as goal

pub put_line_if-requires : goal.put_line_if-requires
put_line_if-requires c =
    omega (
      arith,
      c.put_line_if-d.ensures.short,
      c.put_line_if-d.auto.out,
      c.put_line_if-c.ensures.short,
      c.put_line_if-c.auto.out,
      c.put_line_if-b.ensures.short,
      c.put_line_if-b.auto.out,
      c.put_line_if-a.ensures.short,
      c.put_line_if-a.auto.out,
      c.requires,
    )

pub returns : goal.returns
unfolding skipped_text
returns c =
    within-as _ 300 (lit≤ tt) refl
    (within-then _ _
    (within-then _ _
    (within-then _ _
    (within-then _ _ (counted _ _ _ c.count.ensures c.put_line_if-a.ensures)
    (counted _ _ _ c.count-2.ensures c.put_line_if-b.ensures))
    (counted _ _ _ c.count-3.ensures c.put_line_if-c.ensures))
    (counted _ _ _ c.count-4.ensures c.put_line_if-d.ensures))
    (counted _ _ _ c.count-5.ensures c.put_line_if.ensures))

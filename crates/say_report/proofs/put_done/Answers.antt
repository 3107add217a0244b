-- `say_report::put_done` meets its contract. Assumes nothing.
use Prim.Native.Nat.{ℕ}
use mathlib.Core.Path.{refl, ap}
use native.Mathlib.Omega.{arith}
use lib.Dec.{lit≤}
use lib.ListN.{take}
use Rattle.say_report.specs.Report.{skipped_text, done_text}
use Rattle.say_report.proofs.Laws.{within-then, within-as}
use Rattle.say_report.proofs.put_done.Goals as goal

pub put_verdict-requires : goal.put_verdict-requires
put_verdict-requires c =
    omega (
      arith,
      c.put_line_if-e.ensures.short,
      c.put_line_if-e.auto.out,
      c.put_line-d.ensures.short,
      c.put_line-d.auto.out,
      c.put_line-c.ensures.short,
      c.put_line-c.auto.out,
      c.put_skipped-b.ensures.short,
      c.put_skipped-b.auto.out,
      c.put_form-a.ensures.short,
      c.put_form-a.auto.out,
    )

pub returns : goal.returns
unfolding done_text
returns c =
    let a = c.args in
    let named = ap (λ (m : ℕ). skipped_text (take m a.names.now)) c.min-k.ensures in
    within-as _ 512 (lit≤ tt) refl
    (within-then _ _
    (within-then _ _
    (within-then _ _
    (within-then _ _ (within-then _ _ c.put_form-a.ensures (within-as 300 300 (lit≤ tt) named c.put_skipped-b.ensures)) c.put_line-c.ensures)
    c.put_line-d.ensures) c.put_line_if-e.ensures) c.put_verdict.ensures)

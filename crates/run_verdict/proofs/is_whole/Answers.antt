-- `run_verdict::is_whole` meets its contract, by the loop's invariant. Assumes nothing.
use mathlib.Core.Path.{ap, ◌∙◌}
use Rattle.dng.specs.Run.{kept_of}
use Rattle.list_read.proofs.Fold.{begin, item, stop, end}
use Rattle.run_verdict.specs.Verdict.{whole_items}
use Rattle.run_verdict.proofs.Laws.{settled, unsettled, none}
use Rattle.run_verdict.proofs.is_whole.Goals as goal

pub loop-k-init : goal.loop-k-init
loop-k-init c =
    let a = c.args in
    ap (λ l. whole_items a.full_width a.full_height (kept_of a.preview l)) (begin _ c.count-n.ensures)

pub returns-then-not-is_settled : goal.returns-then-not-is_settled
returns-then-not-is_settled c =
    unsettled _ _ _ _ _ (item _ _ _ _ c.loop-k-test.true c.step.ensures c.in-Ok.is) c.is_settled.ensures
    c.if-not-is_settled.true
    ∙ c.loop-k.invariant

pub loop-k-preserved : goal.loop-k-preserved
loop-k-preserved c =
    settled _ _ _ _ _ (item _ _ _ _ c.loop-k-test.true c.step.ensures c.in-Ok.is) c.is_settled.ensures
    c.if-not-is_settled.false
    ∙ c.loop-k.invariant

pub returns-in_default : goal.returns-in_default
returns-in_default c =
    none _ _ _ (stop _ _ _ _ c.loop-k-test.true c.step.ensures c.in_default.is) ∙ c.loop-k.invariant

pub returns : goal.returns
returns c =
    none _ _ _ (end c.args.list.now c.count-n.result c.loop-k.k c.loop-k.c c.loop-k-test.false) ∙ c.loop-k.invariant

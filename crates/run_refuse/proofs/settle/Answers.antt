-- `run_refuse::settle` meets its contract: the ranges first, then how the list was read. Assumes nothing.
use mathlib.Core.Path.{sym, ap₂, ◌∙◌}
use Rattle.run_refuse.specs.Plans.{plan_for, plan_of}
use Rattle.run_refuse.proofs.Cases.{reading-is, survey-is}
use Rattle.run_refuse.proofs.settle.Goals as goal

pub returns-then-not-in_range : goal.returns-then-not-in_range
unfolding plan_of
returns-then-not-in_range g c = simp (sym c.in_range.ensures ∙ c.if-not-in_range.true)

pub returns-in-Err : goal.returns-in-Err
unfolding plan_of
returns-in-Err g c =
    simp (sym c.in_range.ensures ∙ c.if-not-in_range.false, reading-is _ _ c.read-found.ensures ∙ c.in-Err.is)

pub returns : goal.returns
unfolding plan_of
returns g c =
    let s = survey-is _ _ c.read-found.ensures in
    simp (sym c.in_range.ensures ∙ c.if-not-in_range.false, reading-is _ _ c.read-found.ensures ∙ c.in_default.is)
    (c.settle_read.ensures ∙ ap₂ (λ t n. plan_for t n c.args.room) (c.takes.ensures _ _ s) (c.skips.ensures _ _ s))

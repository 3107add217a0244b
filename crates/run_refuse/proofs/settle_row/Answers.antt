-- `run_refuse::settle_row` meets its contract: the ranges first, then how the list was read, then whether the form takes it. Assumes nothing.
use mathlib.Core.Path.{sym, ap, ◌∙◌}
use borrow.Author.Tests.{not-true, not-false}
use Rattle.list_survey.specs.declared.Survey.{Survey}
use Rattle.list_survey.specs.Survey.{survey_on}
use Rattle.run_refuse.specs.Plans.{row_plan_for, row_plan_of}
use Rattle.run_refuse.proofs.Cases.{reading-is, survey-is}
use Rattle.run_refuse.proofs.settle_row.Goals as goal

pub returns-then-not-row_in_range : goal.returns-then-not-row_in_range
unfolding row_plan_of
returns-then-not-row_in_range c = simp (sym c.row_in_range.ensures ∙ c.if-not-row_in_range.true)

pub returns-in-Err : goal.returns-in-Err
unfolding row_plan_of
returns-in-Err c =
    simp (sym c.row_in_range.ensures ∙ c.if-not-row_in_range.false, reading-is _ _ c.read-found.ensures ∙ c.in-Err.is)

pub returns-then-not-found : goal.returns-then-not-found
unfolding row_plan_for row_plan_of survey_on
returns-then-not-found c =
    let s = ap (λ (v : Survey). v.takes_rows) (survey-is _ _ c.read-found.ensures) in
    simp (
      sym c.row_in_range.ensures ∙ c.if-not-row_in_range.false,
      reading-is _ _ c.read-found.ensures ∙ c.in_default.is,
      sym s ∙ not-true _ c.if-not-found.true,
    )

pub returns : goal.returns
unfolding row_plan_for row_plan_of survey_on
returns c =
    let s = survey-is _ _ c.read-found.ensures in
    simp (
      sym c.row_in_range.ensures ∙ c.if-not-row_in_range.false,
      reading-is _ _ c.read-found.ensures ∙ c.in_default.is,
      sym (ap (λ (v : Survey). v.takes_rows) s) ∙ not-false _ c.if-not-found.false,
      ap (λ (v : Survey). v.skips) s,
    )

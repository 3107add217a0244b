-- `run_refuse::U16Form::skips` meets its contract: the survey's own. Assumes nothing.
use Rattle.list_survey.specs.Survey.{survey_on}
use Rattle.run_refuse.proofs.U16Form.skips.Goals as goal

pub returns : goal.returns
unfolding survey_on
returns c n is e = simp e

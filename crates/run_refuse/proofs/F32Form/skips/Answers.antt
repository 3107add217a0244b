-- `run_refuse::F32Form::skips` meets its contract: the survey's own. Assumes nothing.
use mathlib.Core.Path.{ap}
use Rattle.list_survey.specs.declared.Survey.{Survey}
use Rattle.list_survey.specs.Survey.{survey_on}
use Rattle.run_refuse.proofs.F32Form.skips.Goals as goal

pub returns : goal.returns
unfolding survey_on
returns c n is e = ap (λ (s : Survey). s.skips) e

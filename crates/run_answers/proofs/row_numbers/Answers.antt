-- `run_answers::row_numbers` meets its contract: the definition's case, by computing.
use mathlib.Core.Path.{sym, ap, ◌∙◌}
use Rattle.dng.specs.Answer.{row_numbers_of}
use Rattle.run_answers.proofs.row_numbers.Goals as goal

pub returns-in-Malformed : goal.returns-in-Malformed
returns-in-Malformed c = c.malformed_numbers.ensures ∙ sym (ap row_numbers_of c.in-Malformed.is)

pub returns-in-Done : goal.returns-in-Done
returns-in-Done c = cc

pub returns-in-Range : goal.returns-in-Range
returns-in-Range c = cc

pub returns-in-NotTaken : goal.returns-in-NotTaken
returns-in-NotTaken c = cc

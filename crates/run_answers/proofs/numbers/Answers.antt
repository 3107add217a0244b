-- `run_answers::numbers` meets its contract: the definition's case, by computing.
use mathlib.Core.Path.{sym, ap, ◌∙◌}
use Rattle.dng.specs.Answer.{numbers_of}
use Rattle.run_answers.proofs.numbers.Goals as goal

pub returns-in-Malformed : goal.returns-in-Malformed
returns-in-Malformed c = c.malformed_numbers.ensures ∙ sym (ap numbers_of c.in-Malformed.is)

pub returns-in-Done : goal.returns-in-Done
returns-in-Done c = cc

pub returns-in-Range : goal.returns-in-Range
returns-in-Range c = cc

pub returns-in-NotTaken : goal.returns-in-NotTaken
returns-in-NotTaken c = cc

pub returns-in-Names : goal.returns-in-Names
returns-in-Names c = cc

pub returns-in-Marks : goal.returns-in-Marks
returns-in-Marks c = cc

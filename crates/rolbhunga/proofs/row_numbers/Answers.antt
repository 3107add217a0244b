-- `rolbhunga::row_numbers` meets its contract: the definition's case, by computing. Assumes nothing.
use mathlib.Core.Path.{sym, ap, ◌∙◌}
use Rattle.rolbhunga.specs.Calls.{row_numbers_for}
use Rattle.rolbhunga.proofs.row_numbers.Goals as goal

pub returns-in-Done : goal.returns-in-Done
returns-in-Done c = cc

pub returns-in-Range : goal.returns-in-Range
returns-in-Range c = cc

pub returns-in-Malformed : goal.returns-in-Malformed
returns-in-Malformed c = c.malformed_row.ensures ∙ sym (ap row_numbers_for c.in-Malformed.is)

pub returns-in-NotTaken : goal.returns-in-NotTaken
returns-in-NotTaken c = cc

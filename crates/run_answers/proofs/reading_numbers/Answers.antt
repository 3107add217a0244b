-- `run_answers::reading_numbers` meets its contract: the definition's case, by computing.
use mathlib.Core.Path.{sym, ap, ◌∙◌}
use Rattle.dng.specs.Answer.{reading_numbers_of}
use Rattle.run_answers.proofs.reading_numbers.Goals as goal

pub returns-in-Err : goal.returns-in-Err
returns-in-Err c = c.malformed_numbers.ensures ∙ sym (ap reading_numbers_of c.in-Err.is)
